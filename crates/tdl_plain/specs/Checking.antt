-- The tests of a form.
use Rattle.std.specs.Prelude.{Bool, ◌*◌, ◌&&◌, not, nat_le, bytes_eq}
use Rattle.tdl_plain.specs.declared.form.Form.{Form}
use Rattle.tdl_plain.specs.PlainSource.{is_name}

-- the six names are names
abbrev pub has_names : Form → Bool
has_names f =
    is_name f.module && is_name f.sensor && is_name f.task && is_name f.input && is_name f.output && is_name f.mode

-- the names that must differ do
abbrev pub is_apart : Form → Bool
is_apart f =
    not (bytes_eq f.sensor f.task) && not (bytes_eq f.sensor f.mode) && not (bytes_eq f.task f.mode) && not
    (bytes_eq f.input f.output)

-- its three numbers are in range
abbrev pub is_in_range : Form → Bool
is_in_range f =
    nat_le 1 f.period && nat_le f.period 10000 && nat_le 1 f.worst && nat_le f.worst (1000 * f.period) && nat_le
    f.initial 2147483647

-- the form passes the three tests
abbrev pub is_lawful : Form → Bool
is_lawful f = has_names f && is_apart f && is_in_range f
