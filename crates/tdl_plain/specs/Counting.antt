-- The form of the module P, which counts.
use Rattle.std.specs.Prelude.{codes}
use Rattle.tdl_plain.specs.declared.form.Form.{Form}

-- the form of P: its worst case 200 us, its period 5 ms
abbrev pub counting_form : Form
counting_form = record {
  «module» = codes "P";
  sensor = codes "s";
  task = codes "inc";
  worst = 200;
  input = codes "a";
  output = codes "o";
  initial = 10;
  mode = codes "main";
  period = 5;
}
