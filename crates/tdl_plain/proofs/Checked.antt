-- A form passes its tests exactly where it is that of a plain program.
use Rattle.std.proofs.Common.{◌≡◌, ◌≤◌, ◌*◌, true, ◌&&◌, not, nat_le, refl, bytes_eq, leb-true, le-leb}
use Rattle.std.proofs.lemmas.Bool.{and_parts, and_from}
use Rattle.tdl_plain.specs.declared.form.Form.{Form}
use Rattle.tdl_plain.specs.PlainSource.{is_name, IsPlainForm}
use Rattle.tdl_plain.specs.Checking.{has_names, is_apart, is_in_range, is_lawful}
use Rattle.tdl_plain.proofs.Plain.{differ, told}

-- what `is_in_range` tests
record FiveBounds (f : Form) : Type 0 where
  pub period_from : 1 ≤ f.period
  pub period_to : f.period ≤ 10000
  pub worst_from : 1 ≤ f.worst
  pub worst_to : f.worst ≤ 1000 * f.period
  pub initial_to : f.initial ≤ 2147483647

-- a true test of the ranges
five_bounds : (f : Form) → is_in_range f ≡ true → FiveBounds f
five_bounds f h =
    let a = nat_le 1 f.period in
    let b = nat_le f.period 10000 in
    let c = nat_le 1 f.worst in
    let d = nat_le f.worst (1000 * f.period) in
    let four = and_parts (a && b && c && d) (nat_le f.initial 2147483647) h in
    let three = and_parts (a && b && c) d four.0 in
    let two = and_parts (a && b) c three.0 in
    let one = and_parts a b two.0 in
    record {
      period_from = leb-true 1 f.period one.0;
      period_to = leb-true f.period 10000 one.1;
      worst_from = leb-true 1 f.worst two.1;
      worst_to = leb-true f.worst (1000 * f.period) three.1;
      initial_to = leb-true f.initial 2147483647 four.1;
    }

-- a form that passes is lawful
pub lawful_from : (f : Form) → is_lawful f ≡ true → IsPlainForm f
lawful_from f h =
    let both = and_parts (has_names f && is_apart f) (is_in_range f) h in
    let named_apart = and_parts (has_names f) (is_apart f) both.0 in
    let named = named_apart.0 in
    let apart = named_apart.1 in
    let m = is_name f.module in
    let s = is_name f.sensor in
    let t = is_name f.task in
    let a = is_name f.input in
    let o = is_name f.output in
    let five = and_parts (m && s && t && a && o) (is_name f.mode) named in
    let four = and_parts (m && s && t && a) o five.0 in
    let three = and_parts (m && s && t) a four.0 in
    let two = and_parts (m && s) t three.0 in
    let one = and_parts m s two.0 in
    let x = not (bytes_eq f.sensor f.task) in
    let y = not (bytes_eq f.sensor f.mode) in
    let z = not (bytes_eq f.task f.mode) in
    let third = and_parts (x && y && z) (not (bytes_eq f.input f.output)) apart in
    let second = and_parts (x && y) z third.0 in
    let first = and_parts x y second.0 in
    let bounds = five_bounds f both.1 in
    record {
      module_name = one.0;
      sensor_name = one.1;
      task_name = two.1;
      input_name = three.1;
      output_name = four.1;
      mode_name = five.1;
      sensor_is_no_task = differ f.sensor f.task first.0;
      sensor_is_no_mode = differ f.sensor f.mode first.1;
      task_is_no_mode = differ f.task f.mode second.1;
      input_is_no_output = differ f.input f.output third.1;
      worst_from = bounds.worst_from;
      worst_to = bounds.worst_to;
      initial_to = bounds.initial_to;
      period_from = bounds.period_from;
      period_to = bounds.period_to;
    }

-- what must be so of the names that differ
lawful_apart : (f : Form) → IsPlainForm f → is_apart f ≡ true
lawful_apart f h =
    rw (
      told f.sensor f.task h.sensor_is_no_task,
      told f.sensor f.mode h.sensor_is_no_mode,
      told f.task f.mode h.task_is_no_mode,
      told f.input f.output h.input_is_no_output,
    ) refl

-- and of the numbers
lawful_range : (f : Form) → IsPlainForm f → is_in_range f ≡ true
lawful_range f h =
    rw (
      le-leb 1 f.period h.period_from,
      le-leb f.period 10000 h.period_to,
      le-leb 1 f.worst h.worst_from,
      le-leb f.worst (1000 * f.period) h.worst_to,
      le-leb f.initial 2147483647 h.initial_to,
    ) refl

-- a lawful form passes
pub lawful_passes : (f : Form) → IsPlainForm f → is_lawful f ≡ true
lawful_passes f h =
    rw (h.module_name, h.sensor_name, h.task_name, h.input_name, h.output_name, h.mode_name)
    (and_from (is_apart f) (is_in_range f) (lawful_apart f h) (lawful_range f h))
