-- The forms whose program keeps its deadline and whose numbers are in their ranges.
use Rattle.std.specs.Prelude.{◌<◌, ◌≤◌}
use Rattle.tdl_plain.specs.declared.form.Form.{Form}
use Rattle.tdl_plain.specs.PlainProgram.{period_us}

-- the worst case is within the period, and the numbers are in their ranges
pub record IsRunnable (f : Form) : Type 0 where
  pub worst : 0 < f.worst
  pub within : f.worst ≤ period_us f
  pub period : f.period ≤ 10000
  pub initial : f.initial ≤ 2147483647
