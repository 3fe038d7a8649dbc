-- What files and sinks tell of themselves.
use Rattle.std.specs.Prelude.{ℕ, List}
use Rattle.std.specs.declared.option.Option.{Option}
use Rattle.tdl_io.specs.Outside.{Held, Counts}

-- what files hold, a count of their faults, and for each name its failed loads and saves; None for what they do not
-- tell
pub record FilesTold : Type 0 where
  pub holds : Option Held
  pub faults : ℕ
  pub failed_loads : Option Counts
  pub failed_saves : Option Counts

-- what a sink holds, or None where it does not tell it, and a count of its faults
pub record SinkTold : Type 0 where
  pub contents : Option (List ℕ)
  pub faults : ℕ
