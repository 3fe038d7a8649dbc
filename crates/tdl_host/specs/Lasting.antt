-- Listed times of jobs that all take some time.
use Rattle.std.specs.Prelude.{◌<◌, ℕ, All, List}
use Rattle.tdl_scen.specs.declared.entries.TaskTimes.{TaskTimes}

-- every listed time is above 0
abbrev pub AreLasting : List TaskTimes → Type 0
AreLasting times = All (λ (entry : TaskTimes). All (λ (time : ℕ). 0 < time) entry.times) times
