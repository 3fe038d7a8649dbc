-- What a job is after it ran for some microseconds.
use Rattle.std.specs.Prelude.{◌≡◌, ℕ, ◌-◌, ◌<◌, ◌≤◌, List}
use Rattle.tdl_stack.specs.declared.instr.Instr.{Instr}
use Rattle.tdl_task.specs.declared.states.Ran.{Ran}
use Rattle.tdl_task.specs.declared.states.Ran.TheVariants.{Still, Done}
use Rattle.tdl_task.specs.Jobs.{ReadyJob, values_after}

-- it has that much less left where they do not reach what it had left, and is done where they do: its cells are then
-- as its code leaves them
abbrev pub IsRun : ℕ → List Instr → ReadyJob → Ran → Type 0
IsRun us code r (Still s) = (us < r.remaining) × (s ≡ record r { remaining = r.remaining - us })
IsRun us code r (Done d) =
    (r.remaining ≤ us)
    × (d ≡ record { job = r.job; held = record { task = r.held.task; values = values_after code r.held } })
