-- The ends of tasks: what each leaves of a task, and which rows it shows.
use Rattle.std.specs.Prelude.{◌≡◌, ℕ, suc, Bool, true, List, [], ◌∷◌, if◌then◌else◌}
use Rattle.tdl_base.specs.Lists.{joined, numbered}
use Rattle.tdl_trace.specs.Shown.{Shown}
use Rattle.tdl_verify.specs.States.{Slot, TaskNow}
use Rattle.tdl_verify.specs.Turns.{output_rows}

-- a task after its end: a done job is committed, and the slot is idle
abbrev pub committed : TaskNow → TaskNow
committed u = by_slot u.slot
  where
    by_slot : Slot → TaskNow
    by_slot (Slot.Done mode invocation outputs) = record u { outputs = outputs; slot = Slot.Idle }
    by_slot slot = u

-- the rows of the end of task t
abbrev pub committed_rows : ℕ → ℕ → ℕ → ℕ → TaskNow → List Shown
committed_rows x node m t u = by_slot u.slot
  where
    by_slot : Slot → List Shown
    by_slot (Slot.Done mode invocation outputs) = output_rows x node m t outputs
    by_slot slot = []

-- the slot has no job that is not done
abbrev pub NotReady : Slot → Type 0
NotReady (Slot.Ready mode invocation left cells) = ⊥
NotReady slot = Unit {0}

-- no task whose number passes has a job that is not done
abbrev pub NoneReady : (ℕ → Bool) → ℕ → List TaskNow → Type 0
NoneReady p n [] = Unit {0}
NoneReady p n (u ∷ us) = (p n ≡ true → NotReady u.slot) × NoneReady p (suc n) us

-- the tasks after the ends of those whose numbers pass
abbrev pub ended_tasks : (ℕ → Bool) → ℕ → List TaskNow → List TaskNow
ended_tasks p n us = numbered n (λ t u. if p t then committed u else u) us

-- the rows of these ends
abbrev pub ended_rows : ℕ → ℕ → ℕ → (ℕ → Bool) → ℕ → List TaskNow → List Shown
ended_rows x node m p n us = joined (numbered n (λ t u. if p t then committed_rows x node m t u else []) us)
