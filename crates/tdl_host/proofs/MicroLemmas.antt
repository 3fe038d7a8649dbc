-- The tasks of a module after a microsecond.
use Rattle.std.proofs.Common.{◌≡◌, List, [], ◌∷◌, map, refl, ap, ap₂}
use Rattle.tdl_image.specs.declared.hosted.TaskTable.{TaskTable}
use Rattle.tdl_image.specs.declared.hosted.ImageWindow.{ImageWindow}
use Rattle.tdl_verify.specs.States.{Slot, TaskNow}
use Rattle.tdl_verify.specs.Micros.{slot_run, tasks_run}
use Rattle.tdl_host.specs.Hosts.{TaskView, states_of, tables_of, worked_in}

slot_run-idle : (t : TaskTable) (slot : Slot) → slot_run [] t slot ≡ slot
slot_run-idle t Slot.Idle = refl
slot_run-idle t (Slot.Ready mode invocation left cells) = refl
slot_run-idle t (Slot.Done mode invocation outputs) = refl

-- with no live window, no task works
pub tasks_run-idle : (ts : List TaskTable) (us : List TaskNow) → tasks_run [] ts us ≡ us
tasks_run-idle [] us = refl
tasks_run-idle (t ∷ ts) [] = refl
tasks_run-idle (t ∷ ts) (u ∷ us) =
    ap₂ (λ (slot : Slot) (rest : List TaskNow). record u { slot = slot } ∷ rest) (slot_run-idle t u.slot)
    (tasks_run-idle ts us)

-- tasks that worked in a window, each with its table
pub worked-states : (w : ImageWindow) (us : List TaskView) →
    states_of (map (worked_in w) us) ≡ tasks_run (w ∷ []) (tables_of us) (states_of us)
worked-states w [] = refl
worked-states w (u ∷ us) =
    ap (λ (rest : List TaskNow). record u.now { slot = slot_run (w ∷ []) u.table u.now.slot } ∷ rest)
    (worked-states w us)

-- they keep their tables
pub worked-tables : (w : ImageWindow) (us : List TaskView) → tables_of (map (worked_in w) us) ≡ tables_of us
worked-tables w [] = refl
worked-tables w (u ∷ us) = ap (λ (rest : List TaskTable). u.table ∷ rest) (worked-tables w us)
