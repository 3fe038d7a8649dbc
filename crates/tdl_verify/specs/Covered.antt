-- What the windows of a job cover of its cycle, and the job's slot along microseconds.
use Rattle.std.specs.Prelude.{ℕ, zero, suc, ◌+◌, ◌-◌, ◌<◌, ◌≤◌, min, ℤ, Bool, true, false, not, ◌&&◌, List, [], ◌∷◌, filter, length}
use Rattle.tdl_stack.specs.Running.{outputs_after}
use Rattle.tdl_image.specs.declared.hosted.TaskTable.{TaskTable}
use Rattle.tdl_image.specs.declared.hosted.ImageWindow.{ImageWindow}
use Rattle.tdl_verify.specs.States.{Slot, HostNow}
use Rattle.tdl_verify.specs.Micros.{is_live, is_job_of, cells_of, slot_run}

-- a processor window of an invocation of a mode
abbrev pub is_own : ℕ → ℕ → ImageWindow → Bool
is_own mode invocation w = not w.bus && is_job_of mode invocation w

-- 1 where the test holds, else 0
abbrev pub unit : Bool → ℕ
unit true = 1
unit false = 0

-- the number, where the test holds; else 0
abbrev pub only_if : Bool → ℕ → ℕ
only_if true n = n
only_if false n = 0

-- how many of the first d microseconds of a cycle lie in the window at an offset that is so long
abbrev pub covered : (offset size d : ℕ) → ℕ
covered offset size d = min (offset + size) d - min offset d

-- how many of the first d microseconds of a cycle the windows of an invocation of a mode cover
abbrev pub covered_by : ℕ → ℕ → ℕ → List ImageWindow → ℕ
covered_by mode invocation d [] = 0
covered_by mode invocation d (w ∷ ws) =
    only_if (is_own mode invocation w) (covered w.offset w.length d) + covered_by mode invocation d ws

-- at most one window is live in each of k microseconds from x on
abbrev pub AtMostOneLive : ℕ → ℕ → HostNow → List ImageWindow → Type 0
AtMostOneLive x k s windows = (y : ℕ) → x ≤ y → y < x + k → length (filter (is_live y s) windows) ≤ 1

-- the outputs of a job of a task that was released with these cells
abbrev pub job_outputs : TaskTable → List ℤ → List ℤ
job_outputs t cells = outputs_after (length t.inputs) (length t.outputs) t.body.instrs (cells_of t cells)

-- the slot of a task after k microseconds from x on, in which the module's mode and cycle stay
abbrev pub slot_along : ℕ → ℕ → HostNow → List ImageWindow → TaskTable → Slot → Slot
slot_along zero x s windows t slot = slot
slot_along (suc k) x s windows t slot =
    slot_along k (suc x) s windows t (slot_run (filter (is_live x s) windows) t slot)
