-- A microsecond of a node's processor.
use Rattle.std.specs.Prelude.{ℕ, zero, suc, ◌+◌, ℤ, Bool, true, false, not, ◌&&◌, ◌||◌, ◌==◌, nat_lt, nat_le, List, [], ◌∷◌, ◌++◌, map, filter, length, flat_map, Option, Some, None, option_map, unwrap_or, if◌then◌else◌}
use Rattle.std.specs.List.{list_any}
use Rattle.tdl_base.specs.Lists.{first_of}
use Rattle.tdl_trace.specs.Shown.{Shown}
use Rattle.tdl_base.specs.Cells.{Cells}
use Rattle.tdl_stack.specs.Running.{outputs_after}
use Rattle.tdl_image.specs.declared.hosted.TaskTable.{TaskTable}
use Rattle.tdl_image.specs.declared.hosted.ImageWindow.{ImageWindow}
use Rattle.tdl_verify.specs.States.{Slot, TaskNow, Trigger, HostNow, Part, Stretch, NodeNow}
use Rattle.tdl_verify.specs.Turns.{is_mode}

-- a processor window is live in the microsecond x
abbrev pub is_live : ℕ → HostNow → ImageWindow → Bool
is_live x s w =
    not w.bus && (is_mode w.mode s.mode && (nat_le (s.base + w.offset) x && nat_lt x (s.base + w.offset + w.length)))

-- the live windows of a part
abbrev pub live : ℕ → Part → List ImageWindow
live x (Part.Host h s) = filter (is_live x s) h.windows
live x (Part.Outside p s) = []

-- the cells of a job of a task
abbrev pub cells_of : TaskTable → List ℤ → Cells
cells_of t values = record { kinds = t.inputs ++ map (λ o. o.kind) t.outputs ++ t.locals; values = values }

-- a job with one unit less; at 0 its body is run and it is done
abbrev pub worked : TaskTable → ℕ → ℕ → ℕ → List ℤ → Slot
worked t mode invocation zero cells = Slot.Ready mode invocation 0 cells
worked t mode invocation (suc zero) cells =
    Slot.Done mode invocation (outputs_after (length t.inputs) (length t.outputs) t.body.instrs (cells_of t cells))
worked t mode invocation (suc (suc left)) cells = Slot.Ready mode invocation (suc left) cells

-- the job is the window's
abbrev pub is_job_of : ℕ → ℕ → ImageWindow → Bool
is_job_of mode invocation w = w.mode == mode && w.invocation == invocation

-- a slot after a microsecond in which these windows are live
abbrev pub slot_run : List ImageWindow → TaskTable → Slot → Slot
slot_run windows t Slot.Idle = Slot.Idle
slot_run windows t (Slot.Ready mode invocation left cells) =
    if list_any (is_job_of mode invocation) windows then worked t mode invocation left cells else Slot.Ready mode
    invocation left cells
slot_run windows t (Slot.Done mode invocation outputs) = Slot.Done mode invocation outputs

-- the tasks after it
abbrev pub tasks_run : List ImageWindow → List TaskTable → List TaskNow → List TaskNow
tasks_run windows (t ∷ ts) (u ∷ us) = record u { slot = slot_run windows t u.slot } ∷ tasks_run windows ts us
tasks_run windows ts us = us

-- a part after the microsecond x
abbrev pub run_part : ℕ → Part → Part
run_part x (Part.Host h s) =
    Part.Host h (record s { tasks = tasks_run (filter (is_live x s) h.windows) h.tasks s.tasks })
run_part x (Part.Outside p s) = Part.Outside p s

-- the stretches that begin in the microsecond x: of each ready job in a live window
abbrev pub stretches : ℕ → Part → List Stretch
stretches x (Part.Outside p s) = []
stretches x (Part.Host h s) = flat_map by_window (filter (is_live x s) h.windows)
  where
    of_slot : ImageWindow → ℕ → Slot → List Stretch
    of_slot w t (Slot.Ready mode invocation left cells) =
        if is_job_of mode invocation w
        then record {
          owner = h.number.0;
          task = t;
          mode = mode;
          invocation = invocation;
          window_end = s.base +
              w.offset + w.length;
          from = x;
        } ∷ []
        else []
    of_slot w t slot = []

    by_task : ImageWindow → ℕ → List TaskNow → List Stretch
    by_task w t [] = []
    by_task w t (u ∷ us) = of_slot w t u.slot ++ by_task w (suc t) us

    by_window : ImageWindow → List Stretch
    by_window w = by_task w 0 s.tasks

-- an open stretch goes on; else one may begin
abbrev pub opened : Option Stretch → Option Stretch → Option Stretch
opened (Some s) next = Some s
opened None next = next

-- a node after the microsecond x, or none where two windows are live
abbrev pub micro : ℕ → NodeNow → Option NodeNow
micro x n = by_count (nat_lt 1 (length (flat_map (live x) n.parts)))
  where
    by_count : Bool → Option NodeNow
    by_count true = None
    by_count false =
        Some (record n
        { parts = map (run_part x) n.parts; running = opened n.running (first_of (flat_map (stretches x) n.parts)) })

-- the job of a stretch is still ready
abbrev pub is_working : Stretch → Part → Bool
is_working r (Part.Outside p s) = false
is_working r (Part.Host h s) = h.number.0 == r.owner && list_any (λ (u : TaskNow). is_ready u.slot) s.tasks
  where
    is_ready : Slot → Bool
    is_ready (Slot.Ready mode invocation left cells) = mode == r.mode && invocation == r.invocation
    is_ready slot = false

-- a trigger of the stretch's module is due at x
abbrev pub is_called : ℕ → Stretch → Part → Bool
is_called x r (Part.Outside p s) = false
is_called x r (Part.Host h s) =
    h.number.0 == r.owner && unwrap_or (option_map (λ (t : Trigger). t.at == x) s.trigger) false

-- a stretch ends at x: its job is done, its window ends, its module is called, or the horizon is reached
abbrev pub is_ended : ℕ → ℕ → List Part → Stretch → Bool
is_ended horizon x parts r =
    not (list_any (is_working r) parts) || (r.window_end == x || (list_any (is_called x r) parts || x == horizon))

-- the row of a stretch that ends at x
abbrev pub ran_rows : ℕ → ℕ → ℕ → NodeNow → List Shown
ran_rows horizon x node n = unwrap_or (option_map row n.running) []
  where
    row : Stretch → List Shown
    row r = if is_ended horizon x n.parts r then Shown.Ran x node r.owner r.task r.from ∷ [] else []

-- a node with such a stretch closed
abbrev pub closed : ℕ → ℕ → NodeNow → NodeNow
closed horizon x n = record n { running = unwrap_or (option_map kept n.running) None }
  where
    kept : Stretch → Option Stretch
    kept r = if is_ended horizon x n.parts r then None else Some r
