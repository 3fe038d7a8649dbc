-- A hosted module on its node, in step with its logical state.
use Rattle.tdl_deploy.specs.AtRelease.{worst_case_of}
use Rattle.tdl_mode.specs.Offsets.{IsNext}
use Prim.Native.Nat.{◌∣◌}
use Rattle.std.specs.Prelude.{List, None, Option, Some, [], length, map, option_map, pos, replicate, slice_get, suc, unwrap_or, ℕ, ℤ, ◌++◌, ◌+◌, ◌<◌, ◌∷◌, ◌≡◌, ◌≤◌}
use Rattle.tdl_gen.specs.BlockNames.{BlockName, block_number}
use Rattle.tdl_image.specs.declared.hosted.Hosted.{Hosted}
use Rattle.tdl_mode.specs.Grains.{DividesCycles}
use Rattle.tdl_mode.specs.States.{Job, ModuleState, TaskState, invocation_of, result_of}
use Rattle.tdl_mode.specs.declared.program.Invocation.{Invocation}
use Rattle.tdl_mode.specs.declared.program.Mode.{Mode}
use Rattle.tdl_mode.specs.declared.program.Module.{Module}
use Rattle.tdl_mode.specs.declared.program.Task.{Task}
use Rattle.tdl_verify.specs.Covered.{covered_by}
use Rattle.tdl_verify.specs.States.{HostNow, Slot, TaskNow}

-- an active job of task t: of an invocation of mode k that began before offset d and ends at it or later
pub record IsJob (k : ℕ) (mode : Mode) (t d : ℕ) (job : Job) : Type 0 where
  pub mode' : job.mode ≡ k
  pub invocation : Invocation
  pub at : invocation_of mode.invocations job.invocation ≡ Some invocation
  pub task : invocation.task.0 ≡ t
  pub begun : invocation.s.0 < d
  pub open' : d ≤ invocation.e.0

-- A task's job, in the logical state and in its slot: it began before offset d and ends at it or later, and what its
-- windows cover is counted up to offset c. `covers` gives the microseconds that the windows of an invocation cover up
-- to an offset, `worst` the worst case of a task.
abbrev pub SlotPair : (k : ℕ) (mode : Mode) (covers : ℕ → ℕ → ℕ) (worst : ℕ → ℕ) (t d c : ℕ) → Task → List ℤ →
    Option Job → Slot → Type 0
SlotPair k mode covers worst t d c task outs None Slot.Idle = Unit {0}
SlotPair k mode covers worst t d c task outs (Some job) (Slot.Done md i values) = IsJob k mode t d job × (md ≡ job.mode)
    × (i ≡ job.invocation) × (values ≡ result_of task job.inputs outs)
SlotPair k mode covers worst t d c task outs (Some job) (Slot.Ready md i left cells) =
    IsJob k mode t d job × (md ≡ job.mode) × (i ≡ job.invocation)
    × (cells ≡ job.inputs ++ outs ++ replicate (length task.locals) (pos 0)) × (0 < left)
    × (left + covers job.invocation c ≤ worst t)
SlotPair k mode covers worst t d c task outs active slot = ⊥

-- a task in its logical state and on the node: its outputs are the same, and its slot holds its job
pub record TaskPair (k : ℕ) (mode : Mode) (covers : ℕ → ℕ → ℕ) (worst : ℕ → ℕ) (t d c : ℕ) (u : TaskState)
    (w : TaskNow) : Type 0 where
  pub outputs : w.outputs ≡ u.outputs
  pub slot : SlotPair k mode covers worst t d c u.definition u.outputs u.active w.slot

-- a pair at each place, the first being n
abbrev pub Pairs : (ℕ → TaskState → TaskNow → Type 0) → ℕ → List TaskState → List TaskNow → Type 0
Pairs P n [] [] = Unit {0}
Pairs P n (u ∷ us) (w ∷ ws) = P n u w × Pairs P (suc n) us ws
Pairs P n us ws = ⊥

-- the tasks from number n on, their jobs begun before offset d and what their windows cover counted up to offset c
abbrev pub TaskPairs : (k : ℕ) (mode : Mode) (covers : ℕ → ℕ → ℕ) (worst : ℕ → ℕ) (d c n : ℕ) →
    List TaskState → List TaskNow → Type 0
TaskPairs k mode covers worst d c n us ws = Pairs (λ t u w. TaskPair k mode covers worst t d c u w) n us ws

-- the microseconds that the windows of invocation n of mode k cover up to offset e
abbrev pub covers_of : ℕ → Hosted → ℕ → ℕ → ℕ
covers_of k h n e = covered_by k n e h.windows

-- the state of hosted module m beside its logical state, at some place of its cycle: its jobs began before offset d and
-- end at it or later, and what its windows cover is counted up to offset c; its trigger stands at the least offset from
-- d on
pub record HostPair (m : Module) (h : Hosted) (d c : ℕ) (r : ModuleState) (s : HostNow) : Type 0 where
  pub mode : Mode
  pub at : slice_get m.modes r.mode ≡ Some mode
  pub definition : r.definition ≡ m
  pub above : 0 < d
  pub within : d ≤ mode.period.0
  pub mode' : s.mode ≡ Some r.mode
  pub base : s.base ≡ r.base
  -- what divides all times of its modes divides the begin of the cycle
  pub grain : (g : ℕ) → DividesCycles g m → g ∣ r.base
  pub next : ℕ
  pub is_next : IsNext mode d next
  pub trigger : s.trigger ≡ Some (record { at = r.base + next; block = block_number m (BlockName.Ends r.mode next) })
  pub definitions : map (λ (u : TaskState). u.definition) r.tasks ≡ m.tasks
  pub tasks : TaskPairs r.mode mode (covers_of r.mode h) (worst_case_of m) d c 0
      r.tasks s.tasks
  pub actuators : s.actuators ≡ r.actuators
  pub sizes : length r.actuators ≡ length m.actuators

-- before instant x, above 0: all instants below x are over, and so are their microseconds
pub record HostFacts (m : Module) (h : Hosted) (x : ℕ) (r : ModuleState) (s : HostNow) : Type 0 where
  pub offset : ℕ
  pub now : x ≡ r.base + offset
  pub facts : HostPair m h offset offset r s

-- after the turn of instant x, before its microsecond
pub record HostAfter (m : Module) (h : Hosted) (x : ℕ) (r : ModuleState) (s : HostNow) : Type 0 where
  pub offset : ℕ
  pub now : x ≡ r.base + offset
  pub facts : HostPair m h (suc offset) offset r s
