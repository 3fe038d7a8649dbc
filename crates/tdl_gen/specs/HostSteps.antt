-- What the blocks of a hosted module do at an offset of its mode: each as a move of its part in a phase.
use Rattle.std.specs.Prelude.{◌≡◌, ℕ, suc, ◌<◌, ℤ, pos, Bool, true, false, ◌&&◌, ◌==◌, List, [], ◌∷◌, ◌++◌, map, filter, find, length, replicate, Option, Some, None, option_map, unwrap_or, slice_get, if◌then◌else◌}
use Rattle.std.specs.List.{list_any}
use Rattle.tdl_base.specs.Lists.{changed_at, joined, numbered}
use Rattle.tdl_base.specs.Numbers.{narrowed}
use Rattle.tdl_base.specs.declared.kinds.Kind.{Kind}
use Rattle.tdl_base.specs.declared.kinds.Kind.TheVariants.{Long}
use Rattle.tdl_body.specs.declared.tree.Expr.{Expr}
use Rattle.tdl_body.specs.Values.{Look, value_of, holds}
use Rattle.tdl_mode.specs.declared.program.Module.{Module}
use Rattle.tdl_mode.specs.declared.program.Mode.{Mode}
use Rattle.tdl_mode.specs.declared.program.Invocation.{Invocation}
use Rattle.tdl_mode.specs.declared.program.Update.{Update}
use Rattle.tdl_mode.specs.declared.program.Switch.{Switch}
use Rattle.tdl_mode.specs.Offsets.{is_offset}
use Rattle.tdl_mode.specs.Phases.{narrowed_args}
use Rattle.tdl_mode.specs.States.{TaskState}
use Rattle.tdl_trace.specs.Shown.{Shown}
use Rattle.std.specs.Option.{option_to_list}
use Rattle.tdl_image.specs.declared.hosted.Hosted.{Hosted}
use Rattle.tdl_image.specs.declared.hosted.TaskTable.{TaskTable}
use Rattle.tdl_base.specs.Sensed.{Sensed}
use Rattle.tdl_verify.specs.States.{Slot, TaskNow, HostNow, Part, Times}
use Rattle.tdl_verify.specs.Turns.{is_mode}
use Rattle.tdl_verify.specs.Sweeps.{Move}
use Rattle.tdl_gen.specs.BlockNames.{BlockName, block_number, guard_names, driver_names, call_names, release_names, number_in}
use Rattle.tdl_gen.specs.Blocks.{blocks_of}
use Rattle.tdl_gen.specs.Tables.{coded}

-- a part has such a move in a phase: from this state to that, with these rows and at most so many instructions
pub record MovesTo (x node : ℕ) (sensed : Sensed) (times : Times) (phase : ℕ) (Fit : List Part → Type 0)
    (before after : Part) (rows : List Shown) (most : ℕ) : Type 0 where
  pub move : Move x node sensed times phase Fit
  pub from : move.before ≡ before
  pub to : move.after ≡ after
  pub shows : move.rows ≡ rows
  pub cost : move.cost ≡ most

-- a host with the blocks of a module, of which this is mode k, and this an offset of it
pub record AtOffset (h : Hosted) (m : Module) (k o : ℕ) (mode : Mode) : Type 0 where
  pub blocks : h.blocks ≡ blocks_of m
  pub mode_at : slice_get m.modes k ≡ Some mode
  pub offset : is_offset mode o ≡ true

-- the host whose trigger stands at an instant, for a block
abbrev pub armed : HostNow → ℕ → ℕ → HostNow
armed s at block = record s { trigger = Some (record { at = at; block = block }) }

-- the guard stands at its number
abbrev pub HasGuard : Hosted → ℕ → Option Expr → Type 0
HasGuard h n None = Unit {0}
HasGuard h n (Some g) = slice_get h.guards n ≡ Some (coded g)

-- ---- phase 1

-- an invocation of task t ends at offset o
abbrev pub ends_at : Mode → ℕ → ℕ → Bool
ends_at mode o t = list_any (λ i. i.task.0 == t && i.e.0 == o) mode.invocations

-- ---- phase 2

-- the updates of actuator a at offset o
abbrev pub updates_of : Mode → ℕ → ℕ → List Update
updates_of mode o a = filter (λ u. u.actuator == a && u.at.0 == o) mode.updates

-- the update's driver and guard stand at their numbers
pub record HasUpdate (h : Hosted) (m : Module) (k a : ℕ) (u : Update) : Type 0 where
  pub driver : slice_get h.drivers (number_in (driver_names m) k u.act) ≡
      Some (record { actuator = a; value = coded u.value })
  pub guard : HasGuard h (number_in (guard_names m) k u.act) u.guard

-- the drivers and guards of all these updates stand at their numbers
abbrev pub AllHave : Hosted → Module → ℕ → ℕ → List Update → Type 0
AllHave h m k a [] = Unit {0}
AllHave h m k a (u ∷ us) = HasUpdate h m k a u × AllHave h m k a us

-- at most one item
abbrev pub AtMostOne : {A : Type 0} → List A → Type 0
AtMostOne [] = Unit {0}
AtMostOne (a ∷ []) = Unit {0}
AtMostOne (a ∷ b ∷ more) = ⊥

-- each actuator has at most one update, whose driver and guard stand at their numbers
abbrev pub AllOnce : Hosted → Module → ℕ → (ℕ → List Update) → ℕ → List ℤ → Type 0
AllOnce h m k f n [] = Unit {0}
AllOnce h m k f n (v ∷ vs) = (AtMostOne (f n) × AllHave h m k n (f n)) × AllOnce h m k f (suc n) vs

-- the kind of an actuator
abbrev pub kind_at : Hosted → ℕ → Kind
kind_at h a = unwrap_or (option_map (λ p. p.kind) (slice_get h.actuators a)) Long

-- what is taken of the updates of one actuator
abbrev pub value_taken : Hosted → Look → ℕ → List Update → Option ℤ
value_taken h look a us =
    option_map (λ u. narrowed (kind_at h a) (value_of u.value look)) (find (λ u. holds u.guard look) us)

-- the actuators after the updates
abbrev pub updated : Hosted → Look → (ℕ → List Update) → ℕ → List ℤ → List ℤ
updated h look f n vs = numbered n (λ a v. unwrap_or (value_taken h look a (f a)) v) vs

-- the rows of all actuators that are updated
abbrev pub updated_rows : ℕ → ℕ → Hosted → Look → (ℕ → List Update) → ℕ → List ℤ → List Shown
updated_rows x node h look f n vs =
    joined (numbered n (λ a v.
    option_to_list (option_map (λ w. Shown.Act x node h.number.0 a w) (value_taken h look a (f a)))) vs)

-- ---- phase 3

-- the guards of these switches stand at their numbers
abbrev pub AllGuards : Hosted → Module → ℕ → List Switch → Type 0
AllGuards h m k [] = Unit {0}
AllGuards h m k (w ∷ ws) = HasGuard h (number_in (guard_names m) k w.act) w.guard × AllGuards h m k ws

-- a mode that is there and lasts, so that it has a block of phase 4 at its beginning
pub record CanEnter (m : Module) (j : ℕ) : Type 0 where
  pub mode : Mode
  pub at : slice_get m.modes j ≡ Some mode
  pub lasts : 0 < mode.period.0

-- the host in a mode from x on, with a trigger for the first starts of the mode
abbrev pub entering : ℕ → Module → HostNow → ℕ → HostNow
entering x m s j = armed (record s { mode = Some j; base = x }) x (block_number m (BlockName.Starts j 0))

-- the row of a mode that is entered from another
abbrev pub entered_rows : ℕ → ℕ → Hosted → ℕ → HostNow → List Shown
entered_rows x node h j s = if is_mode j s.mode then [] else Shown.Mode x node h.number.0 j ∷ []

-- where phase 3 leads: into the mode of a switch, or the mode again at the end of its period, or on
abbrev pub after_phase_three : ℕ → Module → (k o : ℕ) → HostNow → Option Switch → Bool → HostNow
after_phase_three x m k o s (Some w) over = entering x m s w.target.0
after_phase_three x m k o s None true = entering x m s k
after_phase_three x m k o s None false = armed s x (block_number m (BlockName.Starts k o))

-- the rows of phase 3
abbrev pub switched_rows : ℕ → ℕ → Hosted → ℕ → HostNow → Option Switch → Bool → List Shown
switched_rows x node h k s (Some w) over = entered_rows x node h w.target.0 s
switched_rows x node h k s None true = entered_rows x node h k s
switched_rows x node h k s None false = []

-- ---- phase 4

-- the tables of an invocation stand at their numbers
pub record HasStart (h : Hosted) (m : Module) (k n : ℕ) (i : Invocation) (table : TaskTable) : Type 0 where
  pub guard : HasGuard h (number_in (guard_names m) k i.act) i.guard
  pub release : slice_get h.releases (number_in (release_names m) k n) ≡
      Some (record { mode = k; invocation = n; call = number_in (call_names m) k i.act })
  pub call : slice_get h.calls (number_in (call_names m) k i.act) ≡
      Some (record { task = i.task.0; args = map coded i.args })
  pub tasks : slice_get h.tasks i.task.0 ≡ Some table

-- the slot of a task is idle
pub record IsFree (t : ℕ) (tasks : List TaskNow) : Type 0 where
  pub outputs : List ℤ
  pub count : ℕ
  pub at : slice_get tasks t ≡ Some (record { outputs = outputs; slot = Slot.Idle; released = count })

-- a task whose job of invocation n of mode k starts
abbrev pub started : Times → Hosted → ℕ → Look → TaskTable → ℕ → Invocation → TaskNow → TaskNow
started times h k look table n i u = record u {
  slot = Slot.Ready k n (times h.number.0 i.task.0 (suc u.released))
      (narrowed_args table.inputs i.args look ++ u.outputs ++ replicate (length table.locals) (pos 0));
  released = suc u.released;
}

-- the tasks after invocation n, where it starts at offset o and its guard holds
abbrev pub start_taken : Times → Hosted → (k o : ℕ) → Look → (ℕ → TaskTable) → ℕ → Invocation → List TaskNow →
    List TaskNow
start_taken times h k o look tables n i ts =
    if i.s.0 == o && holds i.guard look then changed_at i.task.0 (started times h k look (tables i.task.0) n i) ts
    else ts

-- the tasks after the starts of invocations from number n on
abbrev pub all_started : Times → Hosted → (k o : ℕ) → Look → (ℕ → TaskTable) → ℕ → List Invocation → List TaskNow →
    List TaskNow
all_started times h k o look tables n [] ts = ts
all_started times h k o look tables n (i ∷ is) ts =
    all_started times h k o look tables (suc n) is (start_taken times h k o look tables n i ts)

-- each that starts has its tables, and a free slot
abbrev pub AllFree : Times → Hosted → Module → (k o : ℕ) → Look → (ℕ → TaskTable) → ℕ → List Invocation →
    List TaskNow → Type 0
AllFree times h m k o look tables n [] ts = Unit {0}
AllFree times h m k o look tables n (i ∷ is) ts =
    (i.s.0 == o ≡ true → HasStart h m k n i (tables i.task.0) × IsFree i.task.0 ts)
    × AllFree times h m k o look tables (suc n) is (start_taken times h k o look tables n i ts)

-- the outputs of tasks
abbrev pub outputs_of : List TaskNow → List (List ℤ)
outputs_of ts = map (λ (u : TaskNow). u.outputs) ts

-- the tasks of a host hold the outputs of these logical states
abbrev pub HasOutputs : HostNow → List TaskState → Type 0
HasOutputs s us = outputs_of s.tasks ≡ map (λ (u : TaskState). u.outputs) us
