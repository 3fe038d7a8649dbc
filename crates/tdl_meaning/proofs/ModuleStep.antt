-- One instant of a module: where its node has the right outputs after phase 1, its state comes to the program's next.
use Rattle.std.proofs.Common.{◌≡◌, ℕ, suc, ◌+◌, ℤ, pos, List, [], ◌∷◌, map, true, false, ◌||◌, ◌==◌, Option, Some, None, refl, ap, sym, ◌∙◌, inl, inr, arith}
use Rattle.std.specs.Prelude.{◌⊎◌, slice_get, slice_index_or, option_map, unwrap_or, if◌then◌else◌}
use Rattle.std.specs.List.{list_any}
use Rattle.std.proofs.lemmas.Bool.{eqb-true, eq-eqb}
use Rattle.std.proofs.lemmas.Option.{slice_get-map}
use Rattle.tdl_base.specs.declared.numbers.PortKey.{PortKey}
use Rattle.tdl_mode.specs.declared.program.Module.{Module}
use Rattle.tdl_mode.specs.declared.program.Task.{Task}
use Rattle.tdl_base.specs.Sensed.{Sensed}
use Rattle.tdl_mode.specs.States.{TaskState, ModuleState, State, outputs_in, output_at}
use Rattle.tdl_mode.specs.Phases.{task_after, phase_one}
use Rattle.tdl_mode.specs.Instants.{alone, logical}
use Rattle.tdl_mode.specs.Imports.{is_among}
use Rattle.tdl_image.specs.declared.stub.Stub.{Stub}
use Rattle.tdl_image.specs.declared.stub.StubTask.{StubTask}
use Rattle.tdl_verify.specs.States.{TaskNow, StubNow, Part, part_number, part_outputs, outputs_on}
use Rattle.tdl_gen.specs.Tables.{stub_tasks, initials}
use Rattle.tdl_mode.proofs.ModuleByModule.{logical-alone}
use Rattle.tdl_gen.proofs.BlockPlaces.{any-joined}
use Rattle.tdl_mode.specs.WellFormed.{ReadsPort, WellModule}
use Rattle.tdl_gen.proofs.StubMoves.{taken}
use Rattle.tdl_meaning.proofs.ActiveJobs.{well_modes}
use Rattle.tdl_verify.proofs.Replaced.{is_numbered}
use Rattle.tdl_meaning.proofs.TaskOutputsTaken.{taken-length}
use Rattle.tdl_meaning.proofs.StubsInStep.{in_step_one, in_step_next}
use Rattle.tdl_meaning.specs.WithoutLosses.{InStep, StubInStep}
use Rattle.tdl_meaning.proofs.ItemPlaces.{numbered-at, found_from}
use Rattle.tdl_meaning.proofs.PartsAndBus.{stand, jobs_active}
use Rattle.tdl_meaning.specs.OneNode.{logic_after}
use Rattle.tdl_mode.proofs.Seeing.{alone_same}
use Rattle.tdl_meaning.specs.Accepted.{Accepted}
use Rattle.tdl_base.proofs.Among.{Found}
use Rattle.tdl_meaning.specs.PartFacts.{StubFacts, PartBefore, Parts}

-- a public task is one of the stub's
pub public-numbered : (m : Module) (t : ℕ) (task : Task) → slice_get m.tasks t ≡ Some task → task.public ≡ true →
    is_numbered t (stub_tasks m) ≡ true
public-numbered m t task at public =
    let z : 0 + t ≡ t = omega arith in
    any-joined (λ (k : StubTask). k.number == t) tables 0 t m.tasks task at
    (ap (λ b. list_any (λ (k : StubTask). k.number == t)
    (if b then record { number = 0 + t; name = task.name; outputs = initials task.outputs } ∷ [] else [])) public
    ∙ ap (λ b. b || false) (eq-eqb (0 + t) t z))
  where
    tables : ℕ → Task → List StubTask
    tables t task =
        if task.public then record { number = t; name = task.name; outputs = initials task.outputs } ∷ [] else []

module _ (given : Accepted) (gone : ℕ → ℕ → Type 0) (x : ℕ) (sensed : Sensed) (seen : ℕ → PortKey → ℤ)
    (logic : ℕ → ModuleState) where
  -- a stub after phase 1, and after the instant
  pub record StubStep (q : Stub) (t : StubNow) : Type 0 where
    pub middle : InStep q (taken x q t).outputs (phase_one x (logic q.number.0)).tasks
    pub after_instant : StubInStep (logic_after x sensed seen logic) q (taken x q t)

  -- a stub in step stays in step, where no commit of its module at x is gone
  pub stub_in_step : (parts : List Part) → Parts given (PartBefore given gone x logic) parts →
      (q : Stub) (t : StubNow) → StubFacts given gone (suc x) x logic q t → StubInStep logic q t →
      (gone q.number.0 x → ⊥) → StubStep q t
  stub_in_step parts ps q t f s safe =
      let kk : ℕ = q.number.0 in
      let m : Module = f.tables.definition in
      let well = well_modes given kk m f.tables.there in
      let st = stand given gone x logic parts ps kk m f.tables.there in
      let live = jobs_active given gone x logic parts ps kk m f.tables.there in
      let one = in_step_one m well x (logic kk) st kk sensed (seen kk) q (gone kk) live f.tables.all t
      s.size f.facts f.gots safe s.step in
      record {
        middle = one;
        after_instant = record {
          size = s.size ∙ sym (taken-length x q 0 q.entries t.entries t.outputs);
          step = in_step_next m well x (logic kk) st kk sensed (seen kk) q (gone kk) (taken x q t).outputs one;
        };
      }

module _ (given : Accepted) (x : ℕ) (logic : ℕ → ModuleState) where
  -- a part has the right outputs after phase 1: those of its module there
  abbrev pub MidPart : Part → Type 0
  MidPart (Part.Host h s) = map (λ (w : TaskNow). w.outputs) s.tasks
      ≡ map (λ (u : TaskState). u.outputs) (phase_one x (logic h.number.0)).tasks
  MidPart (Part.Outside q t) = InStep q t.outputs (phase_one x (logic q.number.0)).tasks
      × ((m : Module) → slice_get given.program.modules q.number.0 ≡ Some m → q.tasks ≡ stub_tasks m)

  -- the outputs of task t of module i after phase 1
  abbrev logical_outputs : ℕ → ℕ → List ℤ
  logical_outputs i t =
      unwrap_or (option_map (λ (u : TaskState). u.outputs) (slice_get (phase_one x (logic i)).tasks t)) []

  -- such a part has them, of each public task
  part_right : (i : ℕ) (m : Module) → slice_get given.program.modules i ≡ Some m → (t : ℕ) (task : Task) →
      slice_get m.tasks t ≡ Some task → task.public ≡ true → map (λ (u : TaskState). u.definition) (logic i).tasks
      ≡ m.tasks →
      (q : Part) → part_number q ≡ i → MidPart q → part_outputs q t ≡ logical_outputs i t
  part_right i m there t task at public definitions (Part.Host h s) number mid =
      ap (λ o. unwrap_or o []) (sym (slice_get-map (λ (w : TaskNow). w.outputs) s.tasks t) ∙ ap (λ l. slice_get l t) mid
      ∙ slice_get-map (λ (u : TaskState). u.outputs) (phase_one x (logic h.number.0)).tasks t)
      ∙ ap (λ j. logical_outputs j t) number
  part_right i m there t task at public definitions (Part.Outside q s) number mid =
      by_state (slice_get (logic q.number.0).tasks t) refl
    where
      own_definitions : map (λ (u : TaskState). u.definition) (logic q.number.0).tasks ≡ m.tasks
      own_definitions = ap (λ j. map (λ (u : TaskState). u.definition) (logic j).tasks) number ∙ definitions

      by_state : (o : Option TaskState) → slice_get (logic q.number.0).tasks t ≡ o →
          part_outputs (Part.Outside q s) t ≡ logical_outputs i t
      by_state None e = absurd (cc (
        ap (option_map (λ (u : TaskState). u.definition)) e,
        sym (slice_get-map (λ (u : TaskState). u.definition) (logic q.number.0).tasks t)
            ∙ ap (λ l. slice_get l t) own_definitions
            ∙ at,
      ))
      by_state (Some u) e =
          let task_then : TaskState = task_after (logic q.number.0) x u in
          let after : slice_get (phase_one x (logic q.number.0)).tasks t ≡ Some task_then =
          slice_get-map (task_after (logic q.number.0) x) (logic q.number.0).tasks t
          ∙ ap (option_map (task_after (logic q.number.0) x)) e in
          let has : is_numbered t q.tasks ≡ true =
          ap (is_numbered t) (mid.1 m (ap (slice_get given.program.modules) number ∙ there))
          ∙ public-numbered m t task at public in
          mid.0 t task_then has after
          ∙ sym (ap (λ o. unwrap_or (option_map (λ (u : TaskState). u.outputs) o) []) after)
          ∙ ap (λ j. logical_outputs j t) number

  -- `seen` is what the node of the module sees
  module _ (seen : PortKey → ℤ) where
    -- the parts of the node of module m after phase 1: they have the right outputs, and each import has one
    pub record MidNode (m : Module) : Type 0 where
      pub parts : List Part
      pub is : seen ≡ outputs_on parts
      pub right : (n : ℕ) (q : Part) → slice_get parts n ≡ Some q → MidPart q
      pub has : (i : ℕ) → is_among i m.imports ≡ true →
          (n : ℕ) × (q : Part) × (slice_get parts n ≡ Some q) × (part_number q ≡ i)

    -- the states of all modules are those of the program
    abbrev pub AllAgree : State → Type 0
    AllAgree state = (i : ℕ) (e : Module) → slice_get given.program.modules i ≡ Some e →
        (slice_get state i ≡ Some (logic i)) × (map (λ (v : TaskState). v.definition) (logic i).tasks ≡ e.tasks)

    -- the node sees, of what its module reads, the outputs of the program's modules after their phase 1
    pub seen_right : (state : State) (kk : ℕ) (m : Module) → MidNode m → AllAgree state →
        (key : PortKey) → ReadsPort given.program kk m key → (key.module.0 == kk) ≡ false →
        seen key ≡ outputs_in (map (phase_one x) state) key
    seen_right state kk m node agree key reads other = by_allowed reads.allowed
      where
        by_import : is_among key.module.0 m.imports ≡ true → reads.task.public ≡ true →
            seen key ≡ outputs_in (map (phase_one x) state) key
        by_import imported public =
            let i : ℕ = key.module.0 in
            let h = node.has i imported in
            let f : Found (λ q. part_number q == i) node.parts =
            found_from (λ q. part_number q == i) node.parts h.0 h.1 h.2 (eq-eqb (part_number h.1) i h.3) in
            let a = agree i reads.exporter reads.there in
            let outs = part_right i reads.exporter reads.there key.task.0 reads.task reads.at public a.1 f.item
            (eqb-true (part_number f.item) i f.passes) (node.right f.place f.item f.at) in
            ap (λ (g : PortKey → ℤ). g key) node.is
            ∙ ap (λ o. slice_index_or (unwrap_or (option_map (λ q. part_outputs q key.task.0) o) []) key.output (pos 0))
            f.is
            ∙ ap (λ l. slice_index_or l key.output (pos 0)) outs
            ∙ sym (ap (λ o. unwrap_or (option_map (λ (s : ModuleState). output_at s.tasks key.task.0 key.output) o)
            (pos 0)) (slice_get-map (phase_one x) state i ∙ ap (option_map (phase_one x)) a.0))

        by_allowed :
            (key.module.0 ≡ kk) ⊎ ((is_among key.module.0 m.imports ≡ true) × (reads.task.public ≡ true)) →
            seen key ≡ outputs_in (map (phase_one x) state) key
        by_allowed (inl own) = let t = eq-eqb key.module.0 kk own in absurd (cc (t, other))
        by_allowed (inr b) = by_import b.0 b.1

    -- so the module's next state is the program's
    pub agree_step : (sensed : Sensed) (state : State) (kk : ℕ) (m : Module) →
        slice_get given.program.modules kk ≡ Some m → WellModule given.program kk m → (logic kk).definition ≡ m →
        MidNode m → AllAgree state →
        slice_get (logical x sensed state) kk ≡ Some (alone kk x sensed seen (logic kk))
    agree_step sensed state kk m there well definition node agree =
        let out : PortKey → ℤ = outputs_in (map (phase_one x) state) in
        let z : 0 + kk ≡ kk = omega arith in
        ap (λ l. slice_get l kk) (logical-alone x sensed state)
        ∙ numbered-at (λ k r. alone k x sensed out r) 0 state kk (logic kk) (agree kk m there).0
        ∙ ap (λ k. Some (alone k x sensed out (logic kk))) z
        ∙ ap Some (sym (alone_same given.program kk m well x sensed seen out (logic kk) definition
        (λ key reads other. seen_right state kk m node agree key reads other)))
