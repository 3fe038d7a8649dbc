-- Phase 1 of the run without losses: its parts have the right outputs, so its modules see what the program's put out,
-- and come to the program's next states.
use Rattle.std.proofs.Common.{◌≡◌, ℕ, suc, ◌+◌, ℤ, pos, List, [], ◌∷◌, map, Bool, true, false, ◌==◌, Option, Some, refl, ap, ap₂, sym, ◌∙◌, subst, subst₂, arith}
use Rattle.std.specs.Prelude.{slice_get, slice_index_or, unwrap_or, option_map, find, if◌then◌else◌}
use Rattle.tdl_base.specs.declared.numbers.PortKey.{PortKey}
use Rattle.tdl_mode.specs.declared.program.Module.{Module}
use Rattle.tdl_base.specs.Sensed.{Sensed}
use Rattle.tdl_mode.specs.States.{TaskState, ModuleState, outputs_in}
use Rattle.tdl_mode.specs.Phases.{phase_one}
use Rattle.tdl_mode.specs.Instants.{alone, state_at}
use Rattle.tdl_deploy.specs.Placed.{hosts}
use Rattle.tdl_image.specs.declared.stub.Stub.{Stub}
use Rattle.tdl_verify.specs.States.{Slot, TaskNow, StubNow, Part, NodeNow, Times, part_number, part_outputs, outputs_on}
use Rattle.tdl_verify.specs.Runs.{System, landed}
use Rattle.tdl_gen.specs.Realises.{IsWithinWorst}
use Rattle.tdl_mode.specs.WellFormed.{ReadsPort}
use Rattle.tdl_meaning.proofs.HostTurns.{outputs-map}
use Rattle.tdl_gen.proofs.StubMoves.{taken}
use Rattle.tdl_meaning.specs.OneNode.{View, view, node_sees, Stepped}
use Rattle.tdl_verify.proofs.NodeSends.{all_parts}
use Rattle.tdl_meaning.proofs.Deliveries.{part_landed, landed-parts}
use Rattle.tdl_base.proofs.SideBySide.{zip-left}
use Rattle.tdl_meaning.proofs.PartsAndBus.{texts_of}
use Rattle.tdl_meaning.proofs.MappedLists.{map-at, map-to}
use Rattle.tdl_meaning.proofs.ModuleStep.{StubStep, stub_in_step, MidPart, MidNode, seen_right, agree_step}
use Rattle.tdl_meaning.specs.WithoutLosses.{StubInStep, InSteps, Agree}
use Rattle.tdl_meaning.proofs.AllParts.{node-at}
use Rattle.tdl_meaning.proofs.SeenAt.{seen_at-is}
use Rattle.tdl_meaning.proofs.Delivered.{in-node}
use Rattle.tdl_meaning.specs.SystemStands.{Step, seen_next, logic_next}
use Rattle.tdl_meaning.proofs.StubsAtZero.{stub_of, state_of}
use Rattle.tdl_meaning.proofs.NodeParts.{TasksOf, NodeWith, node_with, has_import, each_at, tasks_of}
use Rattle.tdl_meaning.specs.Accepted.{Accepted}
use Rattle.tdl_meaning.specs.PartFacts.{Owner, PartLanded}
use Rattle.tdl_meaning.specs.NodeShape.{NodeShape}
use Rattle.tdl_meaning.specs.Conditions.{Conditions, Losses, Gone, NoneGone}

-- a task of the machine with these outputs
seen_task : TaskState → TaskNow
seen_task u = record { outputs = u.outputs; slot = Slot.Idle; released = 0 }

-- its outputs are theirs
tasks-same : (us : List TaskState) →
    map (λ (w : TaskNow). w.outputs) (map seen_task us) ≡ map (λ (u : TaskState). u.outputs) us
unfolding seen_task
tasks-same [] = refl
tasks-same (u ∷ us) = ap (λ l. u.outputs ∷ l) (tasks-same us)

-- the outputs of task t of a view or none
abbrev view_outputs : ℕ → Option View → List ℤ
view_outputs t o = unwrap_or (option_map (λ (v : View). v.outputs t) o) []

-- those of a part or none
abbrev outputs_of : ℕ → Option Part → List ℤ
outputs_of t o = unwrap_or (option_map (λ (q : Part). part_outputs q t) o) []

module _ (given : Accepted) (x : ℕ) (sensed : Sensed) (times : Times) (within : IsWithinWorst given.program times)
    (logic : ℕ → ModuleState) where
  -- a part after phase 1
  middle : Part → Part
  middle (Part.Host h s) = Part.Host h (record s { tasks = map seen_task (phase_one x (logic h.number.0)).tasks })
  middle (Part.Outside q t) = Part.Outside q (taken x q t)

  -- it keeps its number
  middle-number : (q : Part) → part_number (middle q) ≡ part_number q
  unfolding middle
  middle-number (Part.Host h s) = refl
  middle-number (Part.Outside q t) = refl

  -- what is seen of a part
  abbrev look : Part → View
  look = view x logic

  -- the outputs of the part of number i are, as they are seen, those it holds
  middle-found : (i t : ℕ) (qs : List Part) → view_outputs t (find (λ (v : View). v.number == i) (map look qs))
      ≡ outputs_of t (find (λ (q : Part). part_number q == i) (map middle qs))
  unfolding middle
  middle-found i t [] = refl
  middle-found i t (Part.Outside q s ∷ qs) = by_test (middle-found i t qs) (q.number.0 == i)
    where
      views : Option View
      views = find (λ (v : View). v.number == i) (map look qs)

      parts : Option Part
      parts = find (λ (q : Part). part_number q == i) (map middle qs)

      by_test : view_outputs t views ≡ outputs_of t parts → (b : Bool) →
          view_outputs t (if b then Some (look (Part.Outside q s)) else views)
          ≡ outputs_of t (if b then Some (Part.Outside q (taken x q s)) else parts)
      by_test rest true = refl
      by_test rest false = rest
  middle-found i t (Part.Host h s ∷ qs) = by_test (middle-found i t qs) (h.number.0 == i)
    where
      views : Option View
      views = find (λ (v : View). v.number == i) (map look qs)

      parts : Option Part
      parts = find (λ (q : Part). part_number q == i) (map middle qs)

      us : List TaskState
      us = (phase_one x (logic h.number.0)).tasks

      by_test : view_outputs t views ≡ outputs_of t parts → (b : Bool) →
          view_outputs t (if b then Some (look (Part.Host h s)) else views)
          ≡ outputs_of t (if b then Some (Part.Host h (record s { tasks = map seen_task us })) else parts)
      by_test rest true = sym (outputs-map us (map seen_task us) t (tasks-same us))
      by_test rest false = rest

  -- what a node sees is what its parts hold after phase 1
  middle-is : (qs : List Part) → node_sees x logic qs ≡ outputs_on (map middle qs)
  middle-is qs =
      λ i. λ key. ap (λ os. slice_index_or os key.output (pos 0)) (middle-found key.module.0 key.task.0 qs) i

module _ (given : Accepted) (run : Conditions given) (losses : Losses) (safe : NoneGone losses) where
  -- so it is not gone
  pub not_gone : (kk at : ℕ) → Gone losses kk at → ⊥
  not_gone kk at gone = let n = safe kk at in cc (n, gone)

  -- the step of the run without losses
  abbrev pub LossFree : ℕ → (ℕ → ModuleState) → System → Type 0
  LossFree = Step given run losses

  module _ (x : ℕ) (logic : ℕ → ModuleState) (s : System) (st : LossFree x logic s) where
    -- the nodes after delivery
    abbrev pub here : List NodeNow
    here = landed (suc x) losses.lost st.nodes s.flight

    -- what each module sees
    abbrev seen : ℕ → PortKey → ℤ
    seen = seen_next given run losses x logic st.nodes s.flight

    -- the modules' next states
    abbrev logic_then : ℕ → ModuleState
    logic_then = logic_next given run losses x logic st.nodes s.flight

    -- what a node sees
    abbrev pub sees_here : List Part → PortKey → ℤ
    sees_here = node_sees (suc x) logic

    -- delivery leaves the outputs of the stubs
    stubs_landed : InSteps logic (all_parts st.nodes) → InSteps logic (all_parts here)
    unfolding stub_of state_of
    stubs_landed stubs n q t at =
        let m = map-at (part_landed (suc x) losses.lost s.flight) (all_parts st.nodes) n (Part.Outside q t)
        (ap (λ l. slice_get l n) (sym (landed-parts (suc x) losses.lost s.flight st.nodes)) ∙ at) in
        by_part m.item m.at m.is
      where
        by_part : (r : Part) → slice_get (all_parts st.nodes) n ≡ Some r →
            Part.Outside q t ≡ part_landed (suc x) losses.lost s.flight r → StubInStep logic q t
        by_part (Part.Host h c) there is = absurd (cc is)
        by_part (Part.Outside r v) there is =
            let old = stubs n r v there in
            subst₂ (λ (q : Stub) t. StubInStep logic q t) (sym (ap (stub_of q) is)) (sym (ap (state_of t) is))
            (record { size = old.size; step = old.step })

    -- a stub after phase 1 and after the instant is in step
    stub_steps : (q : Stub) (t : StubNow) → PartLanded given (Gone losses) (suc x) logic (Part.Outside q t) →
        StubInStep logic q t → StubStep given (Gone losses) (suc x) (run.course (suc x)) seen logic q t
    stub_steps q t l stub = stub_in_step given (Gone losses) (suc x) (run.course (suc x)) seen logic
        (all_parts st.nodes) st.before q t l stub (not_gone q.number.0 (suc x))

    -- the stubs stay in step
    pub stubs_next : InSteps logic (all_parts st.nodes) → InSteps logic_then (all_parts st.after.nodes)
    unfolding stub_of state_of
    stubs_next stubs n q t at =
        let l = zip-left (Stepped given (suc x) (run.course (suc x)) seen logic) (all_parts here)
        (all_parts st.after.nodes) st.stepped n (Part.Outside q t) at in
        by_part l.item l.at l.holds
      where
        by_part : (r : Part) → slice_get (all_parts here) n ≡ Some r →
            Stepped given (suc x) (run.course (suc x)) seen logic r (Part.Outside q t) →
            StubInStep logic_then q t
        by_part (Part.Host h c) there (c', is, after) = absurd (cc is)
        by_part (Part.Outside r v) there is =
            subst₂ (λ (q : Stub) t. StubInStep logic_then q t) (sym (ap (stub_of q) is)) (sym (ap (state_of t) is))
            (stub_steps r v (st.lands n (Part.Outside r v) there) (stubs_landed stubs n r v there)).after_instant

    -- where each module stands
    home : (kk : ℕ) (m : Module) → slice_get given.program.modules kk ≡ Some m →
        (j : ℕ) × (n : NodeNow) × (slice_get here j ≡ Some n) × (hosts given.placement j kk ≡ true)
    home kk m there =
        let o : Owner given (all_parts st.nodes) kk = st.before.hosted kk m there in
        let at : slice_get (all_parts here) o.place ≡ Some (Part.Host o.host o.state) =
        ap (λ l. slice_get l o.place) (landed-parts (suc x) losses.lost s.flight st.nodes)
        ∙ map-to (part_landed (suc x) losses.lost s.flight) (all_parts st.nodes) o.place (Part.Host o.host o.state)
        o.at in
        let w : NodeWith given 0 here o.host = node_with given 0 here st.shapes o.place o.host o.state at in
        let z : 0 + w.index ≡ w.index = omega arith in
        (w.index, w.node, w.at, ap₂ (λ j k. hosts given.placement j k) (sym z) (sym o.number) ∙ w.hosted)

    module _ (agree : Agree given run x logic) (stubs : InSteps logic (all_parts st.nodes)) where
      -- a part after phase 1 is right
      right : (q : Part) → PartLanded given (Gone losses) (suc x) logic q →
          ((c : Stub) (t : StubNow) → q ≡ Part.Outside c t → StubInStep logic c t) → TasksOf given q →
          MidPart given (suc x) logic (middle given (suc x) (run.course (suc x)) run.times run.within logic q)
      unfolding middle
      right (Part.Host h c) l stub tasks = tasks-same (phase_one (suc x) (logic h.number.0)).tasks
      right (Part.Outside q t) l stub tasks = ((stub_steps q t l (stub q t refl)).middle, tasks)

      -- the parts of the node of a hosted module after phase 1
      mid_node : (j : ℕ) (n : NodeNow) → slice_get here j ≡ Some n → (kk : ℕ) (m : Module) →
          slice_get given.program.modules kk ≡ Some m → hosts given.placement j kk ≡ true →
          MidNode given (suc x) logic (sees_here n.parts) m
      mid_node j n at kk m there h =
          let z : 0 + j ≡ j = omega arith in
          let shape : NodeShape given j n =
          subst (λ c. NodeShape given c n) z (node-at (NodeShape given) 0 here st.shapes j n at) in
          let mid : Part → Part = middle given (suc x) (run.course (suc x)) run.times run.within logic in
          record {
            parts = map mid n.parts;
            is = middle-is given (suc x) (run.course (suc x)) run.times run.within logic n.parts;
            right = λ i q there.
                let w = map-at mid n.parts i q there in
                subst (MidPart given (suc x) logic) (sym w.is) (right w.item
                (in-node (PartLanded given (Gone losses) (suc x) logic) here st.lands j n at i w.item w.at)
                (in-node (λ q. (c : Stub) (t : StubNow) → q ≡ Part.Outside c t → StubInStep logic c t) here
                (λ i q here c t e. stubs_landed stubs i c t (here ∙ ap Some e)) j n at i w.item w.at)
                (tasks_of given j w.item (each_at given j n.parts shape.order i w.item w.at)));
            has = λ i among.
                let f = has_import given j n.parts shape.order kk m there h i among in (
                  f.0,
                  mid f.1,
                  map-to mid n.parts f.0 f.1 f.2,
                  middle-number given (suc x) (run.course (suc x)) run.times run.within logic f.1 ∙ f.3,
                );
          }

      -- the states of all modules, and the definitions of their tasks
      all_agree : (i : ℕ) (e : Module) → slice_get given.program.modules i ≡ Some e →
          (slice_get (state_at given.program run.course x) i ≡ Some (logic i))
          × (map (λ (v : TaskState). v.definition) (logic i).tasks ≡ e.tasks)
      all_agree i e at =
          (agree i e at, (texts_of given (Gone losses) (suc x) logic (all_parts st.nodes) st.before i e at).1)

      -- a node sees, of what its modules read, the outputs of the program's modules after their phase 1
      pub sees_right : (j : ℕ) (n : NodeNow) → slice_get here j ≡ Some n → (kk : ℕ) (m : Module) →
          slice_get given.program.modules kk ≡ Some m → hosts given.placement j kk ≡ true →
          (key : PortKey) → ReadsPort given.program kk m key → (key.module.0 == kk) ≡ false →
          sees_here n.parts key ≡ outputs_in (map (phase_one (suc x)) (state_at given.program run.course x)) key
      sees_right j n at kk m there h = seen_right given (suc x) logic (sees_here n.parts)
          (state_at given.program run.course x) kk m (mid_node j n at kk m there h) all_agree

      -- and each module comes to the program's next state
      pub agree_next : Agree given run (suc x) logic_then
      unfolding state_at
      agree_next kk m there =
          let w = home kk m there in
          let z : 0 + w.0 ≡ w.0 = omega arith in
          let is : seen kk ≡ sees_here w.1.parts =
          seen_at-is given sees_here 0 w.0 here w.1 w.2 kk (ap (λ c. hosts given.placement c kk) z ∙ w.3) in
          agree_step given (suc x) logic (sees_here w.1.parts) (run.course (suc x))
          (state_at given.program run.course x) kk m there (given.well_formed.modules kk m there)
          (texts_of given (Gone losses) (suc x) logic (all_parts st.nodes) st.before kk m there).0
          (mid_node w.0 w.1 w.2 kk m there w.3) all_agree
          ∙ ap (λ (f : PortKey → ℤ). Some (alone kk (suc x) (run.course (suc x)) f (logic kk))) (sym is)
