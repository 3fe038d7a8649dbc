-- After instant 0 every stub of the run is in step.
use Rattle.std.proofs.Common.{◌≡◌, ℕ, map, length, Option, Some, ap, sym, ◌∙◌, subst, subst₂}
use Rattle.std.specs.Prelude.{slice_get}
use Rattle.std.proofs.lemmas.List.{length-map}
use Rattle.tdl_mode.specs.declared.program.Module.{Module}
use Rattle.tdl_base.specs.Sensed.{Course}
use Rattle.tdl_mode.specs.States.{TaskState, ModuleState, look_of, invocations_now}
use Rattle.tdl_mode.specs.Instants.{entered, begun_task}
use Rattle.tdl_image.specs.declared.stub.Stub.{Stub}
use Rattle.tdl_image.specs.declared.stub.StubTask.{StubTask}
use Rattle.tdl_verify.specs.States.{StubNow, Part, Times}
use Rattle.tdl_verify.specs.States as st
use Rattle.tdl_gen.specs.Realises.{IsWithinWorst}
use Rattle.tdl_meaning.proofs.StubsInStep.{releases-outputs}
use Rattle.tdl_meaning.specs.WithoutLosses.{InStep, StubInStep, InSteps}
use Rattle.tdl_verify.proofs.NodeSends.{all_parts}
use Rattle.tdl_base.proofs.SideBySide.{zip-left}
use Rattle.tdl_meaning.proofs.PartsBeforeZero.{StubAt, nodes_at}
use Rattle.tdl_meaning.specs.SystemStands.{first_nodes}
use Rattle.tdl_meaning.proofs.NodesBoot.{start_of}
use Rattle.tdl_meaning.proofs.InstantZero.{AnyAt, any_all, first_seen, first_logic, Starts, booted}
use Rattle.tdl_meaning.proofs.StubFirstOutputs.{first_in_step}
use Rattle.tdl_meaning.specs.Accepted.{Accepted}
use Rattle.tdl_meaning.proofs.Every.{all-at}

-- the stub of a part, or one in its place
unfoldable pub stub_of : Stub → Part → Stub
stub_of d (Part.Host h s) = d
stub_of d (Part.Outside q t) = q

-- the state of a stub part, or one in its place
unfoldable pub state_of : StubNow → Part → StubNow
state_of d (Part.Host h s) = d
state_of d (Part.Outside q t) = t

module _ (given : Accepted) (course : Course) (times : Times) (within : IsWithinWorst given.program times) where
  -- the state of each module after instant 0
  abbrev logic : ℕ → ModuleState
  logic = first_logic given course times within

  -- the state of module kk after instant 0, where there is one
  abbrev begin : ℕ → Option Module → ModuleState
  begin = start_of given (course 0) times within (first_seen given course times within)

  -- instant 0 leaves a module's outputs
  outputs_kept : (kk : ℕ) (m : Module) → slice_get given.program.modules kk ≡ Some m →
      map (λ (u : TaskState). u.outputs) (logic kk).tasks ≡ map (λ (u : TaskState). u.outputs) (map begun_task m.tasks)
  outputs_kept kk m there =
      ap (λ o. map (λ (u : TaskState). u.outputs) (begin kk o).tasks) there
      ∙ releases-outputs (entered m) 0
      (look_of kk (entered m).tasks (course 0) (first_seen given course times within kk)) 1
      (invocations_now (entered m)) (entered m).tasks

  -- a stub before instant 0 is in step with its module after it
  first_step : (j : ℕ) (q : Stub) (t : StubNow) → StubAt given j q t → StubInStep logic q t
  unfolding state_of
  first_step j q t a =
      let outs : t.outputs ≡ map (λ (k : StubTask). st.initial_values k.outputs) q.tasks =
      ap (λ r. (state_of t r).outputs) a.is in
      record {
        size = sym (length-map q.tasks (λ (k : StubTask). st.initial_values k.outputs)) ∙ ap length (sym outs);
        step = subst (λ os. InStep q os (logic q.number.0).tasks) (sym outs)
            (first_in_step a.definition q (logic q.number.0).tasks (ap (λ (s : Stub). s.tasks) a.tables)
            (outputs_kept q.number.0 a.definition a.there));
      }

  -- every stub after instant 0 is in step
  pub stubs_first : InSteps logic (all_parts (booted given course times within).after)
  unfolding stub_of state_of
  stubs_first n q t at =
      let d = booted given course times within in
      let nodes = first_nodes given in
      let l = zip-left (Starts given course times within) (all_parts nodes) (all_parts d.after) d.started n
      (Part.Outside q t) at in
      by_part l.item (all-at (AnyAt given) (all_parts nodes)
      (any_all given 0 nodes (nodes_at given 0 given.placement.nodes)) n l.item l.at) l.holds
    where
      by_part : (r : Part) → AnyAt given r → Starts given course times within r (Part.Outside q t) →
          StubInStep logic q t
      by_part (Part.Host h s) a (s', is, after) = absurd (cc is)
      by_part (Part.Outside r v) (j, a) is =
          subst₂ (λ (s : Stub) w. StubInStep logic s w) (sym (ap (stub_of q) is)) (sym (ap (state_of t) is))
          (first_step j r v a)
