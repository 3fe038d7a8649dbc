-- The run without losses stands at every instant in the program's states.
use Rattle.std.proofs.Common.{◌≡◌, ℕ, suc, List, Some, ap, sym, subst, subst₂}
use Rattle.std.specs.Prelude.{slice_get}
use Rattle.tdl_mode.specs.States.{ModuleState}
use Rattle.tdl_image.specs.declared.bundle.Bundle.{Bundle}
use Rattle.tdl_image.specs.declared.stub.Stub.{Stub}
use Rattle.tdl_verify.specs.States.{Part}
use Rattle.tdl_verify.specs.Runs.{System, Run, run_to}
use Rattle.tdl_gen.specs.Realises.{bundle_of, HasTables, HasCounts}
use Rattle.tdl_gen.proofs.OneBundle.{one_bundle}
use Rattle.tdl_verify.proofs.NodeSends.{all_parts}
use Rattle.tdl_base.proofs.SideBySide.{Zip, zip-left}
use Rattle.tdl_meaning.specs.WithoutLosses.{StubInStep, InSteps, InState}
use Rattle.tdl_meaning.specs.OneNode.{Walks}
use Rattle.tdl_meaning.proofs.RunSteps.{along}
use Rattle.tdl_meaning.specs.SystemStands.{Along, logic_next, Step, TakesAlong}
use Rattle.tdl_meaning.proofs.InstantZero.{first_logic, first_system, first_stands, first_is}
use Rattle.tdl_meaning.proofs.StubsAtZero.{stub_of, state_of, stubs_first}
use Rattle.tdl_meaning.proofs.SeenAtZero.{agree_zero}
use Rattle.tdl_meaning.proofs.SeenAfterEnds.{stubs_next, agree_next}
use Rattle.tdl_meaning.specs.Accepted.{Accepted}
use Rattle.tdl_meaning.specs.Conditions.{Conditions, Losses, Gone, NoneGone}

-- a microsecond leaves the stubs in step
stubs_walked : (given : Accepted) (x : ℕ) (logic : ℕ → ModuleState)
    (parts after : List Part) → Zip (Walks given x logic) parts after → InSteps logic parts → InSteps logic after
unfolding stub_of state_of
stubs_walked given x logic parts after z stubs n q t at =
    let l = zip-left (Walks given x logic) parts after z n (Part.Outside q t) at in by_part l.item l.at l.holds
  where
    by_part : (r : Part) → slice_get parts n ≡ Some r → Walks given x logic r (Part.Outside q t) →
        StubInStep logic q t
    by_part (Part.Host h s) there (s', is, facts) = absurd (cc is)
    by_part (Part.Outside r v) there is =
        subst₂ (λ (q : Stub) t. StubInStep logic q t) (sym (ap (stub_of q) is)) (sym (ap (state_of t) is))
        (stubs n r v there)

module _ (given : Accepted) (run : Conditions given) (losses : Losses) (safe : NoneGone losses) where
  -- the stubs after the microsecond are in step
  pub stubs_here : (x : ℕ) (logic : ℕ → ModuleState) (s : System) (st : Step given run losses x logic s) →
      InSteps logic (all_parts s.nodes) → InSteps logic (all_parts st.nodes)
  stubs_here x logic s st = stubs_walked given x logic (all_parts s.nodes) (all_parts st.nodes) st.walked

  -- a step keeps it
  pub state_kept : (x : ℕ) (logic : ℕ → ModuleState) (s : System) (st : Step given run losses x logic s) →
      InState given run x logic s →
      InState given run (suc x) (logic_next given run losses x logic st.nodes s.flight) st.after
  state_kept x logic s st also = (
    agree_next given run losses safe x logic s st also.0 (stubs_here x logic s st also.1),
    stubs_next given run losses safe x logic s st (stubs_here x logic s st also.1),
  )

  -- a run that stands after instant x in the program's states
  abbrev pub Right : ℕ → Run → Type 0
  Right = Along given (Gone losses) (InState given run)

  -- that of the compiler's bundle does, after instant 0
  right_zero : Right 0 (run_to (bundle_of given.program given.placement given.schedule) run.horizon run.course
      run.times losses.lost 0)
  unfolding run_to first_system
  right_zero = record {
    sys = first_system given run.course run.times run.within;
    logic = first_logic given run.course run.times run.within;
    is = ap (λ (r : Run). r.now) (first_is given run.course run.times run.within losses.lost);
    stands = first_stands given run.course run.times run.within (Gone losses);
    also = (
      agree_zero given run.course run.times run.within,
      stubs_first given run.course run.times run.within,
    );
  }

  -- that of each bundle with its tables and counts does, at every instant
  pub right_along : (b : Bundle) → HasTables b given.program given.placement given.schedule →
      HasCounts b given.program given.placement given.schedule → TakesAlong given run losses b → (x : ℕ) →
      Right x (run_to b run.horizon run.course run.times losses.lost x)
  right_along b tables counts lose =
      along given run losses (InState given run) state_kept b lose
      (subst (λ c. Right 0 (run_to c run.horizon run.course run.times losses.lost 0))
      (sym (one_bundle b given.program given.placement given.schedule tables counts)) right_zero)
