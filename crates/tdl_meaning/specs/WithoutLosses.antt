-- A run in which no commit is gone: the machine's states are the program's, and stubs hold what modules put out.
use Rattle.tdl_verify.specs.Laws.{is_numbered}
use Rattle.std.specs.Prelude.{◌≡◌, ℕ, ℤ, List, length, true, Some, slice_get}
use Rattle.tdl_mode.specs.declared.program.Module.{Module}
use Rattle.tdl_mode.specs.States.{TaskState, ModuleState}
use Rattle.tdl_mode.specs.Instants.{state_at}
use Rattle.tdl_image.specs.declared.stub.Stub.{Stub}
use Rattle.tdl_verify.specs.States.{StubNow, Part, stub_outputs, all_parts}
use Rattle.tdl_verify.specs.Runs.{System}
use Rattle.tdl_meaning.specs.Accepted.{Accepted}
use Rattle.tdl_meaning.specs.Conditions.{Conditions}

-- the stub's outputs of each task are those of the task's state
abbrev pub InStep : Stub → List (List ℤ) → List TaskState → Type 0
InStep p outs us = (t : ℕ) (u : TaskState) → is_numbered t p.tasks ≡ true → slice_get us t ≡ Some u →
    stub_outputs t p.tasks outs ≡ u.outputs

-- a stub's outputs are as many as its tasks, and those of its module
pub record StubInStep (state : ℕ → ModuleState) (q : Stub) (t : StubNow) : Type 0 where
  pub size : length q.tasks ≡ length t.outputs
  pub step : InStep q t.outputs (state q.number.0).tasks

-- every stub of these parts is in step
abbrev pub InSteps : (ℕ → ModuleState) → List Part → Type 0
InSteps logic parts = (n : ℕ) (q : Stub) (t : StubNow) → slice_get parts n ≡ Some (Part.Outside q t) →
    StubInStep logic q t

module _ (given : Accepted) (run : Conditions given) where
  -- the machine's states of the modules are those of the program after x
  abbrev pub Agree : ℕ → (ℕ → ModuleState) → Type 0
  Agree x logic = (kk : ℕ) (m : Module) → slice_get given.program.modules kk ≡ Some m →
      slice_get (state_at given.program run.course x) kk ≡ Some (logic kk)

  -- the modules' states are the program's, and the stubs are in step
  abbrev pub InState : ℕ → (ℕ → ModuleState) → System → Type 0
  InState x logic s = Agree x logic × InSteps logic (all_parts s.nodes)
