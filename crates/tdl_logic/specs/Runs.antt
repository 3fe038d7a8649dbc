-- The logical execution of a program, as far as it has come.
use Rattle.std.specs.Prelude.{ℕ, map, Option, Some, None}
use Rattle.tdl_base.specs.Sensed.{Sensed}
use Rattle.tdl_mode.specs.declared.program.Program.{Program}
use Rattle.tdl_mode.specs.States.{State}
use Rattle.tdl_mode.specs.Phases.{phase_four}
use Rattle.tdl_mode.specs.Instants.{entered, begun, for_all, logical}
use Rattle.tdl_deploy.specs.declared.placement.Placement.{Placement}

-- a program on a placement, the instant that is reached or none yet, and the state after it
pub record Run : Type 0 where
  pub program : Program
  pub placement : Placement
  pub reached : Option ℕ
  pub state : State

-- before instant 0
abbrev pub before_first : Program → Placement → Run
before_first program placement =
    record { program = program; placement = placement; reached = None; state = map entered program.modules }

-- the phases of instant x: the fourth alone where no instant is reached yet, and all four otherwise
abbrev pub phases_after : {A : Type 0} → Option A → ℕ → Sensed → State → State
phases_after None x sensed state = for_all (phase_four x) sensed state
phases_after (Some y) x sensed state = logical x sensed state

-- the state after instant x, which is the first or follows one that is reached
abbrev pub state_after : ℕ → Sensed → Program → Option ℕ → State → State
state_after x sensed program None state = begun program sensed
state_after x sensed program (Some y) state = logical x sensed state

-- the execution after instant x
abbrev pub with_instant : ℕ → Sensed → Run → Run
with_instant x sensed run = record run {
  reached = Some x;
  state = state_after x sensed run.program run.reached run.state;
}
