-- Under which conditions a run goes, and what the bus loses in it.
use Rattle.std.specs.Prelude.{◌≡◌, ℕ, Bool, true, false, Option}
use Rattle.tdl_base.specs.Sensed.{Course}
use Rattle.tdl_mode.specs.States.{ModuleState}
use Rattle.tdl_verify.specs.States.{Times}
use Rattle.tdl_verify.specs.Bus.{Flight}
use Rattle.tdl_verify.specs.Runs.{Lost}
use Rattle.tdl_gen.specs.Realises.{IsWithinWorst}
use Rattle.tdl_meaning.specs.Accepted.{Accepted}
use Rattle.tdl_meaning.specs.BusFrames.{LosesAt}

-- the horizon of a run, the course of sensor values, and execution times within the worst cases
pub record Conditions (given : Accepted) : Type 0 where
  pub horizon : ℕ
  pub course : Course
  pub times : Times
  pub within : IsWithinWorst given.program times

-- which frames are lost, by number, start and end, and which commits are gone, by module and instant
pub record Losses : Type 0 where
  pub lost : Lost
  pub gone : ℕ → ℕ → Bool

-- the commit of module kk at this instant is gone
abbrev pub Gone : Losses → ℕ → ℕ → Type 0
Gone losses kk at = losses.gone kk at ≡ true

-- no commit is gone
abbrev pub NoneGone : Losses → Type 0
NoneGone losses = (kk at : ℕ) → losses.gone kk at ≡ false

-- with the frame on the bus, where it is lost at x, the commit of its job is gone
abbrev pub Takes : Accepted → Losses → ℕ → (ℕ → ModuleState) → Option Flight → Type 0
Takes given losses x logic flight = LosesAt given (Gone losses) x logic losses.lost flight
