-- What the laws of bundles speak of.
use Rattle.tdl_mode.specs.declared.program.Program.{Program}
use Rattle.tdl_mode.specs.WellFormed.{WellFormed}
use Rattle.tdl_deploy.specs.declared.placement.Placement.{Placement}
use Rattle.tdl_deploy.specs.declared.schedule.Schedule.{Schedule}
use Rattle.tdl_deploy.specs.Passes.{WellPlaced, Passes}

-- a well-formed program, a placement of it with each module on one node, and a schedule that passes the test
pub record Accepted : Type 0 where
  pub program : Program
  pub placement : Placement
  pub schedule : Schedule
  pub well_formed : WellFormed program
  pub well_placed : WellPlaced program placement
  pub passes : Passes program placement schedule
