-- A schedule with the program and the placement that it is for.
use Rattle.std.specs.Prelude.{refl}
use Rattle.std.specs.Coded.{Coded, code_by, coded×}
use Rattle.tdl_mode.specs.declared.program.Program.{Program}
use Rattle.tdl_mode.specs.contracts.program.Program as program
use Rattle.tdl_deploy.specs.declared.placement.Placement.{Placement}
use Rattle.tdl_deploy.specs.contracts.placement.Placement as placement
use Rattle.tdl_deploy.specs.declared.schedule.Schedule.{Schedule}
use Rattle.tdl_deploy.specs.contracts.schedule.Schedule as schedule

-- a schedule, and what it is for
pub record Matched : Type 0 where
  pub program : Program
  pub placement : Placement
  pub schedule : Schedule

-- it is told apart by its three parts
abbrev pub matched_code : Coded Matched
matched_code =
    code_by (Program × (Placement × Schedule))
    (coded× program.the_row.coded (coded× placement.the_row.coded schedule.the_row.coded))
    (λ m. (m.program, (m.placement, m.schedule)))
    (λ p. record { program = p.0; placement = p.1.0; schedule = p.1.1 }) (λ _. refl)
