-- What is known of a program that was checked.
use Rattle.std.specs.Prelude.{◌≤◌, length}
use Rattle.tdl_base.specs.declared.limits.TheConstants.{SOURCES}
use Rattle.tdl_mode.specs.declared.program.Program.{Program}
use Rattle.tdl_mode.specs.WellFormed.{WellFormed}
use Rattle.tdl_program.specs.KeepsLimits.{AllKeepLimits}
use Rattle.tdl_kept.specs.Bodies.{KeepsBodies}
use Rattle.tdl_kept.specs.Counts.{KeepsCounts}
use Rattle.tdl_kept.specs.Names.{HasIdentifiers, KeepsNames}

-- it is well-formed, keeps the limits of parts, the bounds of bodies and the counts, its names are identifiers and
-- differ, and it is small
pub record IsChecked (program : Program) : Type 0 where
  pub well_formed : WellFormed program
  pub limits : AllKeepLimits program
  pub bodies : KeepsBodies program
  pub counts : KeepsCounts program
  pub names : KeepsNames program
  pub identifiers : HasIdentifiers program
  pub few : length program.modules ≤ SOURCES
