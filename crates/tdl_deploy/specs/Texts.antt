-- What is printed of the logical execution.
use Rattle.std.specs.Prelude.{ℕ, List}
use Rattle.tdl_mode.specs.declared.program.Program.{Program}
use Rattle.tdl_base.specs.Sensed.{Course}
use Rattle.tdl_trace.specs.Lines.{text_of}
use Rattle.tdl_deploy.specs.declared.placement.Placement.{Placement}
use Rattle.tdl_deploy.specs.Named.{names_of}
use Rattle.tdl_deploy.specs.Rows.{logical_rows}

-- the lines of the logical rows of a program on a placement, under a course up to the horizon
abbrev pub logical_text : Program → Placement → Course → ℕ → List ℕ
logical_text program placement course horizon =
    text_of (names_of program placement) (logical_rows program placement course horizon)
