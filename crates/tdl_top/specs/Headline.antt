-- What a call that goes well has done, in the words of programs: the file that it saved realises the
-- program, and what it printed is that file's run.
use Rattle.std.specs.Prelude.{◌≡◌, ℕ}
use Rattle.tdl_io.specs.Outside.{Saves, KeepsOthers, Appends}
use Rattle.tdl_mode.specs.declared.program.Program.{Program}
use Rattle.tdl_deploy.specs.declared.placement.Placement.{Placement}
use Rattle.tdl_deploy.specs.declared.schedule.Schedule.{Schedule}
use Rattle.tdl_deploy.specs.Named.{names_of}
use Rattle.tdl_deploy.specs.Texts.{logical_text}
use Rattle.tdl_scen.specs.declared.entries.Scenario.{Scenario}
use Rattle.tdl_scen.specs.Scenario.{course_of}
use Rattle.tdl_image.specs.declared.bundle.Bundle.{Bundle}
use Rattle.tdl_image.specs.Spelling.{bundle_bytes}
use Rattle.tdl_verify.specs.Runs.{IsAlive}
use Rattle.tdl_verify.specs.Texts.{bundle_names, bundle_run, bundle_text}
use Rattle.tdl_gen.specs.Realises.{Realises}
use Rattle.tdl_words.specs.Words.{Words, word_at}
use Rattle.tdl_report.specs.Calls.{FilesCall, SinkCall}
use Rattle.tdl_top.specs.Taken.{IsTaken}
use Rattle.tdl_top.specs.Inputs.{HasScenario, ReadsBundle}

-- the n sources give the program, its placement and its schedule, and the file at word w is the spelling of a bundle
-- that realises them
pub record SavesProgram (files : FilesCall) (words : Words) (n w : ℕ) (program : Program) (placement : Placement)
    (schedule : Schedule) (bundle : Bundle) : Type 0 where
  pub takes : IsTaken files.before.holds words n program placement schedule
  pub realises : Realises bundle program placement schedule
  pub saved : Saves files.after.holds (word_at words w) (bundle_bytes bundle)
  pub others : KeepsOthers files.before.holds files.after.holds (word_at words w)

-- `compile` of n sources: the program's bundle stands in the file at word w
pub record Compiles (files : FilesCall) (words : Words) (n w : ℕ) : Type 0 where
  pub program : Program
  pub placement : Placement
  pub schedule : Schedule
  pub bundle : Bundle
  pub saves : SavesProgram files words n w program placement schedule bundle

-- `run` of n sources: it stands in the file at word w, and the text of its run under the scenario at word v was
-- printed, which is the text of the program's logical rows
pub record Runs (files : FilesCall) (words : Words) (out : SinkCall) (n w v : ℕ) : Type 0 where
  pub program : Program
  pub placement : Placement
  pub schedule : Schedule
  pub bundle : Bundle
  pub scenario : Scenario
  pub saves : SavesProgram files words n w program placement schedule bundle
  pub read : HasScenario files.before.holds words (names_of program placement) v scenario
  pub printed : Appends out.before.contents out.after.contents (bundle_text bundle scenario)
  pub logical : bundle_text bundle scenario
      ≡ logical_text program placement (course_of scenario.senses) scenario.horizon.0

-- `exec`: the bundle was read, and the text of its run under the scenario at word v was printed
pub record Executes (files : FilesCall) (words : Words) (out : SinkCall) (v : ℕ) : Type 0 where
  pub bundle : Bundle
  pub scenario : Scenario
  pub bundle_read : ReadsBundle files.before.holds words bundle
  pub read : HasScenario files.before.holds words (bundle_names bundle) v scenario
  pub alive : IsAlive (bundle_run bundle scenario).now
  pub printed : Appends out.before.contents out.after.contents (bundle_text bundle scenario)
