-- When each answer of a call comes, and what it leaves.
use Rattle.std.specs.Prelude.{◌≡◌, ℕ, ◌⊎◌, ⊤, Option, Some, None}
use Rattle.tdl_io.specs.Outside.{Held, Saves, KeepsOthers, Rose, HasNamedCause, Appends, AppendsPart}
use Rattle.tdl_scen.specs.declared.entries.Scenario.{Scenario}
use Rattle.tdl_image.specs.declared.bundle.Bundle.{Bundle}
use Rattle.tdl_image.specs.Spelling.{bundle_bytes}
use Rattle.tdl_verify.specs.Texts.{bundle_names, bundle_text}
use Rattle.tdl_words.specs.declared.words.Call.{Call}
use Rattle.tdl_words.specs.Words.{Words, word_at, call_in, out_word, scenario_word}
use Rattle.tdl_report.specs.declared.status.Status.{Status}
use Rattle.tdl_report.specs.declared.status.Status.TheVariants.{Ok, Usage, WriteFailed, SaveFailed, NoMemory}
use Rattle.tdl_report.specs.Calls.{FilesCall, SinkCall, IsUnchanged, IsSilent}
use Rattle.tdl_top.specs.Inputs.{HasBundle, HasScenario}
use Rattle.tdl_top.specs.Refused.{InputSays}

-- ---- what a call leaves

-- the scenario that is asked for was read
abbrev pub HasAsked : Option Held → Words → Bundle → Option ℕ → Type 0
HasAsked holds words bundle None = ⊤
HasAsked holds words bundle (Some w) = (scenario : Scenario) × HasScenario holds words (bundle_names bundle) w scenario

-- the file that is saved is the bundle's spelling, and no other file changes
abbrev pub Leaves : FilesCall → Words → Bundle → Option ℕ → Type 0
Leaves files words bundle None = IsUnchanged files
Leaves files words bundle (Some w) =
    Saves files.after.holds (word_at words w) (bundle_bytes bundle)
    × KeepsOthers files.before.holds files.after.holds (word_at words w)

-- the scenario was read, and the whole text of the bundle's run under it was printed
pub record PrintsText (holds : Option Held) (words : Words) (bundle : Bundle) (out : SinkCall) (w : ℕ) : Type 0 where
  pub scenario : Scenario
  pub read : HasScenario holds words (bundle_names bundle) w scenario
  pub printed : Appends out.before.contents out.after.contents (bundle_text bundle scenario)

-- the scenario was read, and a first part of the text was printed
pub record PrintsPart (holds : Option Held) (words : Words) (bundle : Bundle) (out : SinkCall) (w : ℕ) : Type 0 where
  pub scenario : Scenario
  pub read : HasScenario holds words (bundle_names bundle) w scenario
  pub printed : AppendsPart out.before.contents out.after.contents (bundle_text bundle scenario)

-- where a scenario is asked for, the text of the run was printed; otherwise nothing was
abbrev pub Prints : Option Held → Words → Bundle → SinkCall → Option ℕ → Type 0
Prints holds words bundle out None = IsSilent out
Prints holds words bundle out (Some w) = PrintsText holds words bundle out w

-- a first part of the text was printed, where a scenario is asked for
abbrev pub PrintsSome : Option Held → Words → Bundle → SinkCall → Option ℕ → Type 0
PrintsSome holds words bundle out None = ⊥
PrintsSome holds words bundle out (Some w) = PrintsPart holds words bundle out w

-- all that was asked for was done
pub record IsDone (files : FilesCall) (words : Words) (call : Call) (out : SinkCall) : Type 0 where
  pub bundle : Bundle
  pub has : HasBundle files.before.holds words call bundle
  pub leaves : Leaves files words bundle (out_word call)
  pub prints : Prints files.before.holds words bundle out (scenario_word call)

-- the run was printed in part, after the save
pub record IsPartDone (files : FilesCall) (words : Words) (call : Call) (out : SinkCall) : Type 0 where
  pub bundle : Bundle
  pub has : HasBundle files.before.holds words call bundle
  pub leaves : Leaves files words bundle (out_word call)
  pub prints : PrintsSome files.before.holds words bundle out (scenario_word call)

-- the inputs were read, and the save of the file at word w failed; no other file changes
pub record IsSaveFault (files : FilesCall) (words : Words) (call : Call) (w : ℕ) : Type 0 where
  pub bundle : Bundle
  pub has : HasBundle files.before.holds words call bundle
  pub asked : HasAsked files.before.holds words bundle (scenario_word call)
  pub word : out_word call ≡ Some w
  pub rose : Rose files.before.faults files.after.faults
  pub named : HasNamedCause files.before.failed_saves files.after.failed_saves (word_at words w)
  pub others : KeepsOthers files.before.holds files.after.holds (word_at words w)

-- ---- what each answer says

-- what an answer says where the words are those of a call
abbrev pub AnswerSaysOf : FilesCall → Words → SinkCall → Call → Status → Type 0
AnswerSaysOf files words out call Ok = IsDone files words call out
AnswerSaysOf files words out call (SaveFailed w) = IsSaveFault files words call w × IsSilent out
AnswerSaysOf files words out call WriteFailed =
    Rose out.before.faults out.after.faults × IsPartDone files words call out
AnswerSaysOf files words out call NoMemory = (IsUnchanged files × IsSilent out) ⊎ IsPartDone files words call out
AnswerSaysOf files words out call status = InputSays files words call status × IsUnchanged files × IsSilent out

-- what an answer says by what the words ask for
abbrev pub AnswerSaysBy : FilesCall → Words → SinkCall → Option Call → Status → Type 0
AnswerSaysBy files words out (Some call) status = AnswerSaysOf files words out call status
AnswerSaysBy files words out None status = (status ≡ Usage) × IsUnchanged files × IsSilent out

-- what an answer says
abbrev pub AnswerSays : FilesCall → Words → SinkCall → Status → Type 0
AnswerSays files words out status = AnswerSaysBy files words out (call_in words) status
