-- The answer that is due, where the files tell what they hold.
use Rattle.std.specs.Prelude.{◌≡◌, Option, Some, None, ⊤}
use Rattle.tdl_io.specs.Outside.{Held}
use Rattle.tdl_image.specs.declared.bundle.Bundle.{Bundle}
use Rattle.tdl_report.specs.declared.status.Status.{Status}
use Rattle.tdl_report.specs.declared.status.Status.TheVariants.{Ok, Usage, LoadFailed, WriteFailed, SaveFailed, NoMemory}
use Rattle.tdl_words.specs.declared.words.Call.{Call}
use Rattle.tdl_words.specs.Words.{Words, call_in, scenario_word}
use Rattle.tdl_top.specs.Inputs.{HasBundle}
use Rattle.tdl_top.specs.Refused.{IsRefused}
use Rattle.tdl_top.specs.Answers.{HasAsked}

-- the sources or the first file give a bundle, and the scenario that is asked for is one of it
pub record HoldsInputs (held : Held) (words : Words) (call : Call) : Type 0 where
  pub bundle : Bundle
  pub has : HasBundle (Some held) words call bundle
  pub asked : HasAsked (Some held) words bundle (scenario_word call)

-- the answer that a call and the files ask for
abbrev pub IsDueOf : Held → Words → Call → Status → Type 0
IsDueOf held words call Ok = HoldsInputs held words call
IsDueOf held words call status = IsRefused (Some held) words call status

-- the same by what the words ask for
abbrev pub IsDueBy : Held → Words → Option Call → Status → Type 0
IsDueBy held words None status = status ≡ Usage
IsDueBy held words (Some call) status = IsDueOf held words call status

-- the answer that the words and the files ask for
abbrev pub IsDue : Held → Words → Status → Type 0
IsDue held words status = IsDueBy held words (call_in words) status

-- an answer of a fault or of want of memory; each has a cause of its own
abbrev pub IsFault : Status → Type 0
IsFault (LoadFailed w) = ⊤
IsFault WriteFailed = ⊤
IsFault (SaveFailed w) = ⊤
IsFault NoMemory = ⊤
IsFault status = ⊥
