-- What an answer says, from what its steps say.
use Rattle.std.proofs.Common.{◌≡◌, ℕ, List, subst, sym, ap, arith, inl, inr, ◌∙◌, Option, Some}
use Rattle.std.specs.Prelude.{◌≢◌}
use Rattle.tdl_io.specs.Outside.{Held, HasNamedCause, KeepsOthers, Appends, AppendsPart}
use Rattle.tdl_io.specs.Told.{FilesTold}
use Rattle.tdl_scen.specs.declared.entries.Scenario.{Scenario}
use Rattle.tdl_image.specs.declared.bundle.Bundle.{Bundle}
use Rattle.tdl_verify.specs.Texts.{bundle_names, bundle_text}
use Rattle.tdl_report.specs.declared.status.Status.{Status}
use Rattle.tdl_report.specs.declared.status.Status.TheVariants.{Ok, WriteFailed, SaveFailed, NoMemory}
use Rattle.tdl_words.specs.declared.words.Call.{Call}
use Rattle.tdl_words.specs.Words.{Words, word_at, out_word, scenario_word}
use Rattle.tdl_report.specs.Calls.{FilesCall, SinkCall, OnlyLoads, IsUnchanged, IsSilent}
use Rattle.tdl_top.specs.Loads.{SaveSays, PrintSays}
use Rattle.tdl_top.specs.Inputs.{HasBundle, HasScenario}
use Rattle.tdl_top.specs.Refused.{InputSays}
use Rattle.tdl_top.specs.Answers.{HasAsked, Leaves, Prints, PrintsSome, IsPartDone, AnswerSaysOf}
use Rattle.tdl_top.proofs.Loading.{named_same}

-- inputs that are refused, before anything is saved or printed
pub says_input : (files : FilesCall) (words : Words) (out : SinkCall) (call : Call) (s : Status) → IsUnchanged files →
    IsSilent out →
    InputSays files words call s → AnswerSaysOf files words out call s
says_input files words out call Ok same silent says = absurd says
says_input files words out call (SaveFailed w) same silent says = absurd says
says_input files words out call WriteFailed same silent says = absurd says
says_input files words out call NoMemory same silent says = inl (same, silent)
says_input files words out call s same silent says = (says, same, silent)

-- ---- the save

-- no other file changed since loads before it
pub others_since : (a b : FilesTold) (holds : Option Held) (name : List ℕ) →
    OnlyLoads (record { before = a; after = b }) →
    KeepsOthers b.holds holds name → KeepsOthers a.holds holds name
others_since a b holds name loads others = subst (λ (h : Option Held). KeepsOthers h holds name) loads.held others

-- a save that is refused, after the inputs were read
pub says_save : (a b c : FilesTold) (words : Words) (out : SinkCall) (call : Call) (bundle : Bundle) (at : ℕ)
    (s : Status) →
    OnlyLoads (record { before = a; after = b }) → HasBundle a.holds words call bundle →
    HasAsked a.holds words bundle (scenario_word call) →
    out_word call ≡ Some at → KeepsOthers b.holds c.holds (word_at words at) → IsSilent out →
    SaveSays (record { before = b; after = c }) (word_at words at) at s →
    AnswerSaysOf (record { before = a; after = c }) words out call s
says_save a b c words out call bundle at (SaveFailed w) loads has asked word others silent says = (
  record {
    bundle = bundle;
    has = has;
    asked = asked;
    word = word ∙ ap Some (sym says.0);
    rose = omega (arith, loads.later, says.1);
    named = subst (λ (k : ℕ). HasNamedCause a.failed_saves c.failed_saves (word_at words k)) (sym says.0)
        (named_same a.failed_saves b.failed_saves c.failed_saves (word_at words at) loads.saves says.2);
    others =
        subst (λ (k : ℕ). KeepsOthers a.holds c.holds (word_at words k)) (sym says.0)
        (others_since a b c.holds (word_at words at) loads others);
  },
  silent,
)
says_save a b c words out call bundle at NoMemory loads has asked word others silent says =
    inl (says ∙ loads.held, silent)
says_save a b c words out call bundle at s loads has asked word others silent says = absurd says

-- ---- the rows

-- the whole text was printed
pub says_done : (files : FilesCall) (words : Words) (out : SinkCall) (call : Call) (b : Bundle) (w : ℕ) (s : Scenario)
    → HasBundle files.before.holds words call b →
    Leaves files words b (out_word call) → scenario_word call ≡ Some w →
    HasScenario files.before.holds words (bundle_names b) w s →
    Appends out.before.contents out.after.contents (bundle_text b s) → AnswerSaysOf files words out call Ok
says_done files words out call b w s has leaves word read printed = record {
  bundle = b;
  has = has;
  leaves = leaves;
  prints =
      subst (λ (o : Option ℕ). Prints files.before.holds words b out o) (sym word)
      (record { scenario = s; read = read; printed = printed });
}

-- a first part of the text was printed
part_done : (files : FilesCall) (words : Words) (out : SinkCall) (call : Call) (b : Bundle) (w : ℕ) (s : Scenario) →
    HasBundle files.before.holds words call b →
    Leaves files words b (out_word call) → scenario_word call ≡ Some w →
    HasScenario files.before.holds words (bundle_names b) w s →
    AppendsPart out.before.contents out.after.contents (bundle_text b s) → IsPartDone files words call out
part_done files words out call b w s has leaves word read printed = record {
  bundle = b;
  has = has;
  leaves = leaves;
  prints =
      subst (λ (o : Option ℕ). PrintsSome files.before.holds words b out o) (sym word)
      (record { scenario = s; read = read; printed = printed });
}

-- the printing was refused, after a first part of the text
pub says_part : (files : FilesCall) (words : Words) (out : SinkCall) (call : Call) (b : Bundle) (w : ℕ) (s : Scenario)
    (st : Status) →
    HasBundle files.before.holds words call b → Leaves files words b (out_word call) → scenario_word call ≡ Some w →
    HasScenario files.before.holds words (bundle_names b) w s → PrintSays out (bundle_text b s) st →
    AnswerSaysOf files words out call st
says_part files words out call b w s WriteFailed has leaves word read says =
    (says.0, part_done files words out call b w s has leaves word read says.1)
says_part files words out call b w s NoMemory has leaves word read says =
    inr (part_done files words out call b w s has leaves word read says)
says_part files words out call b w s st has leaves word read says = absurd says

-- ---- what a refused save or printing is not

-- a refused save is not Ok
pub save_not_ok : (files : FilesCall) (name : List ℕ) (at : ℕ) (s : Status) → SaveSays files name at s → s ≢ Ok
save_not_ok files name at s says = λ e. subst (λ (t : Status). SaveSays files name at t) e says

-- nor is a refused printing
pub print_not_ok : (out : SinkCall) (text : List ℕ) (s : Status) → PrintSays out text s → s ≢ Ok
print_not_ok out text s says = λ e. subst (λ (t : Status). PrintSays out text t) e says

-- which is no failed save either
pub print_no_save : (out : SinkCall) (text : List ℕ) (s : Status) → PrintSays out text s → (w : ℕ) → s ≢ SaveFailed w
print_no_save out text s says = λ w e. subst (λ (t : Status). PrintSays out text t) e says
