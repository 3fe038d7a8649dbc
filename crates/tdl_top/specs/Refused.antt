-- What the inputs of a call are refused for, and what an answer says of them.
use Rattle.std.specs.Prelude.{◌≡◌, ℕ, List, [], ◌⊎◌, ⊤, Option, Some, None}
use Rattle.tdl_base.specs.declared.limits.TheConstants.{ALL_SOURCES_BYTES, SCENARIO_BYTES, BUNDLE_BYTES}
use Rattle.tdl_io.specs.Outside.{Held, IsLonger, Rose, HasNamedCause}
use Rattle.tdl_mode.specs.declared.program.Program.{Program}
use Rattle.tdl_rules.specs.Faults.{faults}
use Rattle.tdl_scan.specs.Tokens.{IsTokenFault}
use Rattle.tdl_lines.specs.Faults.{IsFirst}
use Rattle.tdl_scenario.specs.Rules.{scenario_faults}
use Rattle.tdl_tree.specs.declared.declarations.Tree.{Tree}
use Rattle.tdl_image.specs.declared.bundle.Bundle.{Bundle}
use Rattle.tdl_image.specs.Spelling.{bundle_bytes}
use Rattle.tdl_image.specs.Spellable.{IsSpellable}
use Rattle.tdl_decode.specs.BundleGrammar.{IsBundleFault}
use Rattle.tdl_verify.specs.Texts.{bundle_names}
use Rattle.tdl_words.specs.declared.words.Call.{Call}
use Rattle.tdl_words.specs.Words.{Words, word_at, words_from, source_count, scenario_word}
use Rattle.tdl_report.specs.declared.status.Status.{Status}
use Rattle.tdl_report.specs.declared.status.Status.TheVariants.{LoadFailed, TooLong, BadToken, BadSyntax, BadProgram, BadScenario, BadBundle, NoMemory, BadForm}
use Rattle.tdl_report.specs.Calls.{FilesCall}
use Rattle.tdl_top.specs.Sources.{HasSyntaxFault, IsRead, AtSource, SayProgram, HaveFault, limit_of}
use Rattle.tdl_top.specs.Taken.{AreRead}
use Rattle.tdl_top.specs.Inputs.{IsSpellingOf, HasBundle}

-- the file of a name was read within the limit, and this holds of its bytes
pub record ReadsSome (holds : Option Held) (name : List ℕ) (limit : ℕ) (is : List ℕ → Type 0) : Type 0 where
  pub bytes : List ℕ
  pub read : IsRead holds name limit bytes
  pub holds_of : is bytes

-- ---- what sources are refused for

-- the source of a name, which stands at word w, is refused with this answer
abbrev pub SourceRefused : Option Held → Status → (name : List ℕ) → (left w : ℕ) → Type 0
SourceRefused holds (TooLong v) name left w = (v ≡ w) × IsLonger holds name (limit_of left)
SourceRefused holds (BadToken v line col) name left w =
    (v ≡ w) × ReadsSome holds name (limit_of left) (λ bytes. IsTokenFault bytes line col)
SourceRefused holds (BadSyntax v line col) name left w =
    (v ≡ w) × ReadsSome holds name (limit_of left) (λ bytes. HasSyntaxFault bytes line col)
SourceRefused holds status name left w = ⊥

-- of the n sources from word 1 on this holds, and those before it are good
abbrev pub AmongSources : Option Held → Words → ℕ → (List ℕ → ℕ → ℕ → Type 0) → Type 0
AmongSources holds words n P = AtSource holds P (words_from words 1 n) ALL_SOURCES_BYTES 1

-- they were read, and break a rule, first here
pub record BreakRule (holds : Option Held) (words : Words) (n w rule line col : ℕ) : Type 0 where
  pub trees : List Tree
  pub read : AreRead holds words n trees
  pub fault : HaveFault trees w rule line col

-- they were read, break no rule, and say no program
pub record HaveNoProgram (holds : Option Held) (words : Words) (n : ℕ) : Type 0 where
  pub trees : List Tree
  pub read : AreRead holds words n trees
  pub obey : faults trees ≡ []
  pub other : (program : Program) → SayProgram trees program → ⊥

-- they are refused with this answer: one of them is, or they break a rule, or they say no program
abbrev pub SourcesRefused : Option Held → Words → ℕ → Status → Type 0
SourcesRefused holds words n (BadProgram w rule line col) = BreakRule holds words n w rule line col
SourcesRefused holds words n (BadForm w) = (w ≡ 1) × HaveNoProgram holds words n
SourcesRefused holds words n status = AmongSources holds words n (SourceRefused holds status)

-- ---- what the file of a bundle is refused for

-- the bytes are the spelling of a bundle
pub record IsSpelling (bytes : List ℕ) : Type 0 where
  pub bundle : Bundle
  pub spellable : IsSpellable bundle
  pub spelled : bytes ≡ bundle_bytes bundle

-- they are, and of none that is taken
abbrev pub IsOtherSpelling : List ℕ → Type 0
IsOtherSpelling bytes = IsSpelling bytes × ((bundle : Bundle) → IsSpellingOf bundle bytes → ⊥)

-- the file at word 1 was read as a bundle, and this holds of its bytes
abbrev pub ReadsAsBundle : Option Held → Words → (List ℕ → Type 0) → Type 0
ReadsAsBundle holds words is = ReadsSome holds (word_at words 1) BUNDLE_BYTES is

-- it is refused with this answer
abbrev pub BundleRefused : Option Held → Words → Status → Type 0
BundleRefused holds words (TooLong w) = (w ≡ 1) × IsLonger holds (word_at words 1) BUNDLE_BYTES
BundleRefused holds words (BadBundle rule at) = ReadsAsBundle holds words (λ bytes. IsBundleFault bytes rule at)
BundleRefused holds words (BadForm w) = (w ≡ 1) × ReadsAsBundle holds words IsOtherSpelling
BundleRefused holds words status = ⊥

-- ---- what the scenario is refused for

-- the scenario that is asked for was read, and breaks a rule for the bundle's names, first this one in this line
pub record BreaksScenario (holds : Option Held) (words : Words) (call : Call) (bundle : Bundle) (rule line : ℕ) : Type 0
  where
    pub word : ℕ
    pub asked : scenario_word call ≡ Some word
    pub bytes : List ℕ
    pub read : IsRead holds (word_at words word) SCENARIO_BYTES bytes
    pub first : IsFirst (record { line = line; rule = rule }) (scenario_faults (bundle_names bundle) [] bytes)

-- where the sources or the first file gave this bundle, the scenario is refused with this answer
abbrev pub ScenarioRefused : Option Held → Words → Call → Bundle → Status → Type 0
ScenarioRefused holds words call bundle (TooLong w) =
    (scenario_word call ≡ Some w) × IsLonger holds (word_at words w) SCENARIO_BYTES
ScenarioRefused holds words call bundle (BadScenario rule line) = BreaksScenario holds words call bundle rule line
ScenarioRefused holds words call bundle status = ⊥

-- ---- the first fault of the inputs

-- so many sources are refused with this answer; where no count of sources is given, the file at word 1 is
abbrev pub FirstRefused : Option Held → Words → Option ℕ → Status → Type 0
FirstRefused holds words (Some n) status = SourcesRefused holds words n status
FirstRefused holds words None status = BundleRefused holds words status

-- a bundle was given, and the scenario is refused with this answer
pub record IsRefusedLater (holds : Option Held) (words : Words) (call : Call) (status : Status) : Type 0 where
  pub bundle : Bundle
  pub has : HasBundle holds words call bundle
  pub is : ScenarioRefused holds words call bundle status

-- the inputs are refused with this answer: the sources or the bundle, or the scenario after them
abbrev pub IsRefused : Option Held → Words → Call → Status → Type 0
IsRefused holds words call status =
    FirstRefused holds words (source_count call) status ⊎ IsRefusedLater holds words call status

-- the file at word w is read among the first: it is a source, or that of the bundle
abbrev pub IsAskedFirst : Option Held → Words → Option ℕ → ℕ → Type 0
IsAskedFirst holds words (Some n) w = AmongSources holds words n (λ name left at. w ≡ at)
IsAskedFirst holds words None w = w ≡ 1

-- the file at word w is read: so, or as the scenario where a bundle was given
abbrev pub IsAsked : Option Held → Words → Call → ℕ → Type 0
IsAsked holds words call w =
    IsAskedFirst holds words (source_count call) w
    ⊎ ((scenario_word call ≡ Some w) × ((bundle : Bundle) × HasBundle holds words call bundle))

-- a load of the file at word w failed
pub record IsFailedLoad (files : FilesCall) (words : Words) (w : ℕ) : Type 0 where
  pub rose : Rose files.before.faults files.after.faults
  pub named : HasNamedCause files.before.failed_loads files.after.failed_loads (word_at words w)

-- what an answer says that the inputs give
abbrev pub InputSays : FilesCall → Words → Call → Status → Type 0
InputSays files words call (LoadFailed w) = IsAsked files.before.holds words call w × IsFailedLoad files words w
InputSays files words call (TooLong w) = IsRefused files.before.holds words call (TooLong w)
InputSays files words call (BadToken w line col) = IsRefused files.before.holds words call (BadToken w line col)
InputSays files words call (BadSyntax w line col) = IsRefused files.before.holds words call (BadSyntax w line col)
InputSays files words call (BadProgram w rule line col) =
    IsRefused files.before.holds words call (BadProgram w rule line col)
InputSays files words call (BadScenario rule line) = IsRefused files.before.holds words call (BadScenario rule line)
InputSays files words call (BadBundle rule at) = IsRefused files.before.holds words call (BadBundle rule at)
InputSays files words call (BadForm w) = IsRefused files.before.holds words call (BadForm w)
InputSays files words call NoMemory = ⊤
InputSays files words call status = ⊥
