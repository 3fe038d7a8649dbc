-- What the inputs of a call give: sources or a bundle, and a scenario.
use Rattle.std.specs.Prelude.{◌≡◌, ℕ, List, [], Option, Some, None}
use Rattle.tdl_base.specs.declared.limits.TheConstants.{SCENARIO_BYTES, BUNDLE_BYTES}
use Rattle.tdl_io.specs.Outside.{Held}
use Rattle.tdl_scen.specs.declared.entries.Scenario.{Scenario}
use Rattle.tdl_scenario.specs.ReadScenario.{scenario_said}
use Rattle.tdl_scenario.specs.Rules.{lines_said, scenario_faults}
use Rattle.tdl_trace.specs.declared.names.Names.{Names}
use Rattle.tdl_tree.specs.declared.declarations.Tree.{Tree}
use Rattle.tdl_image.specs.declared.bundle.Bundle.{Bundle}
use Rattle.tdl_image.specs.Spelling.{bundle_bytes}
use Rattle.tdl_make.specs.PlainBundle.{IsPlainBundle}
use Rattle.tdl_words.specs.declared.words.Call.{Call}
use Rattle.tdl_words.specs.Words.{Words, word_at, source_count}
use Rattle.tdl_top.specs.Sources.{IsRead}
use Rattle.tdl_top.specs.Taken.{AreRead, SayBundle}

-- n sources were read, and say a program with this bundle
pub record HaveBundle (holds : Option Held) (words : Words) (n : ℕ) (bundle : Bundle) : Type 0 where
  pub trees : List Tree
  pub read : AreRead holds words n trees
  pub say : SayBundle trees bundle

-- the bytes are the spelling of this bundle, which is that of a plain program
pub record IsSpellingOf (bundle : Bundle) (bytes : List ℕ) : Type 0 where
  pub plain : IsPlainBundle bundle
  pub spelled : bytes ≡ bundle_bytes bundle

-- the file at word 1 was read and is the spelling of this bundle
pub record ReadsBundle (holds : Option Held) (words : Words) (bundle : Bundle) : Type 0 where
  pub bytes : List ℕ
  pub read : IsRead holds (word_at words 1) BUNDLE_BYTES bytes
  pub spelling : IsSpellingOf bundle bytes

-- so many sources give this bundle; where no count of sources is given, the file at word 1 does
abbrev pub Gives : Option Held → Words → Option ℕ → Bundle → Type 0
Gives holds words (Some n) bundle = HaveBundle holds words n bundle
Gives holds words None bundle = ReadsBundle holds words bundle

-- a call's sources, or the file of its bundle, give this bundle
abbrev pub HasBundle : Option Held → Words → Call → Bundle → Type 0
HasBundle holds words call bundle = Gives holds words (source_count call) bundle

-- the bytes break no rule of scenarios for these names, where there is no plant, and say this scenario
pub record IsScenarioOf (names : Names) (bytes : List ℕ) (scenario : Scenario) : Type 0 where
  pub lawful : scenario_faults names [] bytes ≡ []
  pub said : scenario ≡ scenario_said (lines_said names [] bytes)

-- the file at word w was read and is this scenario of the names
pub record HasScenario (holds : Option Held) (words : Words) (names : Names) (w : ℕ) (scenario : Scenario) : Type 0
  where
    pub bytes : List ℕ
    pub read : IsRead holds (word_at words w) SCENARIO_BYTES bytes
    pub says : IsScenarioOf names bytes scenario
