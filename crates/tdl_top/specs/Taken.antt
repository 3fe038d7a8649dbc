-- What the words and the files give: the program, its placement and its schedule, and the bundle of the three.
use Rattle.std.specs.Prelude.{◌≡◌, ℕ, List, Option}
use Rattle.tdl_base.specs.declared.limits.TheConstants.{ALL_SOURCES_BYTES}
use Rattle.tdl_io.specs.Outside.{Held}
use Rattle.tdl_mode.specs.declared.program.Program.{Program}
use Rattle.tdl_deploy.specs.declared.placement.Placement.{Placement}
use Rattle.tdl_deploy.specs.declared.schedule.Schedule.{Schedule}
use Rattle.tdl_deploy.specs.Named.{one_node}
use Rattle.tdl_deploy.specs.AtRelease.{schedule_at_release}
use Rattle.tdl_image.specs.declared.bundle.Bundle.{Bundle}
use Rattle.tdl_gen.specs.Realises.{bundle_of}
use Rattle.tdl_tree.specs.declared.declarations.Tree.{Tree}
use Rattle.tdl_words.specs.Words.{Words, words_from}
use Rattle.tdl_top.specs.Sources.{HaveTrees, SayProgram}

-- the placement that is taken: all modules on the one node `n1`
abbrev pub placement_of : Program → Placement
placement_of program = one_node program

-- the schedule that is taken: each invocation has the processor from its release on, for its worst case
abbrev pub schedule_of : Program → Placement → Schedule
schedule_of program placement = schedule_at_release program

-- the bundle of a program, as it is placed and scheduled
abbrev pub bundle_for : Program → Bundle
bundle_for program = bundle_of program (placement_of program) (schedule_of program (placement_of program))

-- the trees say a program, and this is its bundle
pub record SayBundle (trees : List Tree) (bundle : Bundle) : Type 0 where
  pub program : Program
  pub say : SayProgram trees program
  pub made : bundle ≡ bundle_for program

-- the n sources whose names stand from word 1 on were read, and have these trees
abbrev pub AreRead : Option Held → Words → (n : ℕ) → List Tree → Type 0
AreRead holds words n trees = HaveTrees holds (words_from words 1 n) ALL_SOURCES_BYTES trees

-- they were read, and say this program
pub record HaveProgram (holds : Option Held) (words : Words) (n : ℕ) (program : Program) : Type 0 where
  pub trees : List Tree
  pub read : AreRead holds words n trees
  pub say : SayProgram trees program

-- the words and the files give this program, this placement and this schedule
pub record IsTaken (holds : Option Held) (words : Words) (n : ℕ) (program : Program) (placement : Placement)
    (schedule : Schedule)
    : Type 0 where
  pub sources : HaveProgram holds words n program
  pub placed : placement ≡ placement_of program
  pub scheduled : schedule ≡ schedule_of program placement
