use Rattle.std.proofs.Common.{◌≡◌, length}
use Rattle.tdl_words.specs.Words.{texts, are_options}
use Rattle.tdl_words.proofs.words.are_options.Given as goal

abbrev pub invariant-loop-left : goal.invariant-loop-left
invariant-loop-left l = are_options l.allowed (texts l.left) ≡ are_options l.allowed (texts l.words)

abbrev pub decreases-loop-left : goal.decreases-loop-left
decreases-loop-left l = length l.left
