use Rattle.std.proofs.Common.{◌≡◌, drop}
use Rattle.tdl_words.specs.Words.{texts, place_after}
use Rattle.tdl_words.proofs.words.place_after.Given as goal

abbrev pub invariant-loop-k : goal.invariant-loop-k
invariant-loop-k l = place_after l.option l.k (texts (drop l.k l.words)) ≡ place_after l.option 0 (texts l.words)
