use Rattle.std.proofs.Common.{◌≡◌, ◌+◌, drop}
use Rattle.tdl_words.specs.Words.{texts, files_in}
use Rattle.tdl_words.proofs.words.files_in.Given as goal

abbrev pub invariant-loop-k : goal.invariant-loop-k
invariant-loop-k l = l.k + files_in (texts (drop l.k l.words)) ≡ files_in (texts l.words)
