use Rattle.std.proofs.Common.{◌≡◌, drop}
use Rattle.tdl_words.specs.Words.{texts, has_word}
use Rattle.tdl_words.proofs.words.has_word.Given as goal

abbrev pub invariant-loop-each : goal.invariant-loop-each
invariant-loop-each l = has_word l.word (texts (drop l.each-index l.words)) ≡ has_word l.word (texts l.words)
