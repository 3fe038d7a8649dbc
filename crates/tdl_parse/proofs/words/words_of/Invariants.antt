use Rattle.std.proofs.Common.{◌≡◌, map, take}
use Rattle.tdl_parse.specs.Words.{word_of}
use Rattle.tdl_parse.proofs.words.words_of.Given as goal

abbrev pub invariant-loop-token : goal.invariant-loop-token
invariant-loop-token l = l.words.items ≡ map (word_of l.source) (take l.token-index l.tokens)
