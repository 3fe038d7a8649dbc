use Rattle.std.proofs.Common.{◌≡◌, take, drop}
use Rattle.tdl_scen.specs.Lines.{words_from, words_of}
use Rattle.tdl_scen.proofs.cutters.word_end.Given as goal

abbrev pub invariant-loop-i : goal.invariant-loop-i
invariant-loop-i l = words_from (take l.i l.line) (drop l.i l.line) ≡ words_of l.line
