use Rattle.std.proofs.Common.{◌≡◌, take, drop}
use Rattle.tdl_lines.specs.DottedWords.{parts_from, parts_of}
use Rattle.tdl_lines.proofs.dots.cut.Given as goal

abbrev pub invariant-loop-i : goal.invariant-loop-i
invariant-loop-i l = parts_from (take l.i l.word) (drop l.i l.word) ≡ parts_of l.word
