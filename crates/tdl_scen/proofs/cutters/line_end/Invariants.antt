use Rattle.std.proofs.Common.{◌≡◌, take, drop}
use Rattle.tdl_scen.specs.Lines.{lines_from, lines_of}
use Rattle.tdl_scen.proofs.cutters.line_end.Given as goal

abbrev pub invariant-loop-i : goal.invariant-loop-i
invariant-loop-i l = lines_from (take l.i l.bytes) (drop l.i l.bytes) ≡ lines_of l.bytes
