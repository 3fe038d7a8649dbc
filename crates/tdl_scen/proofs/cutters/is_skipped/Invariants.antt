use Rattle.std.proofs.Common.{◌≡◌, drop}
use Rattle.tdl_scen.specs.Lines.{words_of}
use Rattle.tdl_scen.proofs.cutters.is_skipped.Given as goal

abbrev pub invariant-loop-b : goal.invariant-loop-b
invariant-loop-b l = words_of (drop l.b-index l.line) ≡ words_of l.line
