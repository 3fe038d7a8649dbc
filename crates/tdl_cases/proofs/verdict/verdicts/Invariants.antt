use Rattle.std.proofs.Common.{All}
use Rattle.tdl_size.specs.Sized.{IsSized}
use Rattle.tdl_cases.proofs.verdict.verdicts.Given as goal

abbrev pub invariant-loop-text : goal.invariant-loop-text
invariant-loop-text l = All IsSized l.trees
