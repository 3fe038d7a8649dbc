use Rattle.std.proofs.Common.{sym, subst}
use Rattle.tdl_body.specs.Bounds.{IsBoundedExpr}
use Rattle.tdl_body.proofs.BoundExamples.{bounded-minus}
use Rattle.tdl_lower.proofs.tests.an_operator_comes_last.Goals as goal

pub lower_expr-requires : goal.lower_expr-requires
lower_expr-requires g c = subst IsBoundedExpr (sym c.in_ok-e.ensures) bounded-minus
