use Rattle.tdl_lower.proofs.ExprCodes.{code_value-expr_code}
use Rattle.tdl_lower.proofs.BodyCodes.{cells_after-code}
use Rattle.tdl_lower.proofs.laws.lowering.Goals as goal

pub returns-clause-number : goal.returns-clause-number
returns-clause-number c = code_value-expr_code

pub returns-clause-cells : goal.returns-clause-cells
returns-clause-cells c = cells_after-code
