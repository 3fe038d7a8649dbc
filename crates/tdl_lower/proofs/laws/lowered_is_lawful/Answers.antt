use Rattle.tdl_lower.proofs.LawfulBodies.{body_code-lawful, expr_code-lawful}
use Rattle.tdl_lower.proofs.laws.lowered_is_lawful.Goals as goal

pub returns-clause-body : goal.returns-clause-body
returns-clause-body c = λ b shape bounded uses is_body. body_code-lawful shape is_body b bounded uses

pub returns-clause-expression : goal.returns-clause-expression
returns-clause-expression c = expr_code-lawful
