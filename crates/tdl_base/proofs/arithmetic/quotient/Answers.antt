-- The result is std's quotient of the two numbers, which is ours since the divisor is not 0.
use Rattle.std.proofs.Common.{rules, w64, FitsSigned, to_z-of_z, ◌∙◌}
use Rattle.tdl_base.proofs.Division.{wrapped-quotient}
use Rattle.tdl_base.proofs.arithmetic.quotient.Goals as goal

pub returns : goal.returns
returns c =
    let dividend = c.ranges.a in
    let divisor = c.ranges.b in
    let fits : FitsSigned w64 c.wrapping_div.result = search rules in
    let divided = simp to_z-of_z at c.wrapping_div.ensures in
    to_z-of_z fits ∙ divided ∙ wrapped-quotient c.args.a c.args.b dividend c.if-b-eq0.false
