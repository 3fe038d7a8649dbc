-- A negated number: std's law of the wrapping operation.
use Rattle.std.proofs.Common.{rules, w64, FitsSigned, to_z-of_z, ◌∙◌}
use Rattle.std.proofs.lemmas.Int.{wrapping_neg_is}
use Rattle.tdl_base.proofs.arithmetic.un.Goals as goal

pub returns-in-Neg : goal.returns-in-Neg
returns-in-Neg c =
    let given = c.ranges.a in
    let fits : FitsSigned w64 c.wrapping_neg.result = search rules in
    let negated = simp to_z-of_z at c.wrapping_neg.ensures in
    rw c.in-Neg.is (to_z-of_z fits ∙ negated ∙ wrapping_neg_is w64 c.args.a given)
