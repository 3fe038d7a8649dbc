-- By the node.
use Rattle.std.proofs.Common.{◌-◌, max, nat_lt, ap, sym, ◌∙◌}
use Rattle.tdl_rules.specs.Trees.{depth, depth_in}
use Rattle.tdl_rules.proofs.Equations.{depth_in-number, depth_in-truth, depth_in-name, depth_in-un, depth_in-bin}
use Rattle.tdl_bounds.proofs.Deep.{deep-leaf, deep-here, deep-un, deep-left, deep-right}
use Rattle.tdl_bounds.proofs.depths.+is_deeper.Goals as goal

pub returns-in-Number : goal.returns-in-Number
returns-in-Number t c =
    deep-leaf c.args.expression.now c.args.most (ap depth_in c.in-Number.is ∙ depth_in-number c.in-Number.field-0)

pub returns-in-Truth : goal.returns-in-Truth
returns-in-Truth t c =
    deep-leaf c.args.expression.now c.args.most (ap depth_in c.in-Truth.is ∙ depth_in-truth c.in-Truth.field-0)

pub returns-in-Name : goal.returns-in-Name
returns-in-Name t c =
    deep-leaf c.args.expression.now c.args.most (ap depth_in c.in-Name.is ∙ depth_in-name c.in-Name.parts)

pub returns-then-most-lt1 : goal.returns-then-most-lt1
returns-then-most-lt1 t c =
    deep-here c.args.expression.now c.args.most (depth c.in-Un.operand)
    (ap depth_in c.in-Un.is ∙ depth_in-un c.in-Un.field-0 c.in-Un.operand) c.if-most-lt1.true

pub returns-else-most-lt1 : goal.returns-else-most-lt1
returns-else-most-lt1 t c =
    c.is_deeper.ensures ∙ ap (λ e. nat_lt (c.args.most - 1) (depth e)) c.get.ensures
    ∙ deep-un c.args.expression.now c.args.most (depth c.in-Un.operand)
    (ap depth_in c.in-Un.is ∙ depth_in-un c.in-Un.field-0 c.in-Un.operand) c.if-most-lt1.false

pub returns-then-most-lt1-2 : goal.returns-then-most-lt1-2
returns-then-most-lt1-2 t c =
    deep-here c.args.expression.now c.args.most (max (depth c.in-Bin.left) (depth c.in-Bin.right))
    (ap depth_in c.in-Bin.is ∙ depth_in-bin c.in-Bin.field-0 c.in-Bin.left c.in-Bin.right) c.if-most-lt1-2.true

pub returns-then-is_deeper : goal.returns-then-is_deeper
returns-then-is_deeper t c =
    c.if-is_deeper.true
    ∙ deep-left c.args.expression.now c.args.most (depth c.in-Bin.left) (depth c.in-Bin.right)
    (ap depth_in c.in-Bin.is ∙ depth_in-bin c.in-Bin.field-0 c.in-Bin.left c.in-Bin.right) c.if-most-lt1-2.false
    (ap (λ e. nat_lt (c.args.most - 1) (depth e)) (sym c.get-in-Bin.ensures) ∙ sym c.is_deeper-in-Bin.ensures
    ∙ c.if-is_deeper.true)

pub returns-else-is_deeper : goal.returns-else-is_deeper
returns-else-is_deeper t c =
    c.is_deeper-else-is_deeper.ensures ∙ ap (λ e. nat_lt (c.args.most - 1) (depth e)) c.get-else-is_deeper.ensures
    ∙ deep-right c.args.expression.now c.args.most (depth c.in-Bin.left) (depth c.in-Bin.right)
    (ap depth_in c.in-Bin.is ∙ depth_in-bin c.in-Bin.field-0 c.in-Bin.left c.in-Bin.right) c.if-most-lt1-2.false
    (ap (λ e. nat_lt (c.args.most - 1) (depth e)) (sym c.get-in-Bin.ensures) ∙ sym c.is_deeper-in-Bin.ensures
    ∙ c.if-is_deeper.false)
