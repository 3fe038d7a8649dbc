-- By the node.
use Rattle.std.proofs.Common.{rules, FitsSigned, w64, ◌∙◌, ap}
use Rattle.std.proofs.lemmas.Int.{to_z-of_z}
use Rattle.tdl_body.specs.declared.tree.Expr.TheVariants as expr
use Rattle.tdl_tree.specs.declared.expressions.ExprNode.TheVariants as node
use Rattle.tdl_rules.specs.Meanings.{found}
use Rattle.tdl_program.specs.Expressions.{name_read}
use Rattle.tdl_program.proofs.StatementEquations.{expression_in-number, expression_in-truth, expression_in-name}
use Rattle.tdl_resolve.proofs.Made.{made_of, made_un, made_bin}
use Rattle.tdl_resolve.proofs.expressions.+expression_in.Goals as goal

pub returns-in-Number : goal.returns-in-Number
returns-in-Number t c =
    let fits : FitsSigned w64 c.number_of.result = search rules in
    ap (λ v. expr.Const v) (to_z-of_z w64 c.number_of.result fits ∙ c.number_of.ensures)
    ∙ made_of c.args.resolver.now c.args.tree.now (node.Number c.in-Number.number) _ c.in-Number.is
    (expression_in-number c.args.resolver.now c.in-Number.number)

pub returns-in-Truth : goal.returns-in-Truth
returns-in-Truth t c =
    let fits : FitsSigned w64 c.truth_of.result = search rules in
    ap (λ v. expr.Const v) (to_z-of_z w64 c.truth_of.result fits ∙ c.truth_of.ensures)
    ∙ made_of c.args.resolver.now c.args.tree.now (node.Truth c.in-Truth.holds) _ c.in-Truth.is
    (expression_in-truth c.args.resolver.now c.in-Truth.holds)

pub returns-in-Name : goal.returns-in-Name
returns-in-Name t c =
    c.name.ensures ∙ ap (λ parts. name_read c.args.resolver.now (found c.args.resolver.now parts)) c.as_slice.ensures
    ∙ made_of c.args.resolver.now c.args.tree.now (node.Name c.in-Name.parts) _ c.in-Name.is
    (expression_in-name c.args.resolver.now c.in-Name.parts)

pub returns-in_ok-new-in-Un : goal.returns-in_ok-new-in-Un
returns-in_ok-new-in-Un t c =
    made_un c.args.resolver.now c.args.tree.now c.in-Un.op c.in-Un.a c.get.result.now c.in_ok-a-in-Un.a
    c.in_ok-new-in-Un.field-0 c.in-Un.is c.get.ensures c.in_ok-a-in-Un.ensures c.in_ok-new-in-Un.ensures

pub returns-in_ok-new-in-Bin : goal.returns-in_ok-new-in-Bin
returns-in_ok-new-in-Bin t c =
    made_bin c.args.resolver.now c.args.tree.now c.in-Bin.op c.in-Bin.a c.in-Bin.b c.get-in-Bin.result.now
    c.get-in-Bin-2.result.now c.in_ok-a-in-Bin.a c.in_ok-b-in-Bin.b c.in_ok-a-in-Bin-2.a c.in_ok-new-in-Bin.field-0
    c.in-Bin.is c.get-in-Bin.ensures c.get-in-Bin-2.ensures c.in_ok-a-in-Bin.ensures c.in_ok-b-in-Bin.ensures
    c.in_ok-a-in-Bin-2.ensures c.in_ok-new-in-Bin.ensures
