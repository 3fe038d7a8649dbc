use Rattle.std.proofs.Common.{rules, ◌≡◌, ◌<◌, length, sym, subst}
use Rattle.tdl_base.specs.declared.limits.TheConstants.{EXPRESSION_TOKENS}
use Rattle.tdl_grammar.specs.Parsing.{Outcome}
use Rattle.tdl_tree.specs.declared.words.Word.{Word}
use Rattle.tdl_tree.specs.declared.expressions.ExprTree.{ExprTree}
use Rattle.tdl_parse.specs.declared.fail.Fail.{Fail}
use Rattle.tdl_parse.specs.Giving.{Gives, Fails}
use Rattle.tdl_parse.specs.ReadingExpressions.{expr_over, unary}
use Rattle.tdl_parse.proofs.Cuts.{cut_ended, cut_left, cut_fault}
use Rattle.tdl_parse.proofs.outermost.outermost.Goals as goal

pub returns-then-is_empty-clause-value : goal.returns-then-is_empty-clause-value
returns-then-is_empty-clause-value c =
    let none : length c.in-Ok.rest.now ≡ 0 = search rules in
    subst (λ (z : Outcome Word ExprTree). Gives (λ x. (x.0, x.1.now)) c.ended.result z)
    (sym (cut_ended c.args.words.now c.cut-front.result.now c.in-Ok.rest.now c.beyond-after.result.now c.in-Ok.tree
    c.cut-front.ensures c.in-Ok.ensures.value none c.beyond-after.ensures))
    c.ended.ensures

pub returns-else-is_empty-clause-value : goal.returns-else-is_empty-clause-value
returns-else-is_empty-clause-value c =
    let some : 0 < length c.in-Ok.rest.now = search rules in
    cut_left c.args.words.now c.cut-front.result.now c.in-Ok.rest.now c.beyond-after.result.now c.in-Ok.tree
    c.cut-front.ensures c.in-Ok.ensures.value some c.beyond-after.ensures

pub returns-in-Err-At-clause-value : goal.returns-in-Err-At-clause-value
returns-in-Err-At-clause-value c =
    let fault = subst (λ (e : Fail). Fails e (expr_over (unary EXPRESSION_TOKENS) c.cut-front.result.now))
    c.in-Err-At.field-0-is c.in-Err-At.ensures.value in
    cut_fault c.args.words.now c.cut-front.result.now c.in-Err-At.rest.now c.beyond.result.now
    c.cut-front.ensures fault c.beyond.ensures
