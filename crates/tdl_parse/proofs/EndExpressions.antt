-- Expressions that end too early go on by words that are not written.
use Rattle.std.proofs.Common.{arith, ℕ, zero, suc, true, false, length, refl}
use Rattle.tdl_base.specs.declared.limits.TheConstants.{EXPRESSION_TOKENS}
use Rattle.tdl_grammar.proofs.Capped.{capped_agree}
use Rattle.tdl_grammar.proofs.Ending.{ends_one, ends_both, ends_made, ends_either, ends_maybe, ends_by_length, ends_same}
use Rattle.tdl_grammar.proofs.EndingMany.{ends_chain, ends_capped}
use Rattle.tdl_tree.specs.declared.words.WordKind.TheVariants as k
use Rattle.tdl_tree.specs.declared.expressions.ExprTree.{ExprTree}
use Rattle.tdl_tree.specs.Kinds.{is}
use Rattle.tdl_tree.specs.Words.{Text}
use Rattle.tdl_tree.specs.Expressions as X
use Rattle.tdl_tree.specs.Expressions.{is_comparison, is_sum_sign, is_product_sign, is_unary_sign}
use Rattle.tdl_tree.specs.Faults.{outermost_written}
use Rattle.tdl_parse.specs.Reading.{Parser}
use Rattle.tdl_parse.specs.ReadingExpressions as R
use Rattle.tdl_parse.specs.ReadingExpressions.{goes_on, outermost}
use Rattle.tdl_parse.proofs.WordTests.{word_of}
use Rattle.tdl_parse.proofs.GoodOutermost.{AnyExpr, any_expr, agree_expr}
use Rattle.tdl_parse.proofs.EndNames.{EndsWell, ends_word, ends_after, ends_before, ends_id, ends_number}

ends_prod : {p : Parser ExprTree} {L : Text ExprTree} → EndsWell p L → EndsWell (R.prod p) (X.prod L)
unfolding R.prod is_product_sign
ends_prod {p} {L} x = ends_chain is_product_sign (word_of k.Star) refl refl X.joins x

ends_sum : {p : Parser ExprTree} {L : Text ExprTree} → EndsWell p L → EndsWell (R.sum p) (X.sum L)
unfolding R.sum is_sum_sign
ends_sum {p} {L} x = ends_chain is_sum_sign (word_of k.Plus) refl refl X.joins (ends_prod x)

ends_rel : {p : Parser ExprTree} {L : Text ExprTree} → EndsWell p L → EndsWell (R.rel p) (X.rel L)
unfolding R.rel is_comparison
ends_rel {p} {L} x = ends_made X.compared (ends_both (ends_sum x) (ends_maybe (ends_both (ends_one is_comparison
    (word_of k.Less) refl refl) (ends_sum x))))

ends_conj : {p : Parser ExprTree} {L : Text ExprTree} → EndsWell p L → EndsWell (R.conj p) (X.conj L)
unfolding R.conj
ends_conj {p} {L} x = ends_chain (is k.AndAnd) (word_of k.AndAnd) refl refl X.joins (ends_rel x)

ends_over : {p : Parser ExprTree} {L : Text ExprTree} → EndsWell p L → EndsWell (R.expr_over p) (X.expr_over L)
unfolding R.expr_over
ends_over {p} {L} x = ends_chain (is k.OrOr) (word_of k.OrOr) refl refl X.joins (ends_conj x)

ends_name : EndsWell R.name X.name
unfolding R.name
ends_name =
    let part = ends_after k.Dot refl ends_id in
    ends_made X.name_of (ends_both ends_id (ends_maybe (ends_both part (ends_maybe part))))

ends_plain : EndsWell R.plain X.plain
unfolding R.plain
ends_plain =
    ends_either (ends_made X.number_of ends_number)
    (ends_either (ends_made (X.truth_of true) (ends_word k.True refl))
    (ends_either (ends_made (X.truth_of false) (ends_word k.False refl)) ends_name))

ends_unary : (n : ℕ) → EndsWell (R.unary n) (X.unary n)
unfolding R.unary X.unary is_unary_sign
ends_unary zero = ends_plain
ends_unary (suc n) =
    ends_either (ends_made X.signed_of (ends_both (ends_one is_unary_sign (word_of k.Minus) refl refl)
    (ends_unary n)))
    (ends_either (ends_made X.inner_of (ends_both (ends_word k.LeftParenthesis refl)
    (ends_before k.RightParenthesis refl (ends_over (ends_unary n)))))
    ends_plain)

ends_expr : (n : ℕ) → EndsWell (R.expr n) (X.expr n)
unfolding R.expr
ends_expr n = ends_over (ends_unary n)

ends_any_expr : EndsWell any_expr AnyExpr
ends_any_expr = ends_by_length ends_expr

-- outermost expressions with their limit
pub ends_outermost : EndsWell outermost outermost_written
unfolding outermost
ends_outermost =
    ends_same (capped_agree EXPRESSION_TOKENS goes_on (R.expr EXPRESSION_TOKENS) any_expr (λ ts h. agree_expr
    (length ts) EXPRESSION_TOKENS (length ts) h (omega arith) ts (omega arith)))
    (ends_capped EXPRESSION_TOKENS goes_on ends_any_expr)
