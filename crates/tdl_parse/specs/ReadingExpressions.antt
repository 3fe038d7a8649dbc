-- How expressions are read.
use Rattle.std.specs.Prelude.{ℕ, zero, suc, Bool, true, false, ◌||◌}
use Rattle.tdl_base.specs.declared.limits.TheConstants.{EXPRESSION_TOKENS}
use Rattle.tdl_grammar.specs.Parsing.{one, both, made, either, follow, chain, capped}
use Rattle.tdl_tree.specs.declared.words.Word.{Word}
use Rattle.tdl_tree.specs.declared.words.WordKind.TheVariants as k
use Rattle.tdl_tree.specs.declared.expressions.ExprTree.{ExprTree}
use Rattle.tdl_tree.specs.Kinds.{is}
use Rattle.tdl_tree.specs.Expressions.{is_comparison, is_sum_sign, is_product_sign, is_unary_sign, joins, compared, signed_of, inner_of, number_of, truth_of, name_of}
use Rattle.tdl_parse.specs.Reading.{Parser, after, before, id, number}

unfoldable pub prod : Parser ExprTree → Parser ExprTree
prod unary = chain is_product_sign joins unary

unfoldable pub sum : Parser ExprTree → Parser ExprTree
sum unary = chain is_sum_sign joins (prod unary)

unfoldable pub rel : Parser ExprTree → Parser ExprTree
rel unary = made compared (follow is_comparison (sum unary) (both (one is_comparison) (sum unary)))

unfoldable pub conj : Parser ExprTree → Parser ExprTree
conj unary = chain (is k.AndAnd) joins (rel unary)

unfoldable pub expr_over : Parser ExprTree → Parser ExprTree
expr_over unary = chain (is k.OrOr) joins (conj unary)

unfoldable pub name : Parser ExprTree
name = made name_of (follow (is k.Dot) id (follow (is k.Dot) (after k.Dot id) (after k.Dot id)))

unfoldable pub plain : Parser ExprTree
plain =
    either (is k.Number) (made number_of number)
    (either (is k.True) (made (truth_of true) (one (is k.True)))
    (either (is k.False) (made (truth_of false) (one (is k.False))) name))

unfoldable pub unary : ℕ → Parser ExprTree
unary zero = plain
unary (suc n) =
    either is_unary_sign (made signed_of (both (one is_unary_sign) (unary n)))
    (either (is k.LeftParenthesis)
    (made inner_of (both (one (is k.LeftParenthesis)) (before k.RightParenthesis (expr_over (unary n)))))
    plain)

unfoldable pub expr : ℕ → Parser ExprTree
expr n = expr_over (unary n)

-- the words on which an expression goes on
unfoldable pub goes_on : Word → Bool
goes_on word =
    is k.Dot word || is_product_sign word || is_sum_sign word || is_comparison word || is k.AndAnd word ||
    is k.OrOr word

-- an outermost expression
unfoldable pub outermost : Parser ExprTree
outermost = capped EXPRESSION_TOKENS goes_on (expr EXPRESSION_TOKENS)
