-- Expressions are read well, level by level.
use Rattle.std.proofs.Common.{ℕ, zero, suc, Bool, true, false, ◌||◌, refl}
use Rattle.tdl_grammar.specs.Grammar as G
use Rattle.tdl_grammar.specs.Grammar.{some_depth, at_most}
use Rattle.tdl_grammar.specs.Parsing.{one, both, made, either, maybe, follow}
use Rattle.tdl_grammar.specs.Goodness.{Good, never, any}
use Rattle.tdl_grammar.proofs.Goods.{good_one, good_both, good_after, good_made, good_either, good_widen, nullable_maybe}
use Rattle.tdl_grammar.proofs.Chains.{good_chain}
use Rattle.tdl_tree.specs.declared.words.Word.{Word}
use Rattle.tdl_tree.specs.declared.words.WordKind.TheVariants as k
use Rattle.tdl_tree.specs.declared.expressions.ExprTree.{ExprTree}
use Rattle.tdl_tree.specs.Kinds.{is}
use Rattle.tdl_tree.specs.Words as W
use Rattle.tdl_tree.specs.Words.{Text}
use Rattle.tdl_tree.specs.Names as N
use Rattle.tdl_tree.specs.Expressions as X
use Rattle.tdl_tree.specs.Expressions.{is_comparison, is_sum_sign, is_product_sign, is_unary_sign}
use Rattle.tdl_parse.specs.Reading.{Parser, after, before, id, number}
use Rattle.tdl_parse.specs.ReadingExpressions as R
use Rattle.tdl_parse.specs.ReadingExpressions.{goes_on}
use Rattle.tdl_parse.proofs.WordTests.{word_of, apart, within}
use Rattle.tdl_parse.proofs.GoodWords as words
use Rattle.tdl_parse.proofs.GoodWords.{never_apart, good_word}
use Rattle.tdl_parse.proofs.GoodNames.{good_id, good_number}

-- ---- what begins an expression, and on what each level goes on

abbrev pub begins_plain : Word → Bool
begins_plain word = is k.Number word || is k.True word || is k.False word || is k.Name word

abbrev pub begins_expr : Word → Bool
begins_expr word = is k.Minus word || is k.Bang word || is k.LeftParenthesis word || begins_plain word

abbrev pub in_prod : Word → Bool
in_prod word = is k.Dot word || is_product_sign word

abbrev pub in_sum : Word → Bool
in_sum word = in_prod word || is_sum_sign word

abbrev pub in_rel : Word → Bool
in_rel word = in_sum word || is_comparison word

abbrev pub in_conj : Word → Bool
in_conj word = in_rel word || is k.AndAnd word

-- ---- the levels

pub good_prod : (p : Parser ExprTree) (L : Text ExprTree) → Good p L L begins_expr (is k.Dot) →
    Good (R.prod p) (X.prod L) (X.prod L) begins_expr in_prod
unfolding R.prod is_product_sign
good_prod p L x =
    good_widen _ _ _ begins_expr (any (is k.Dot) (any is_product_sign (is k.Dot))) begins_expr in_prod (λ w e. e)
    (within _ _ (λ w. refl) (λ w. refl) refl)
    (good_chain is_product_sign (word_of k.Star) refl X.joins p L L begins_expr (is k.Dot) (apart _ _ (λ w. refl)
    (λ w. refl) refl) x)

pub good_sum : (p : Parser ExprTree) (L : Text ExprTree) → Good p L L begins_expr (is k.Dot) →
    Good (R.sum p) (X.sum L) (X.sum L) begins_expr in_sum
unfolding R.sum is_sum_sign is_product_sign
good_sum p L x =
    good_widen _ _ _ begins_expr (any in_prod (any is_sum_sign in_prod)) begins_expr in_sum (λ w e. e) (within _ _
    (λ w. refl) (λ w. refl) refl)
    (good_chain is_sum_sign (word_of k.Plus) refl X.joins (R.prod p) (X.prod L) (X.prod L) begins_expr in_prod
    (apart _ _ (λ w. refl) (λ w. refl) refl) (good_prod p L x))

pub good_rel : (p : Parser ExprTree) (L : Text ExprTree) → Good p L L begins_expr (is k.Dot) →
    Good (R.rel p) (X.rel L) (X.rel L) begins_expr in_rel
unfolding R.rel is_comparison is_sum_sign is_product_sign
good_rel p L x =
    let side = good_sum p L x in
    good_widen _ _ _ begins_expr (any in_sum (any is_comparison in_sum)) begins_expr in_rel (λ w e. e) (within _ _
    (λ w. refl) (λ w. refl) refl)
    (good_made X.compared (follow is_comparison (R.sum p) (both (one is_comparison) (R.sum p))) _ _ begins_expr
    (any in_sum (any is_comparison in_sum))
    (good_after (R.sum p) (maybe is_comparison (both (one is_comparison) (R.sum p))) (X.sum L) (X.sum L) _
    _ begins_expr in_sum is_comparison (any is_comparison in_sum)
    (apart _ _ (λ w. refl) (λ w. refl) refl) side
    (nullable_maybe (both (one is_comparison) (R.sum p)) _ _ is_comparison in_sum
    (good_both (one is_comparison) (R.sum p) (G.one is_comparison) (G.one is_comparison) (X.sum L)
    (X.sum L) is_comparison never begins_expr in_sum (never_apart begins_expr)
    (good_one is_comparison (word_of k.Less) refl) side))))

pub good_conj : (p : Parser ExprTree) (L : Text ExprTree) → Good p L L begins_expr (is k.Dot) →
    Good (R.conj p) (X.conj L) (X.conj L) begins_expr in_conj
unfolding R.conj is_comparison is_sum_sign is_product_sign
good_conj p L x =
    good_widen _ _ _ begins_expr (any in_rel (any (is k.AndAnd) in_rel)) begins_expr in_conj (λ w e. e) (within _ _
    (λ w. refl) (λ w. refl) refl)
    (good_chain (is k.AndAnd) (word_of k.AndAnd) refl X.joins (R.rel p) (X.rel L) (X.rel L) begins_expr in_rel
    (apart _ _ (λ w. refl) (λ w. refl) refl) (good_rel p L x))

pub good_over : (p : Parser ExprTree) (L : Text ExprTree) → Good p L L begins_expr (is k.Dot) →
    Good (R.expr_over p) (X.expr_over L) (X.expr_over L) begins_expr goes_on
unfolding R.expr_over goes_on is_comparison is_sum_sign is_product_sign
good_over p L x =
    good_widen _ _ _ begins_expr (any in_conj (any (is k.OrOr) in_conj)) begins_expr goes_on (λ w e. e) (within _ _
    (λ w. refl) (λ w. refl) refl)
    (good_chain (is k.OrOr) (word_of k.OrOr) refl X.joins (R.conj p) (X.conj L) (X.conj L) begins_expr in_conj
    (apart _ _ (λ w. refl) (λ w. refl) refl) (good_conj p L x))

-- ---- operands

good_name : Good R.name X.name X.name (is k.Name) (is k.Dot)
unfolding R.name
good_name =
    let part = words.good_after k.Dot refl id N.id N.id (is k.Name) never good_id in
    good_widen _ _ _ (is k.Name) (any never (any (is k.Dot) (any never (any (is k.Dot) never)))) (is k.Name)
    (is k.Dot) (λ w e. e) (within _ _ (λ w. refl) (λ w. refl) refl)
    (good_made X.name_of (follow (is k.Dot) id (follow (is k.Dot) (after k.Dot id) (after k.Dot id))) _ _ (is k.Name) _
    (good_after id (maybe (is k.Dot) (follow (is k.Dot) (after k.Dot id) (after k.Dot id))) N.id N.id _ _
    (is k.Name) never (is k.Dot) _ (never_apart (is k.Dot)) good_id
    (nullable_maybe (follow (is k.Dot) (after k.Dot id) (after k.Dot id)) _ _ (is k.Dot) _
    (good_after (after k.Dot id) (maybe (is k.Dot) (after k.Dot id)) _ _ _ _ (is k.Dot) never (is k.Dot) _
    (never_apart (is k.Dot)) part
    (nullable_maybe (after k.Dot id) _ _ (is k.Dot) never part)))))

good_plain : Good R.plain X.plain X.plain begins_plain (is k.Dot)
unfolding R.plain
good_plain =
    good_widen _ _ _ (any (is k.Number) (any (is k.True) (any (is k.False) (is k.Name)))) (any never (any never
    (any never (is k.Dot)))) begins_plain (is k.Dot)
    (within _ _ (λ w. refl) (λ w. refl) refl) (within _ _ (λ w. refl) (λ w. refl) refl)
    (good_either _ _ _ _ _ _ (is k.Number) never _ _ (apart _ _ (λ w. refl) (λ w. refl) refl)
    (good_made X.number_of number _ _ (is k.Number) never good_number)
    (good_either _ _ _ _ _ _ (is k.True) never _ _ (apart _ _ (λ w. refl) (λ w. refl) refl)
    (good_made (X.truth_of true) (one (is k.True)) _ _ (is k.True) never (good_word k.True refl))
    (good_either _ R.name _ _ X.name X.name (is k.False) never (is k.Name) (is k.Dot) (apart _ _ (λ w. refl)
    (λ w. refl) refl)
    (good_made (X.truth_of false) (one (is k.False)) _ _ (is k.False) never (good_word k.False refl)) good_name)))

-- a sign and an operand, an expression in parentheses, or a plain operand
abbrev pub operand : Parser ExprTree → Parser ExprTree
operand p =
    either is_unary_sign (made X.signed_of (both (one is_unary_sign) p))
    (either (is k.LeftParenthesis) (made X.inner_of (both (one (is k.LeftParenthesis)) (before k.RightParenthesis
    (R.expr_over p)))) R.plain)

abbrev pub operands : Text ExprTree → Text ExprTree
operands L =
    G.either (G.made X.signed_of (G.both (G.one is_unary_sign) L))
    (G.either (G.made X.inner_of (G.both (G.one (is k.LeftParenthesis)) (W.before k.RightParenthesis
    (X.expr_over L)))) X.plain)

good_operand : (p : Parser ExprTree) (L : Text ExprTree) → Good p L L begins_expr (is k.Dot) →
    Good (operand p) (operands L) (operands L) begins_expr (is k.Dot)
unfolding goes_on is_unary_sign is_comparison is_sum_sign is_product_sign
good_operand p L x =
    good_widen _ _ _ (any is_unary_sign (any (is k.LeftParenthesis) begins_plain)) (any (is k.Dot) (any never
    (is k.Dot))) begins_expr (is k.Dot)
    (within _ _ (λ w. refl) (λ w. refl) refl) (within _ _ (λ w. refl) (λ w. refl) refl)
    (good_either _ _ _ _ _ _ is_unary_sign (is k.Dot) _ _ (apart _ _ (λ w. refl) (λ w. refl) refl)
    (good_made X.signed_of (both (one is_unary_sign) p) _ _ is_unary_sign (is k.Dot)
    (good_both (one is_unary_sign) p (G.one is_unary_sign) (G.one is_unary_sign) L L is_unary_sign never begins_expr
    (is k.Dot) (never_apart begins_expr)
    (good_one is_unary_sign (word_of k.Minus) refl) x))
    (good_either _ R.plain _ _ X.plain X.plain (is k.LeftParenthesis) never begins_plain (is k.Dot) (apart _ _
    (λ w. refl) (λ w. refl) refl)
    (good_made X.inner_of (both (one (is k.LeftParenthesis)) (before k.RightParenthesis (R.expr_over p))) _ _
    (is k.LeftParenthesis) never
    (good_both (one (is k.LeftParenthesis)) (before k.RightParenthesis (R.expr_over p)) (G.one
    (is k.LeftParenthesis)) (G.one (is k.LeftParenthesis)) _ _ (is k.LeftParenthesis) never begins_expr never
    (never_apart begins_expr) (good_word k.LeftParenthesis refl)
    (words.good_before_word k.RightParenthesis refl (R.expr_over p) (X.expr_over L)
    (X.expr_over L) begins_expr goes_on (apart _ _ (λ w. refl) (λ w. refl) refl) (good_over p L x))))
    good_plain))

pub good_unary : (n : ℕ) → Good (R.unary n) (X.unary n) (X.unary n) begins_expr (is k.Dot)
unfolding R.unary X.unary
good_unary zero = good_widen R.plain X.plain X.plain begins_plain (is k.Dot) begins_expr (is k.Dot) (within _ _
    (λ w. refl) (λ w. refl) refl) (λ w e. e) good_plain
good_unary (suc n) = good_operand (R.unary n) (X.unary n) (good_unary n)

pub good_expr : (n : ℕ) → Good (R.expr n) (X.expr n) (X.expr n) begins_expr goes_on
unfolding R.expr
good_expr n = good_over (R.unary n) (X.unary n) (good_unary n)
