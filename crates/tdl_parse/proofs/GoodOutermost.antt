-- Expressions of any depth, and outermost expressions with their limit, are read well.
use Rattle.std.proofs.Common.{arith, inr, ℕ, zero, suc, [], ◌∷◌, length, refl}
use Rattle.tdl_base.specs.declared.limits.TheConstants.{EXPRESSION_TOKENS}
use Rattle.tdl_grammar.specs.Grammar as G
use Rattle.tdl_grammar.specs.Grammar.{some_depth, at_most}
use Rattle.tdl_grammar.specs.Parsing.{one, capped, by_length}
use Rattle.tdl_grammar.specs.Goodness.{Good, Grows, GrowsTo, Agree, Agreeing}
use Rattle.tdl_grammar.proofs.Goods.{good_one, good_same}
use Rattle.tdl_grammar.proofs.Capped.{good_capped, capped_agree}
use Rattle.tdl_grammar.proofs.Depth.{shrinks, good_by_length, shallow}
use Rattle.tdl_grammar.proofs.Growing.{grow, grow_same, grow_both, grow_made, grow_either, grow_optional, grow_chain}
use Rattle.tdl_grammar.proofs.Agreeing.{agree_made, agree_both, agree_after, agree_either, agree_maybe, agree_chain}
use Rattle.tdl_tree.specs.declared.words.WordKind.TheVariants as k
use Rattle.tdl_tree.specs.declared.expressions.ExprTree.{ExprTree}
use Rattle.tdl_tree.specs.Kinds.{is}
use Rattle.tdl_tree.specs.Words.{Text, first}
use Rattle.tdl_tree.specs.Expressions as X
use Rattle.tdl_tree.specs.Expressions.{is_comparison, is_sum_sign, is_product_sign, is_unary_sign}
use Rattle.tdl_parse.specs.Reading.{Parser, id, number}
use Rattle.tdl_parse.specs.ReadingExpressions as R
use Rattle.tdl_parse.specs.ReadingExpressions.{goes_on}
use Rattle.tdl_parse.proofs.WordTests.{word_of}
use Rattle.tdl_parse.proofs.GoodExpressions.{begins_expr, in_prod, in_rel, in_conj, operand, operands, good_prod, good_sum, good_rel, good_conj, good_over, good_unary, good_expr}

-- ---- parsers of operands that agree on short lists

agree_prod : (d : ℕ) (p p' : Parser ExprTree) (L : Text ExprTree) → Good p' L L begins_expr (is k.Dot) →
    Agree d p p' → Agree d (R.prod p) (R.prod p')
unfolding R.prod
agree_prod d p p' L x a = agree_chain d is_product_sign X.joins p p' (shrinks p' L L begins_expr (is k.Dot) x) a

agree_sum : (d : ℕ) (p p' : Parser ExprTree) (L : Text ExprTree) → Good p' L L begins_expr (is k.Dot) →
    Agree d p p' → Agree d (R.sum p) (R.sum p')
unfolding R.sum
agree_sum d p p' L x a =
    agree_chain d is_sum_sign X.joins (R.prod p) (R.prod p') (shrinks (R.prod p') (X.prod L)
    (X.prod L) begins_expr in_prod (good_prod p' L x)) (agree_prod d p p' L x a)

agree_rel : (d : ℕ) (p p' : Parser ExprTree) (L : Text ExprTree) → Good p' L L begins_expr (is k.Dot) →
    Agree d p p' → Agree d (R.rel p) (R.rel p')
unfolding R.rel is_comparison
agree_rel d p p' L x a =
    let side = agree_sum d p p' L x a in
    agree_made d X.compared _ _
    (agree_both d (R.sum p) (R.sum p') _ _ (X.sum L) (X.sum L) (good_sum p' L x).reads side
    (agree_maybe d is_comparison _ _
    (agree_both d (one is_comparison) (one is_comparison) (R.sum p) (R.sum p') (G.one is_comparison)
    (G.one is_comparison)
    (good_one is_comparison (word_of k.Less) refl).reads (λ ts b. refl) side)))

agree_conj : (d : ℕ) (p p' : Parser ExprTree) (L : Text ExprTree) → Good p' L L begins_expr (is k.Dot) →
    Agree d p p' → Agree d (R.conj p) (R.conj p')
unfolding R.conj
agree_conj d p p' L x a =
    agree_chain d (is k.AndAnd) X.joins (R.rel p) (R.rel p') (shrinks (R.rel p') (X.rel L)
    (X.rel L) begins_expr in_rel (good_rel p' L x)) (agree_rel d p p' L x a)

agree_over : (d : ℕ) (p p' : Parser ExprTree) (L : Text ExprTree) → Good p' L L begins_expr (is k.Dot) →
    Agree d p p' → Agree d (R.expr_over p) (R.expr_over p')
unfolding R.expr_over
agree_over d p p' L x a =
    agree_chain d (is k.OrOr) X.joins (R.conj p) (R.conj p') (shrinks (R.conj p') (X.conj L)
    (X.conj L) begins_expr in_conj (good_conj p' L x)) (agree_conj d p p' L x a)

agree_operand : (d : ℕ) (p p' : Parser ExprTree) (L : Text ExprTree) → Good p' L L begins_expr (is k.Dot) →
    Agree d p p' → Agree (suc d) (operand p) (operand p')
agree_operand d p p' L x a =
    agree_either (suc d) is_unary_sign _ _ _ _ (agree_made (suc d) X.signed_of _ _ (agree_after d is_unary_sign p p' a))
    (agree_either (suc d) (is k.LeftParenthesis) _ _ R.plain R.plain
    (agree_made (suc d) X.inner_of _ _
    (agree_after d (is k.LeftParenthesis) _ _
    (agree_made d first _ _
    (agree_both d (R.expr_over p) (R.expr_over p') (one (is k.RightParenthesis)) (one (is k.RightParenthesis))
    (X.expr_over L) (X.expr_over L)
    (good_over p' L x).reads (agree_over d p p' L x a) (λ ts b. refl)))))
    (λ ts b. refl))

agree_unary : Agreeing R.unary
unfolding R.unary R.plain R.name id number
agree_unary d zero zero a b ts h = refl
agree_unary d zero (suc m) a b [] h = refl
agree_unary d zero (suc m) a b (t ∷ ts) h = absurd (omega arith)
agree_unary d (suc n) zero a b [] h = refl
agree_unary d (suc n) zero a b (t ∷ ts) h = absurd (omega arith)
agree_unary zero (suc n) (suc m) a b [] h = refl
agree_unary zero (suc n) (suc m) a b (t ∷ ts) h = absurd (omega arith)
agree_unary (suc d) (suc n) (suc m) a b ts h =
    agree_operand d (R.unary n) (R.unary m) (X.unary m) (good_unary m) (agree_unary d n m (omega arith)
    (omega arith)) ts h

pub agree_expr : Agreeing R.expr
unfolding R.expr
agree_expr d n m a b = agree_over d (R.unary n) (R.unary m) (X.unary m) (good_unary m) (agree_unary d n m a b)

-- ---- deeper expressions are more

grow_over : (d : ℕ) (L L' : Text ExprTree) → GrowsTo d L L' → GrowsTo d (X.expr_over L) (X.expr_over L')
grow_over d L L' x =
    let sum : GrowsTo d (X.sum L) (X.sum L') =
    grow_chain d is_sum_sign X.joins (X.prod L) (X.prod L') (grow_chain d is_product_sign X.joins L L' x) in
    grow_chain d (is k.OrOr) X.joins (X.conj L) (X.conj L')
    (grow_chain d (is k.AndAnd) X.joins (X.rel L) (X.rel L')
    (grow_made d X.compared _ _ (grow_both d (X.sum L) (X.sum L') _ _ sum
    (grow_optional d _ _ (grow_both d (G.one is_comparison) (G.one is_comparison) (X.sum L) (X.sum L') (grow_same d
    (G.one is_comparison)) sum)))))

grow_operand : (d : ℕ) (L L' : Text ExprTree) → GrowsTo d L L' → GrowsTo d (operands L) (operands L')
grow_operand d L L' x =
    grow_either d _ _ _ _ (grow_made d X.signed_of _ _ (grow_both d (G.one is_unary_sign) (G.one is_unary_sign) L L'
    (grow_same d (G.one is_unary_sign)) x))
    (grow_either d _ _ X.plain X.plain
    (grow_made d X.inner_of _ _
    (grow_both d (G.one (is k.LeftParenthesis)) (G.one (is k.LeftParenthesis)) _ _ (grow_same d (G.one
    (is k.LeftParenthesis)))
    (grow_made d first _ _ (grow_both d (X.expr_over L) (X.expr_over L') (G.one (is k.RightParenthesis)) (G.one
    (is k.RightParenthesis)) (grow_over d L L' x)
    (grow_same d (G.one (is k.RightParenthesis)))))))
    (grow_same d X.plain))

grow_unary : (d n : ℕ) → GrowsTo d (X.unary n) (X.unary (suc n))
unfolding X.unary
grow_unary d zero = λ a ts b l. inr (inr l)
grow_unary d (suc n) = grow_operand d (X.unary n) (X.unary (suc n)) (grow_unary d n)

grow_expr : (n : ℕ) → Grows (X.expr n) (X.expr (suc n))
grow_expr n = grow (X.expr n) (X.expr (suc n)) (λ d. grow_over d (X.unary n) (X.unary (suc n)) (grow_unary d n))

-- ---- expressions of any depth

-- expressions of any depth
abbrev pub AnyExpr : Text ExprTree
AnyExpr = some_depth X.expr

-- and their parser
abbrev pub any_expr : Parser ExprTree
any_expr = by_length R.expr

pub good_any_expr : Good any_expr AnyExpr AnyExpr begins_expr goes_on
good_any_expr = good_by_length R.expr X.expr X.expr begins_expr goes_on agree_expr grow_expr good_expr

-- a short expression is of the depth of its length
pub shallow_expr : (n : ℕ) → GrowsTo n AnyExpr (X.expr n)
shallow_expr = shallow R.expr X.expr X.expr begins_expr goes_on agree_expr grow_expr good_expr

good_capped_expr : (n : ℕ) → Good (capped n goes_on (R.expr n)) (at_most n AnyExpr) AnyExpr begins_expr goes_on
good_capped_expr n =
    good_same (capped n goes_on any_expr) (capped n goes_on (R.expr n)) (at_most n AnyExpr) AnyExpr begins_expr goes_on
    (capped_agree n goes_on (R.expr n) any_expr (λ ts h. agree_expr (length ts) n (length ts) h (omega arith) ts
    (omega arith)))
    (good_capped n any_expr AnyExpr AnyExpr begins_expr goes_on good_any_expr)

pub good_outermost : Good R.outermost (at_most EXPRESSION_TOKENS AnyExpr) AnyExpr begins_expr goes_on
unfolding R.outermost
good_outermost = good_capped_expr EXPRESSION_TOKENS
