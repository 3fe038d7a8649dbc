-- Expressions and statements with limits beside those without; u tells which words count.
use Rattle.std.proofs.Common.{◌≡◌, arith, Bool, true, List, length, refl}
use Rattle.tdl_base.specs.declared.limits.TheConstants.{EXPRESSION_TOKENS}
use Rattle.tdl_grammar.specs.Grammar as G
use Rattle.tdl_grammar.specs.Counting.{at_most_counted}
use Rattle.tdl_grammar.specs.Goodness.{Shrinks, Apart, never, any}
use Rattle.tdl_grammar.proofs.Capped.{capped_agree}
use Rattle.tdl_grammar.proofs.Depth.{shrinks}
use Rattle.tdl_grammar.proofs.LimitedWords.{Limit, limited_same, limited_both, limited_then, limited_after, limited_before, limited_made, limited_either, limited_widen, limited_for, nullable_limited, nullable_limited_many}
use Rattle.tdl_grammar.proofs.LimitedTexts.{limited_capped}
use Rattle.tdl_tree.specs.declared.words.Word.{Word}
use Rattle.tdl_tree.specs.declared.words.WordKind.{WordKind}
use Rattle.tdl_tree.specs.declared.words.WordKind.TheVariants as k
use Rattle.tdl_tree.specs.declared.expressions.ExprTree.{ExprTree}
use Rattle.tdl_tree.specs.declared.statements.StmtTree.{StmtTree}
use Rattle.tdl_tree.specs.Kinds.{is}
use Rattle.tdl_tree.specs.Words as W
use Rattle.tdl_tree.specs.Words.{Text, first}
use Rattle.tdl_tree.specs.Expressions.{is_comparison, is_sum_sign, is_product_sign}
use Rattle.tdl_tree.specs.Statements as S
use Rattle.tdl_parse.specs.Reading as basic
use Rattle.tdl_parse.specs.Reading.{Parser}
use Rattle.tdl_parse.specs.ReadingExpressions as reading
use Rattle.tdl_parse.specs.ReadingExpressions.{goes_on, outermost}
use Rattle.tdl_parse.specs.ReadingStatements as R
use Rattle.tdl_parse.specs.ReadingStatements.{begins_stmt}
use Rattle.tdl_parse.proofs.WordTests.{word_of, apart, within}
use Rattle.tdl_parse.proofs.GoodWords.{never_apart, good_word}
use Rattle.tdl_parse.proofs.GoodNames.{good_id, good_number}
use Rattle.tdl_parse.proofs.GoodExpressions.{begins_expr}
use Rattle.tdl_parse.proofs.GoodOutermost.{AnyExpr, any_expr, good_any_expr, agree_expr}

-- outermost expressions with their limit
pub limited_expr : (u : Word → Bool) → Limit u goes_on outermost any_expr
    (at_most_counted u EXPRESSION_TOKENS AnyExpr) AnyExpr begins_expr goes_on
unfolding outermost
limited_expr u =
    limited_for (capped_agree EXPRESSION_TOKENS goes_on (reading.expr EXPRESSION_TOKENS) any_expr
    (λ ts h. agree_expr (length ts) EXPRESSION_TOKENS (length ts) h (omega arith) ts (omega arith)))
    (limited_capped u EXPRESSION_TOKENS any_expr AnyExpr begins_expr goes_on good_any_expr)

-- a word, then p
pub limited_after_word : {A : Type 0} {u : Word → Bool} {p q : Parser A} {M U : Text A} {s g : Word →
    Bool} (kind : WordKind) → is kind (word_of kind) ≡ true →
    Limit u goes_on p q M U s g → Limit u goes_on (basic.after kind p) (basic.after kind q) (W.after kind M)
    (W.after kind U) (is kind) g
limited_after_word {A} {u} {p} {q} {M} {U} {s} {g} kind e x = limited_made G.second (limited_then (never_apart s)
    (good_word kind e) x)

-- p, then a word
pub limited_before_word : {A : Type 0} {u : Word → Bool} {p q : Parser A} {M U : Text A} {s g : Word →
    Bool} (kind : WordKind) → is kind (word_of kind) ≡ true → Apart g (is kind) → Apart goes_on (is kind) →
    Limit u goes_on p q M U s g → Limit u goes_on (basic.before kind p) (basic.before kind q) (W.before kind M)
    (W.before kind U) s never
limited_before_word {A} {u} {p} {q} {M} {U} {s} {g} kind e a b x = limited_made first (limited_both a b x
    (limited_same u goes_on (good_word kind e)))

-- any number of p, then a word
pub limited_all_before : {A : Type 0} {u : Word → Bool} {p q : Parser A} {M U : Text A} {s g : Word →
    Bool} (kind : WordKind) → is kind (word_of kind) ≡ true → Apart g s → Apart goes_on s →
    Apart (any s g) (is kind) → Apart goes_on (is kind) →
    Shrinks p → Limit u goes_on p q M U s g → Limit u goes_on (basic.all_before s kind p)
    (basic.all_before s kind q) (W.all_before kind M) (W.all_before kind U) (any s (is kind)) never
limited_all_before {A} {u} {p} {q} {M} {U} {s} {g} kind e a b c d shrink x =
    limited_made first (limited_before c d (nullable_limited_many a b shrink (shrinks q U U s g x.good) x)
    (limited_same u goes_on (good_word kind e)))

-- statements
pub limited_stmt : {u : Word → Bool} {e e' : Parser ExprTree} {E E' : Text ExprTree} →
    Limit u goes_on e e' E E' begins_expr goes_on →
    {b b' : Parser (List StmtTree)} {B B' : Text (List StmtTree)} → Limit u goes_on b b' B B' (is k.LeftBrace) never →
    Limit u goes_on (R.stmt e b) (R.stmt e' b') (S.stmt E B) (S.stmt E' B') begins_stmt (is k.Else)
unfolding R.stmt R.assign R.if_stmt R.repeat_stmt begins_stmt goes_on is_comparison is_sum_sign is_product_sign
limited_stmt {u} {e} {e'} {E} {E'} x {b} {b'} {B} {B'} y =
    limited_widen (within _ _ (λ v. refl) (λ v. refl) refl) (within _ _ (λ v. refl) (λ v. refl) refl)
    (limited_either (apart _ _ (λ v. refl) (λ v. refl) refl)
    (limited_made S.assign_of (limited_then (never_apart (is k.Becomes)) good_id (limited_after_word k.Becomes refl
    (limited_before_word k.Semicolon refl (apart _ _ (λ v. refl) (λ v. refl) refl) (apart _ _ (λ v. refl)
    (λ v. refl) refl) x))))
    (limited_either (apart _ _ (λ v. refl) (λ v. refl) refl)
    (limited_made S.if_of (limited_after_word k.If refl (limited_both (apart _ _ (λ v. refl) (λ v. refl) refl)
    (apart _ _ (λ v. refl) (λ v. refl) refl) x (limited_after (never_apart (is k.Else)) (apart _ _ (λ v. refl)
    (λ v. refl) refl) y (nullable_limited (limited_after_word k.Else refl y))))))
    (limited_made S.repeat_of (limited_after_word k.Repeat refl (limited_then (never_apart
    (is k.LeftBrace)) good_number y)))))
