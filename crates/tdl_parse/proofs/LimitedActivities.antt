-- Modes and their activities with limits beside those without.
use Rattle.std.proofs.Common.{Bool, [], refl}
use Rattle.tdl_grammar.specs.Grammar as G
use Rattle.tdl_grammar.specs.Grammar.{second, listed}
use Rattle.tdl_grammar.specs.Parsing.{one, both, made, separated}
use Rattle.tdl_grammar.specs.Goodness.{Good, never, any}
use Rattle.tdl_grammar.proofs.Goods.{good_both, good_made}
use Rattle.tdl_grammar.proofs.Depth.{shrinks}
use Rattle.tdl_grammar.proofs.LimitedWords.{Limit, limited_same, limited_then, limited_after, limited_made, limited_either, limited_widen, nullable_limited, nullable_limited_many}
use Rattle.tdl_tree.specs.declared.words.Word.{Word}
use Rattle.tdl_tree.specs.declared.words.WordKind.TheVariants as k
use Rattle.tdl_tree.specs.declared.expressions.ExprTree.{ExprTree}
use Rattle.tdl_tree.specs.Kinds.{is}
use Rattle.tdl_tree.specs.Words.{Text}
use Rattle.tdl_tree.specs.Expressions.{is_comparison, is_sum_sign, is_product_sign}
use Rattle.tdl_tree.specs.Activities as A
use Rattle.tdl_parse.specs.Reading.{Parser}
use Rattle.tdl_parse.specs.ReadingExpressions.{goes_on}
use Rattle.tdl_parse.specs.ReadingActivities as R
use Rattle.tdl_parse.specs.ReadingActivities.{begins_act}
use Rattle.tdl_parse.proofs.WordTests.{apart, within}
use Rattle.tdl_parse.proofs.GoodWords.{never_apart, good_word, good_says}
use Rattle.tdl_parse.proofs.GoodNames.{good_id}
use Rattle.tdl_parse.proofs.GoodExpressions.{begins_expr}
use Rattle.tdl_parse.proofs.GoodActivities.{invocation_text, update_text, acts_text, begins_arguments, good_freq, good_switch, good_act, good_period}
use Rattle.tdl_parse.proofs.LimitedStatements.{limited_after_word, limited_before_word, limited_all_before}

-- an item after a comma
good_next : (e : Parser ExprTree) (L L' : Text ExprTree) → Good e L L' begins_expr goes_on →
    Good (made second (both (one (is k.Comma)) e)) (G.made second (G.both (G.one (is k.Comma)) L)) (G.made second
    (G.both (G.one (is k.Comma)) L')) (is k.Comma) goes_on
good_next e L L' g =
    good_made second (both (one (is k.Comma)) e) _ _ (is k.Comma) goes_on
    (good_both (one (is k.Comma)) e (G.one (is k.Comma)) (G.one (is k.Comma)) L L'
    (is k.Comma) never begins_expr goes_on (never_apart begins_expr) (good_word k.Comma refl) g)

-- expressions with commas between them
limited_separated : {u : Word → Bool} (e e' : Parser ExprTree) (L L' E U : Text ExprTree) →
    Good e L L' begins_expr goes_on → Limit u goes_on e e' E U begins_expr goes_on →
    Limit u goes_on (separated (is k.Comma) e) (separated (is k.Comma) e') (G.separated (is k.Comma) E) (G.separated
    (is k.Comma) U) begins_expr (any goes_on (any (is k.Comma) goes_on))
unfolding goes_on is_comparison is_sum_sign is_product_sign
limited_separated e e' L L' E U g x =
    limited_made listed (limited_after (apart _ _ (λ w. refl) (λ w. refl) refl) (apart _ _ (λ w. refl)
    (λ w. refl) refl) x
    (nullable_limited_many (apart _ _ (λ w. refl) (λ w. refl) refl) (apart _ _ (λ w. refl) (λ w. refl) refl)
    (shrinks _ _ _ (is k.Comma) goes_on (good_next e L L' g)) (shrinks _ _ _ (is k.Comma) goes_on
    (good_next e' U U x.good))
    (limited_made second (limited_then (never_apart begins_expr) (good_word k.Comma refl) x))))

limited_arguments : {u : Word → Bool} (e e' : Parser ExprTree) (L L' E U : Text ExprTree) →
    Good e L L' begins_expr goes_on → Limit u goes_on e e' E U begins_expr goes_on →
    Limit u goes_on (R.arguments e) (R.arguments e') (A.arguments E) (A.arguments U) begins_arguments
    (any never never)
unfolding R.arguments goes_on is_comparison is_sum_sign is_product_sign
limited_arguments {u} e e' L L' E U g x =
    limited_either (apart _ _ (λ w. refl) (λ w. refl) refl) (limited_same u goes_on
    (good_says k.RightParenthesis refl []))
    (limited_before_word k.RightParenthesis refl (apart _ _ (λ w. refl) (λ w. refl) refl) (apart _ _ (λ w. refl)
    (λ w. refl) refl) (limited_separated e e' L L' E U g x))

limited_invocation : {u : Word → Bool} (e e' : Parser ExprTree) (L L' E U : Text ExprTree) →
    Good e L L' begins_expr goes_on → Limit u goes_on e e' E U begins_expr goes_on →
    Limit u goes_on (R.invocation e) (R.invocation e') (invocation_text E) (invocation_text U) (is k.Name)
    (any never never)
unfolding R.invocation
limited_invocation e e' L L' E U g x =
    limited_made A.task_of (limited_then (never_apart (is k.LeftParenthesis)) good_id
    (limited_after_word k.LeftParenthesis refl (limited_arguments e e' L L' E U g x)))

limited_update : {u : Word → Bool} (e e' : Parser ExprTree) (E U : Text ExprTree) →
    Limit u goes_on e e' E U begins_expr goes_on →
    Limit u goes_on (R.update e) (R.update e') (update_text E) (update_text U) (is k.Name) goes_on
unfolding R.update
limited_update e e' E U x = limited_made A.update_of (limited_then (never_apart (is k.Becomes)) good_id
    (limited_after_word k.Becomes refl x))

limited_deed : {u : Word → Bool} (e e' : Parser ExprTree) (L L' E U : Text ExprTree) →
    Good e L L' begins_expr goes_on → Limit u goes_on e e' E U begins_expr goes_on →
    Limit u goes_on (R.deed e) (R.deed e') (A.deed E) (A.deed U) begins_act goes_on
unfolding R.deed begins_act goes_on is_comparison is_sum_sign is_product_sign
limited_deed {u} e e' L L' E U g x =
    limited_widen (within _ _ (λ w. refl) (λ w. refl) refl) (within _ _ (λ w. refl) (λ w. refl) refl)
    (limited_either (apart _ _ (λ w. refl) (λ w. refl) refl)
    (limited_then (never_apart (is k.LeftBracket)) (good_word k.Task refl) (limited_then (never_apart
    (is k.Name)) good_freq (limited_invocation e e' L L' E U g x)))
    (limited_either (apart _ _ (λ w. refl) (λ w. refl) refl)
    (limited_then (never_apart (is k.LeftBracket)) (good_word k.Update refl) (limited_then (never_apart
    (is k.Name)) good_freq (limited_update e e' E U x)))
    (limited_then (never_apart (is k.LeftBracket)) (good_word k.Switch refl) (limited_then (never_apart
    (is k.To)) good_freq (limited_same u goes_on good_switch)))))

limited_act : {u : Word → Bool} (e e' : Parser ExprTree) (L L' E U : Text ExprTree) →
    Good e L L' begins_expr goes_on → Limit u goes_on e e' E U begins_expr goes_on →
    Limit u goes_on (R.act e) (R.act e') (A.act E) (A.act U) begins_act never
unfolding R.act goes_on is_comparison is_sum_sign is_product_sign
limited_act e e' L L' E U g x =
    limited_made A.act_of (limited_before_word k.Semicolon refl (apart _ _ (λ w. refl) (λ w. refl) refl) (apart _ _
    (λ w. refl) (λ w. refl) refl)
    (limited_after (apart _ _ (λ w. refl) (λ w. refl) refl) (apart _ _ (λ w. refl) (λ w. refl) refl)
    (limited_deed e e' L L' E U g x)
    (nullable_limited (limited_after_word k.If refl x))))

limited_acts : {u : Word → Bool} (e e' : Parser ExprTree) (L L' E U : Text ExprTree) →
    Good e L L' begins_expr goes_on → Limit u goes_on e e' E U begins_expr goes_on →
    Limit u goes_on (R.acts_of_mode e) (R.acts_of_mode e') (acts_text E) (acts_text U) (is k.LeftBrace) never
unfolding R.acts_of_mode begins_act goes_on is_comparison is_sum_sign is_product_sign
limited_acts e e' L L' E U g x =
    limited_after_word k.LeftBrace refl (limited_all_before k.RightBrace refl (never_apart begins_act) (apart _ _
    (λ w. refl) (λ w. refl) refl) (apart _ _ (λ w. refl) (λ w. refl) refl) (apart _ _ (λ w. refl)
    (λ w. refl) refl)
    (shrinks (R.act e) _ _ begins_act never (good_act e L L' g)) (limited_act e e' L L' E U g x))

-- modes
pub limited_mode : {u : Word → Bool} (start : Bool) (e e' : Parser ExprTree) (L L' E U : Text ExprTree) →
    Good e L L' begins_expr goes_on → Limit u goes_on e e' E U begins_expr goes_on →
    Limit u goes_on (R.mode start e) (R.mode start e') (A.mode start E) (A.mode start U) (is k.Mode) never
unfolding R.mode
limited_mode start e e' L L' E U g x =
    limited_made (A.mode_of start) (limited_after_word k.Mode refl (limited_then (never_apart
    (is k.LeftBracket)) good_id
    (limited_then (never_apart (is k.LeftBrace)) good_period (limited_acts e e' L L' E U g x))))
