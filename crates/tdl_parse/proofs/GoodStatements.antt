-- Statements and blocks are read well.
use Rattle.std.proofs.Common.{ℕ, zero, suc, List, [], ◌∷◌, refl}
use Rattle.tdl_grammar.specs.Grammar as G
use Rattle.tdl_grammar.specs.Parsing.{both, maybe, follow}
use Rattle.tdl_grammar.specs.Goodness.{Good, never, any}
use Rattle.tdl_grammar.proofs.Goods.{good_both, good_after, good_made, good_either, good_refuse, good_widen, nullable_maybe}
use Rattle.tdl_tree.specs.declared.words.WordKind.TheVariants as k
use Rattle.tdl_tree.specs.declared.expressions.ExprTree.{ExprTree}
use Rattle.tdl_tree.specs.declared.statements.StmtTree.{StmtTree}
use Rattle.tdl_tree.specs.Kinds.{is}
use Rattle.tdl_tree.specs.Words as W
use Rattle.tdl_tree.specs.Words.{Text}
use Rattle.tdl_tree.specs.Names as N
use Rattle.tdl_tree.specs.Expressions.{is_comparison, is_sum_sign, is_product_sign}
use Rattle.tdl_tree.specs.Statements as S
use Rattle.tdl_parse.specs.Reading.{Parser, after, before, all_before, id, number}
use Rattle.tdl_parse.specs.ReadingExpressions.{goes_on}
use Rattle.tdl_parse.specs.ReadingStatements as R
use Rattle.tdl_parse.specs.ReadingStatements.{begins_stmt}
use Rattle.tdl_parse.proofs.WordTests.{word_of, apart, within}
use Rattle.tdl_parse.proofs.GoodWords as words
use Rattle.tdl_parse.proofs.GoodWords.{never_apart}
use Rattle.tdl_parse.proofs.GoodNames.{good_id, good_number}
use Rattle.tdl_parse.proofs.GoodExpressions.{begins_expr}

good_assign : (e : Parser ExprTree) (E E' : Text ExprTree) → Good e E E' begins_expr goes_on →
    Good (R.assign e) (G.made S.assign_of (G.both N.id (W.after k.Becomes (W.before k.Semicolon E))))
    (G.made S.assign_of (G.both N.id (W.after k.Becomes (W.before k.Semicolon E')))) (is k.Name) never
unfolding R.assign goes_on is_comparison is_sum_sign is_product_sign
good_assign e E E' x =
    good_made S.assign_of (both id (after k.Becomes (before k.Semicolon e))) _ _ (is k.Name) never
    (good_both id (after k.Becomes (before k.Semicolon e)) N.id N.id _ _ (is k.Name) never (is k.Becomes) never
    (never_apart (is k.Becomes)) good_id
    (words.good_after k.Becomes refl (before k.Semicolon e) _ _ begins_expr never
    (words.good_before_word k.Semicolon refl e E E' begins_expr goes_on (apart _ _ (λ w. refl) (λ w. refl) refl) x)))

abbrev if_text : Text ExprTree → Text (List StmtTree) → Text StmtTree
if_text E B = G.made S.if_of (W.after k.If (G.both E (G.both B (G.optional (W.after k.Else B)))))

good_if : (e : Parser ExprTree) (E E' : Text ExprTree) → Good e E E' begins_expr goes_on →
    (b : Parser (List StmtTree)) (B B' : Text (List StmtTree)) → Good b B B' (is k.LeftBrace) never →
    Good (R.if_stmt e b) (if_text E B) (if_text E' B') (is k.If) (any never (any (is k.Else) never))
unfolding R.if_stmt goes_on is_comparison is_sum_sign is_product_sign
good_if e E E' x b B B' y =
    good_made S.if_of (after k.If (both e (follow (is k.Else) b (after k.Else b)))) _ _ (is k.If) _
    (words.good_after k.If refl (both e (follow (is k.Else) b (after k.Else b))) _ _ begins_expr _
    (good_both e (follow (is k.Else) b (after k.Else b)) E E' _ _ begins_expr goes_on (is k.LeftBrace) _ (apart _ _
    (λ w. refl) (λ w. refl) refl) x
    (good_after b (maybe (is k.Else) (after k.Else b)) B B' _ _ (is k.LeftBrace) never (is k.Else) _ (never_apart
    (is k.Else)) y
    (nullable_maybe (after k.Else b) _ _ (is k.Else) never (words.good_after k.Else refl b B B'
    (is k.LeftBrace) never y)))))

good_repeat : (b : Parser (List StmtTree)) (B B' : Text (List StmtTree)) → Good b B B' (is k.LeftBrace) never →
    Good (R.repeat_stmt b) (G.made S.repeat_of (W.after k.Repeat (G.both N.number B))) (G.made S.repeat_of
    (W.after k.Repeat (G.both N.number B'))) (is k.Repeat) never
unfolding R.repeat_stmt
good_repeat b B B' y =
    good_made S.repeat_of (after k.Repeat (both number b)) _ _ (is k.Repeat) never
    (words.good_after k.Repeat refl (both number b) _ _ (is k.Number) never
    (good_both number b N.number N.number B B' (is k.Number) never (is k.LeftBrace) never (never_apart
    (is k.LeftBrace)) good_number y))

-- statements, over expressions and blocks
pub good_stmt : (e : Parser ExprTree) (E E' : Text ExprTree) → Good e E E' begins_expr goes_on →
    (b : Parser (List StmtTree)) (B B' : Text (List StmtTree)) → Good b B B' (is k.LeftBrace) never →
    Good (R.stmt e b) (S.stmt E B) (S.stmt E' B') begins_stmt (is k.Else)
unfolding R.stmt begins_stmt
good_stmt e E E' x b B B' y =
    good_widen _ _ _ (any (is k.Name) (any (is k.If) (is k.Repeat))) (any never (any (any never (any
    (is k.Else) never)) never)) begins_stmt (is k.Else) (within _ _ (λ w. refl) (λ w. refl) refl) (within _ _
    (λ w. refl) (λ w. refl) refl)
    (good_either (R.assign e) _ _ _ _ _ (is k.Name) never _ _ (apart _ _ (λ w. refl) (λ w. refl) refl)
    (good_assign e E E' x)
    (good_either (R.if_stmt e b) (R.repeat_stmt b) _ _ _ _ (is k.If) (any never (any (is k.Else) never))
    (is k.Repeat) never (apart _ _ (λ w. refl) (λ w. refl) refl)
    (good_if e E E' x b B B' y) (good_repeat b B B' y)))

-- blocks with at most d inside one another; where one fails, the words before begin a block that may be deeper
pub good_block : (e : Parser ExprTree) (E E' : Text ExprTree) → Good e E E' begins_expr goes_on → (d : ℕ) →
    Good (R.block d e) (S.block d E) (S.block (suc d) E') (is k.LeftBrace) never
unfolding R.block S.block begins_stmt
good_block e E E' x zero =
    good_widen _ _ _ never never (is k.LeftBrace) never (within _ _ (λ w. refl) (λ w. refl) refl) (λ w h. h)
    (good_refuse (S.block 1 E') [] (word_of k.LeftBrace ∷ word_of k.RightBrace ∷ []) (
      (word_of k.LeftBrace, []),
      (
        word_of k.LeftBrace ∷ [],
        word_of k.RightBrace ∷ [],
        (refl, refl),
        (
          (
            [],
            word_of k.RightBrace,
          ),
          ([], word_of k.RightBrace ∷ [], refl, (refl, refl), refl),
          refl,
        ),
        refl,
      ),
      refl,
    ))
good_block e E E' x (suc d) =
    words.good_after k.LeftBrace refl (all_before begins_stmt k.RightBrace (R.stmt e (R.block d e))) _ _
    (any begins_stmt (is k.RightBrace)) never
    (words.good_all_before k.RightBrace refl (R.stmt e (R.block d e)) (S.stmt E (S.block d E)) (S.stmt E' (S.block
    (suc d) E')) begins_stmt (is k.Else) (apart _ _ (λ w. refl) (λ w. refl) refl) (apart _ _ (λ w. refl)
    (λ w. refl) refl)
    (good_stmt e E E' x (R.block d e) (S.block d E) (S.block (suc d) E') (good_block e E E' x d)))
