-- Blocks with limits beside those without.
use Rattle.std.proofs.Common.{◌≡◌, ◌∙◌, inl, inr, ◌≤◌, arith, ℕ, zero, suc, List, [], ◌∷◌, length, Ok, refl, sym, subst}
use Rattle.std.proofs.lemmas.List.{append-nil}
use Rattle.tdl_grammar.specs.Grammar as G
use Rattle.tdl_grammar.specs.Grammar.{some_depth}
use Rattle.tdl_grammar.specs.Counting.{counted}
use Rattle.tdl_grammar.specs.Parsing.{one, many, refuse}
use Rattle.tdl_grammar.specs.Goodness.{Good, Grows, Agree, never, any}
use Rattle.tdl_grammar.proofs.Outcomes.{bool_is}
use Rattle.tdl_grammar.proofs.Growing.{grow}
use Rattle.tdl_grammar.proofs.Many.{nullable_many}
use Rattle.tdl_grammar.proofs.Depth.{shrinks}
use Rattle.tdl_grammar.proofs.Agreeing.{agree_made, agree_both, agree_after, agree_many}
use Rattle.tdl_grammar.proofs.Limiting.{AllCount, SameAt, counted-most, for_at}
use Rattle.tdl_grammar.proofs.LimitedWords.{Limit}
use Rattle.tdl_tree.specs.declared.words.Word.{Word}
use Rattle.tdl_tree.specs.declared.words.WordKind.TheVariants as k
use Rattle.tdl_tree.specs.declared.expressions.ExprTree.{ExprTree}
use Rattle.tdl_tree.specs.declared.statements.StmtTree.{StmtTree}
use Rattle.tdl_tree.specs.Kinds.{is}
use Rattle.tdl_tree.specs.Words as W
use Rattle.tdl_tree.specs.Words.{Text, first}
use Rattle.tdl_tree.specs.Expressions.{is_comparison, is_sum_sign, is_product_sign}
use Rattle.tdl_tree.specs.Statements as S
use Rattle.tdl_tree.specs.Faults.{is_written, block_written}
use Rattle.tdl_parse.specs.Reading as basic
use Rattle.tdl_parse.specs.Reading.{Parser}
use Rattle.tdl_parse.specs.ReadingExpressions.{goes_on}
use Rattle.tdl_parse.specs.ReadingStatements as R
use Rattle.tdl_parse.specs.ReadingStatements.{begins_stmt}
use Rattle.tdl_parse.proofs.WordTests.{apart}
use Rattle.tdl_parse.proofs.GoodWords as words
use Rattle.tdl_parse.proofs.GoodExpressions.{begins_expr}
use Rattle.tdl_parse.proofs.GoodOutermost.{AnyExpr, any_expr, good_any_expr}
use Rattle.tdl_parse.proofs.GoodStatements.{good_stmt, good_block}
use Rattle.tdl_parse.proofs.GrowSources.{grow_block}
use Rattle.tdl_parse.proofs.Unlimited.{AnyBlock, any_block, good_any_block, agree_stmt, agree_block}
use Rattle.tdl_parse.proofs.LimitedStatements.{limited_after_word, limited_all_before, limited_stmt}

-- a block over blocks
abbrev next_block : Parser ExprTree → Parser (List StmtTree) → Parser (List StmtTree)
next_block e b = basic.after k.LeftBrace (basic.all_before begins_stmt k.RightBrace (R.stmt e b))

-- blocks with as much depth as there are words after the first
short_block : (d : ℕ) → Agree (suc d) (next_block any_expr (R.block d any_expr)) (next_block any_expr any_block)
unfolding begins_stmt
short_block d =
    let y = good_stmt any_expr AnyExpr AnyExpr good_any_expr any_block AnyBlock AnyBlock good_any_block in
    agree_made (suc d) G.second _ _ (agree_after d (is k.LeftBrace) _ _
    (agree_made d first _ _
    (agree_both d (many begins_stmt (R.stmt any_expr (R.block d any_expr))) (many begins_stmt
    (R.stmt any_expr any_block)) (one (is k.RightBrace)) (one (is k.RightBrace)) _ _
    (nullable_many (R.stmt any_expr any_block) _ _ begins_stmt (is k.Else) (apart _ _ (λ w. refl)
    (λ w. refl) refl) y).reads
    (agree_many d begins_stmt (R.stmt any_expr (R.block d any_expr)) (R.stmt any_expr any_block)
    (shrinks _ _ _ begins_stmt (is k.Else) y)
    (agree_stmt d any_expr AnyExpr good_any_expr (R.block d any_expr) any_block AnyBlock AnyBlock good_any_block
    (λ us h. agree_block any_expr AnyExpr good_any_expr (length us) d (length us) h (omega arith) us (omega arith))))
    (λ us g. refl))))

-- a block of any depth is one over blocks of any depth
block_is : (ts : List Word) → any_block ts ≡ next_block any_expr any_block ts
unfolding R.block
block_is [] = refl
block_is (t ∷ ts) = short_block (length ts) (t ∷ ts) (omega arith)

-- no written word begins a text without written words
first_written : (t : Word) (more ts : List Word) → AllCount is_written (t ∷ ts) → counted is_written (t ∷ more) ≤ 0 →
    ⊥
first_written t more ts all most =
    elim (bool_is (is_written t)) [
      | inl e ↦ let n : counted is_written (t ∷ more) ≡ suc (counted is_written more) = rw e refl in omega
          (arith, n, most)
      | inr e ↦ let n : counted is_written (t ∷ ts) ≡ counted is_written ts = rw e refl in omega
          (arith, n, all, counted-most is_written ts)
    ]

-- where no block may begin, it is blocked at its first word
refused : (E : Text ExprTree) (ts : List Word) → SameAt is_written goes_on refuse any_block (block_written 0 E) ts
unfolding block_written R.block
refused E [] all = inl refl
refused E (t ∷ ts) all =
    elim (bool_is (is k.LeftBrace t)) [
      | inl e ↦ inr (record {
        front = [];
        token = t;
        after = ts;
        parts = refl;
        fails = refl;
        past = λ more rest a h. let d = shrinks any_block AnyBlock AnyBlock (is k.LeftBrace) never good_any_block
            (t ∷ more) rest a h in inl (omega (arith, d));
        never_on = λ more a none l. first_written t more ts all l.1;
      })
      | inr e ↦ inl (rw e refl)
    ]

-- blocks that may have words are blocks
block_inside : (E : Text ExprTree) → Grows E AnyExpr → Grows (block_written 0 E) AnyBlock
unfolding block_written
block_inside E x a ts l = (
  l.0.0,
  grow (S.block l.0.0 E) (S.block l.0.0 AnyExpr) (λ d. grow_block d E AnyExpr
      (λ b us h m. x b us m) l.0.0) a ts l.0.1,
)

-- a block over blocks of any depth
abbrev next_text : Text (List StmtTree)
next_text = W.after k.LeftBrace (W.all_before k.RightBrace (S.stmt AnyExpr AnyBlock))

-- is read well
next_good : Good (next_block any_expr any_block) next_text next_text (is k.LeftBrace) never
unfolding begins_stmt
next_good =
    words.good_after k.LeftBrace refl (basic.all_before begins_stmt k.RightBrace (R.stmt any_expr any_block)) _ _
    (any begins_stmt (is k.RightBrace)) never
    (words.good_all_before k.RightBrace refl (R.stmt any_expr any_block) (S.stmt AnyExpr AnyBlock)
    (S.stmt AnyExpr AnyBlock) begins_stmt (is k.Else)
    (apart _ _ (λ w. refl) (λ w. refl) refl) (apart _ _ (λ w. refl) (λ w. refl) refl)
    (good_stmt any_expr AnyExpr AnyExpr good_any_expr any_block AnyBlock AnyBlock good_any_block))

-- is a block
any_of_next : Grows next_text AnyBlock
any_of_next a ts l =
    let found : next_block any_expr any_block ts ≡ Ok (a, []) = subst (λ
    (z : List Word). next_block any_expr any_block z ≡ Ok (a, [])) (append-nil ts)
    (next_good.complete a ts [] l refl) in
    let took = good_any_block.reads.took ts [] a (block_is ts ∙ found) in
    subst (λ (z : List Word). AnyBlock a z) (sym (append-nil took.front) ∙ sym took.parts) took.spelled

-- blocks beside blocks of any depth, at each depth
pub limited_block : (e : Parser ExprTree) (L L' E : Text ExprTree) → Good e L L' begins_expr goes_on →
    Limit is_written goes_on e any_expr E AnyExpr begins_expr goes_on → (n : ℕ) →
    Limit is_written goes_on (R.block n e) any_block (block_written n E) AnyBlock (is k.LeftBrace) never
unfolding R.block block_written begins_stmt goes_on is_comparison is_sum_sign is_product_sign
limited_block e L L' E g x zero = record { good = good_any_block; inside = block_inside E x.inside; same = refused E }
limited_block e L L' E g x (suc n) =
    let y = limited_after_word k.LeftBrace refl
    (limited_all_before k.RightBrace refl (apart _ _ (λ w. refl) (λ w. refl) refl) (apart _ _ (λ w. refl)
    (λ w. refl) refl) (apart _ _ (λ w. refl) (λ w. refl) refl) (apart _ _ (λ w. refl) (λ w. refl) refl)
    (shrinks (R.stmt e (R.block n e)) _ _ begins_stmt (is k.Else) (good_stmt e L L' g (R.block n e) (S.block n L)
    (S.block (suc n) L') (good_block e L L' g n)))
    (limited_stmt x (limited_block e L L' E g x n))) in
    record {
      good = good_any_block;
      inside = λ a ts l. any_of_next a ts (y.inside a ts l);
      same = λ ts. for_at is_written goes_on (next_block e (R.block n e)) (next_block any_expr any_block) (R.block
          (suc n) e) any_block _ _ (λ us. refl) block_is (λ a us l. l) ts (y.same ts);
    }
