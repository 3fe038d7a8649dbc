-- Words that are cut off, and put back.
use Rattle.std.proofs.Common.{◌≡◌, ◌∙◌, ℕ, ◌-◌, ◌<◌, min, List, [], ◌∷◌, ◌++◌, length, take, drop, Ok, Err, refl, sym, ap, subst, append_assoc, arith, length-append}
use Rattle.std.proofs.lemmas.List.{take_min, take-append-drop, append-nil}
use Rattle.std.proofs.Math.Seq.{drop-append_seam}
use Rattle.tdl_base.specs.declared.limits.TheConstants.{EXPRESSION_TOKENS}
use Rattle.tdl_grammar.specs.Parsing.{ended}
use Rattle.tdl_tree.specs.declared.words.Word.{Word}
use Rattle.tdl_tree.specs.declared.expressions.ExprTree.{ExprTree}
use Rattle.tdl_parse.specs.ReadingExpressions.{expr, expr_over, unary, outermost, goes_on}
use Rattle.tdl_parse.proofs.GoodExpressions.{good_expr}

-- the first n items, where there may be fewer
pub take_least : {X : Type 0} (n : ℕ) (xs : List X) → take (min n (length xs)) xs ≡ take n xs
take_least n xs = take_min n xs

-- the rest of the first items, with the others after it
put_back : {X : Type 0} (n : ℕ) (xs front rest : List X) → take n xs ≡ front ++ rest →
    drop (length (take n xs) - length rest) xs ≡ rest ++ drop n xs
put_back n xs front rest e =
    let count : length (take n xs) - length rest ≡ length front =
    omega (arith, ap length e, length-append front rest) in
    let whole : xs ≡ front ++ (rest ++ drop n xs) =
    sym (take-append-drop n xs) ∙ ap (λ (z : List _). z ++ drop n xs) e ∙ append_assoc front rest (drop n xs) in
    ap (λ (z : ℕ). drop z xs) count ∙ ap (λ (z : List _). drop (length front) z) whole
    ∙ drop-append_seam front (rest ++ drop n xs)

-- the words of the cut are all read
pub cut_ended : (words front rest after : List Word) (tree : ExprTree) → front ≡ take EXPRESSION_TOKENS words →
    expr_over (unary EXPRESSION_TOKENS) front ≡ Ok (tree, rest) → length rest ≡ 0 →
    after ≡ drop (length front - length rest) words → outermost words ≡ ended goes_on tree after
unfolding outermost expr
cut_ended words front (word ∷ rest) after tree is_front e none is_after = absurd (omega (arith, none))
cut_ended words front [] after tree is_front e none is_after =
    let read = subst (λ (z : List Word). expr_over (unary EXPRESSION_TOKENS) z ≡ Ok (tree, [])) is_front e in
    let left : drop (length front - 0) words ≡ drop EXPRESSION_TOKENS words =
    ap (λ (z : List Word). drop (length z - 0) words) is_front
    ∙ put_back EXPRESSION_TOKENS words (take EXPRESSION_TOKENS words) [] (sym (append-nil (take EXPRESSION_TOKENS words))) in
    rw (read, is_after, left) refl

-- some words of the cut are left
pub cut_left : (words front rest after : List Word) (tree : ExprTree) → front ≡ take EXPRESSION_TOKENS words →
    expr_over (unary EXPRESSION_TOKENS) front ≡ Ok (tree, rest) → 0 < length rest →
    after ≡ drop (length front - length rest) words → outermost words ≡ Ok (tree, after)
unfolding outermost expr
cut_left words front [] after tree is_front e some is_after = absurd (omega (arith, some))
cut_left words front (word ∷ rest) after tree is_front e some is_after =
    let read = subst (λ (z : List Word). expr_over (unary EXPRESSION_TOKENS) z ≡ Ok (tree, word ∷ rest)) is_front e in
    let took = (good_expr EXPRESSION_TOKENS).reads.took (take EXPRESSION_TOKENS words) (word ∷ rest) tree read in
    let left : drop (length front - length (word ∷ rest)) words ≡ (word ∷ rest) ++ drop EXPRESSION_TOKENS words =
    ap (λ (z : List Word). drop (length z - length (word ∷ rest)) words) is_front
    ∙ put_back EXPRESSION_TOKENS words took.front (word ∷ rest) took.parts in
    rw (read, is_after, left) refl

-- a word of the cut is out of place
pub cut_fault : (words front rest after : List Word) → front ≡ take EXPRESSION_TOKENS words →
    expr_over (unary EXPRESSION_TOKENS) front ≡ Err rest → after ≡ drop (length front - length rest) words →
    outermost words ≡ Err after
unfolding outermost expr
cut_fault words front rest after is_front e is_after =
    let read = subst (λ (z : List Word). expr_over (unary EXPRESSION_TOKENS) z ≡ Err rest) is_front e in
    let failed = (good_expr EXPRESSION_TOKENS).reads.failed (take EXPRESSION_TOKENS words) rest read in
    let left : drop (length front - length rest) words ≡ rest ++ drop EXPRESSION_TOKENS words =
    ap (λ (z : List Word). drop (length z - length rest) words) is_front
    ∙ put_back EXPRESSION_TOKENS words failed.front rest failed.parts in
    rw (read, is_after, left) refl
