-- An expression has no more nodes than tokens.
use Rattle.std.proofs.Common.{◌≡◌, ◌∙◌, inl, inr, ◌+◌, ◌≤◌, arith, ℕ, zero, suc, Bool, true, false, List, [], ◌∷◌, length, Option, None, Some, ap, sym}
use Rattle.std.proofs.lemmas.List.{length-append}
use Rattle.tdl_grammar.specs.Grammar as G
use Rattle.tdl_tree.specs.declared.words.Word.{Word}
use Rattle.tdl_tree.specs.declared.words.WordKind.TheVariants as k
use Rattle.tdl_tree.specs.declared.expressions.ExprTree.{ExprTree}
use Rattle.tdl_tree.specs.Kinds.{is}
use Rattle.tdl_tree.specs.Words.{Text}
use Rattle.tdl_tree.specs.Expressions as X
use Rattle.tdl_tree.specs.Expressions.{is_comparison, is_sum_sign, is_product_sign, is_unary_sign}
use Rattle.tdl_size.specs.Sizes.{nodes}
use Rattle.tdl_size.proofs.Equations.{nodes-node, nodes_in-number, nodes_in-truth, nodes_in-name, nodes_in-un, nodes_in-bin}

-- no expression of the language has more nodes than words
abbrev pub Short : Text ExprTree → Type 0
Short L = (e : ExprTree) (ts : List Word) → L e ts → nodes e ≤ length ts

-- two operands have their nodes and one more
joined-nodes : (a : ExprTree) (sign : Word) (b : ExprTree) → nodes (X.joins a sign b) ≡ nodes a + nodes b + 1
joined-nodes a sign b = nodes-node (X.joins a sign b) ∙ nodes_in-bin (X.bin_of sign.kind) a b

-- operands after a first one have no more than the words after it
operands-short : (op : Word → Bool) (L : Text ExprTree) → Short L →
    (a : ExprTree) (more : List (Word × ExprTree)) (ts : List Word) → G.many (G.both (G.one op) L) more ts →
    nodes (G.joined X.joins a more) ≤ nodes a + length ts
operands-short op L short a [] ts l = omega arith
operands-short op L short a (x ∷ more) ts l =
    let rest = operands-short op L short (X.joins a x.0 x.1) more l.1 l.3 in
    let both : nodes (X.joins a x.0 x.1) ≡ nodes a + nodes x.1 + 1 = joined-nodes a x.0 x.1 in
    let own : nodes x.1 ≤ length l.2.1 = short x.1 l.2.1 l.2.3 in
    let front : length l.0 ≡ length l.2.0 + length l.2.1 = ap length l.2.4 ∙ length-append l.2.0 l.2.1 in
    let sign : length l.2.0 ≡ 1 = ap length l.2.2.1 in
    let whole : length ts ≡ length l.0 + length l.1 = ap length l.4 ∙ length-append l.0 l.1 in
    omega (arith, rest, both, own, front, sign, whole)

-- operands with operators between them
chain-short : (op : Word → Bool) (L : Text ExprTree) → Short L → Short (G.chain op X.joins L)
chain-short op L short e ts l =
    let first : nodes l.0.0 ≤ length l.1.0 = short l.0.0 l.1.0 l.1.2 in
    let more : nodes (G.joined X.joins l.0.0 l.0.1) ≤ nodes l.0.0 + length l.1.1 =
    operands-short op L short l.0.0 l.0.1 l.1.1 l.1.3 in
    let whole : length ts ≡ length l.1.0 + length l.1.1 = ap length l.1.4 ∙ length-append l.1.0 l.1.1 in
    let same : nodes e ≡ nodes (G.joined X.joins l.0.0 l.0.1) = ap nodes l.2 in
    omega (arith, first, more, whole, same)

-- a comparison
rel-short : (L : Text ExprTree) → Short L → Short (X.rel L)
rel-short L short e ts l =
    compared l.0.0 l.0.1 l.1.0 l.1.1 l.1.2 l.1.3 (ap length l.1.4 ∙ length-append l.1.0 l.1.1) l.2
  where
    sums : Short (X.sum L)
    sums = chain-short is_sum_sign (X.prod L) (chain-short is_product_sign L short)

    compared : (left : ExprTree) (right : Option (Word × ExprTree)) (us vs : List Word) → X.sum L left us →
        G.optional (G.both (G.one is_comparison) (X.sum L)) right vs → length ts ≡ length us + length vs →
        e ≡ X.compared (left, right) → nodes e ≤ length ts
    compared left None us vs l r whole same =
        let own : nodes left ≤ length us = sums left us l in
        let is : nodes e ≡ nodes left = ap nodes same in
        omega (arith, own, is, whole)
    compared left (Some x) us vs l r whole same =
        let own : nodes left ≤ length us = sums left us l in
        let other : nodes x.1 ≤ length r.1 = sums x.1 r.1 r.3 in
        let sign : length r.0 ≡ 1 = ap length r.2.1 in
        let back : length vs ≡ length r.0 + length r.1 = ap length r.4 ∙ length-append r.0 r.1 in
        let is : nodes e ≡ nodes left + nodes x.1 + 1 = ap nodes same ∙ joined-nodes left x.0 x.1 in
        omega (arith, own, other, sign, back, is, whole)

-- an expression over its operands
over-short : (L : Text ExprTree) → Short L → Short (X.expr_over L)
over-short L short = chain-short (is k.OrOr) (X.conj L) (chain-short (is k.AndAnd) (X.rel L) (rel-short L short))

-- an operand without parentheses is one node, and a word at least
plain-short : Short X.plain
plain-short e ts (inl l) =
    let is : nodes e ≡ 1 = ap nodes l.2 ∙ nodes-node (X.number_of l.0) ∙ nodes_in-number l.0 in
    let word : length ts ≡ 1 = ap length l.1.1.1 in
    omega (arith, is, word)
plain-short e ts (inr (inl l)) =
    let is : nodes e ≡ 1 = ap nodes l.2 ∙ nodes-node (X.truth_of true l.0) ∙ nodes_in-truth true in
    let word : length ts ≡ 1 = ap length l.1.1 in
    omega (arith, is, word)
plain-short e ts (inr (inr (inl l))) =
    let is : nodes e ≡ 1 = ap nodes l.2 ∙ nodes-node (X.truth_of false l.0) ∙ nodes_in-truth false in
    let word : length ts ≡ 1 = ap length l.1.1 in
    omega (arith, is, word)
plain-short e ts (inr (inr (inr l))) =
    let is : nodes e ≡ 1 = ap nodes l.2 ∙ nodes-node (X.name_of l.0) ∙ nodes_in-name _ in
    let word : length l.1.0 ≡ 1 = ap length l.1.2.1.1 in
    let whole : length ts ≡ length l.1.0 + length l.1.1 = ap length l.1.4 ∙ length-append l.1.0 l.1.1 in
    omega (arith, is, word, whole)

-- an operand, with signs and parentheses so deep
unary-short : (n : ℕ) → Short (X.unary n)
unfolding X.unary
unary-short zero e ts l = plain-short e ts l
unary-short (suc n) e ts (inl l) =
    let own : nodes l.0.1 ≤ length l.1.1 = unary-short n l.0.1 l.1.1 l.1.3 in
    let sign : length l.1.0 ≡ 1 = ap length l.1.2.1 in
    let whole : length ts ≡ length l.1.0 + length l.1.1 = ap length l.1.4 ∙ length-append l.1.0 l.1.1 in
    let is : nodes e ≡ nodes l.0.1 + 1 =
    ap nodes l.2 ∙ nodes-node (X.signed_of l.0) ∙ nodes_in-un (X.un_of l.0.0.kind) l.0.1 in
    omega (arith, own, sign, whole, is)
unary-short (suc n) e ts (inr (inl l)) =
    let inner = l.1.3 in
    let own : nodes inner.0.0 ≤ length inner.1.0 =
    over-short (X.unary n) (unary-short n) inner.0.0 inner.1.0 inner.1.2 in
    let back : length l.1.1 ≡ length inner.1.0 + length inner.1.1 =
    ap length inner.1.4 ∙ length-append inner.1.0 inner.1.1 in
    let whole : length ts ≡ length l.1.0 + length l.1.1 = ap length l.1.4 ∙ length-append l.1.0 l.1.1 in
    let is : nodes e ≡ nodes inner.0.0 =
    ap nodes l.2 ∙ nodes-node (X.inner_of l.0) ∙ sym (nodes-node l.0.1) ∙ ap nodes inner.2 in
    omega (arith, own, back, whole, is)
unary-short (suc n) e ts (inr (inr l)) = plain-short e ts l

-- an expression
pub expression-short : (n : ℕ) → Short (X.expr n)
expression-short n = over-short (X.unary n) (unary-short n)
