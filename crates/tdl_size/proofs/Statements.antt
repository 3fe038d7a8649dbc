-- Statements and blocks are within the limits of the grammar.
use Rattle.std.proofs.Common.{◌≡◌, inl, inr, ◌≤◌, arith, ℕ, zero, suc, List, [], ◌∷◌, ◌++◌, map, All, Option, None, Some, sym, subst}
use Rattle.std.specs.Prelude.{IfSome}
use Rattle.std.proofs.lemmas.List.Elements.{All-nil, All-cons, All-same, All-append}
use Rattle.tdl_base.specs.declared.limits.TheConstants.{EXPRESSION_TOKENS}
use Rattle.tdl_body.specs.Bounds.{greatest}
use Rattle.tdl_grammar.specs.Grammar as G
use Rattle.tdl_grammar.specs.Grammar.{at_most}
use Rattle.tdl_tree.specs.declared.words.Word.{Word}
use Rattle.tdl_tree.specs.declared.words.WordKind.TheVariants as k
use Rattle.tdl_tree.specs.declared.names.Id.{Id}
use Rattle.tdl_tree.specs.declared.names.Num.{Num}
use Rattle.tdl_tree.specs.declared.expressions.ExprTree.{ExprTree}
use Rattle.tdl_tree.specs.declared.statements.StmtTree.{StmtTree}
use Rattle.tdl_tree.specs.declared.statements.StmtTree.TheVariants as stmt
use Rattle.tdl_tree.specs.declared.statements.StmtTree.TheViews.{out-StmtTree, outs-Assign, outs-If, outs-Repeat}
use Rattle.tdl_tree.specs.declared.statements.StmtTree.TheOpen.{StmtTree-F}
use Rattle.tdl_tree.specs.Words as W
use Rattle.tdl_tree.specs.Words.{Text}
use Rattle.tdl_tree.specs.Names as N
use Rattle.tdl_tree.specs.Expressions.{expr}
use Rattle.tdl_tree.specs.Statements as S
use Rattle.tdl_rules.specs.Trees.{body_statements, expressions_of, statements_in, statements_inside}
use Rattle.tdl_rules.proofs.Equations.{statements_inside-assign, statements_inside-if, statements_inside-if_else, statements_inside-repeat}
use Rattle.tdl_size.specs.Sizes.{levels}
use Rattle.tdl_size.specs.Sized.{IsSmall, IsSmallStatement}
use Rattle.tdl_size.proofs.Equations.{levels-assign, levels-if, levels-if_else, levels-repeat}
use Rattle.tdl_size.proofs.Expressions.{expression-short}
use Rattle.tdl_size.proofs.Gives.{Gives, gives_both, gives_second, gives_first, gives_made, gives_either, gives_optional, gives_many}

-- ---- statements of which all is known

-- the statements of a block, however deep, and that they are at most n deep
pub record Within (n : ℕ) (block : List StmtTree) : Type 0 where
  pub statements : All IsSmallStatement (body_statements block)
  pub deep : greatest (map levels block) ≤ n

-- a statement that is at most n deep, with those inside it
pub record Fits (n : ℕ) (s : StmtTree) : Type 0 where
  pub statements : All IsSmallStatement (statements_in s)
  pub deep : levels s ≤ n

-- a list of such statements
pub within_all : (n : ℕ) (block : List StmtTree) → All (Fits n) block → Within n block
within_all n [] h = record { statements = All-nil IsSmallStatement; deep = omega arith }
within_all n (s ∷ ss) h =
    let first = h 0 s (omega arith) in
    let rest = within_all n ss (λ i d lt. h (suc i) d (omega arith)) in
    let deep : levels s ≤ n = first.deep in
    let more : greatest (map levels ss) ≤ n = rest.deep in
    record {
      statements = All-append IsSmallStatement (statements_in s) (body_statements ss) first.statements rest.statements;
      deep = omega (arith, deep, more);
    }

-- the expressions of one layer
small : (s : StmtTree) (layer : StmtTree-F StmtTree) → out-StmtTree s ≡ layer → All IsSmall (expressions_of layer) →
    IsSmallStatement s
small s layer is h = subst (λ (l : StmtTree-F StmtTree). All IsSmall (expressions_of l)) (sym is) h

-- one expression
one_small : (e : ExprTree) → IsSmall e → All IsSmall (e ∷ [])
one_small e h = All-cons IsSmall e [] h (All-nil IsSmall)

-- a statement before those inside it
with_inside : (s : StmtTree) (inner : List StmtTree) → statements_inside s ≡ inner → IsSmallStatement s →
    All IsSmallStatement inner → All IsSmallStatement (statements_in s)
with_inside s inner is own h =
    All-cons IsSmallStatement s (statements_inside s) own
    (All-same IsSmallStatement (statements_inside s) inner is h)

-- an assignment
assign_fits : (n : ℕ) (x : Id) (value : ExprTree) → IsSmall value → Fits n (stmt.Assign x value)
assign_fits n x value h =
    let deep = levels-assign x value in
    record {
      statements = with_inside (stmt.Assign x value) [] (statements_inside-assign x value)
          (small (stmt.Assign x value) (StmtTree-F.Assign x value) (outs-Assign x value) (one_small value h))
          (All-nil IsSmallStatement);
      deep = omega (arith, deep);
    }

-- an `if` without `else`
if_fits : (n : ℕ) (test : ExprTree) (first : List StmtTree) → IsSmall test → Within n first →
    Fits (suc n) (stmt.If test first None)
if_fits n test first h within =
    let is = levels-if test first in
    let deep : greatest (map levels first) ≤ n = within.deep in
    record {
      statements = with_inside (stmt.If test first None) (body_statements first) (statements_inside-if test first)
          (small (stmt.If test first None) (StmtTree-F.If test first None) (outs-If test first None)
          (one_small test h)) within.statements;
      deep = omega (arith, is, deep);
    }

-- with `else`
if_else_fits : (n : ℕ) (test : ExprTree) (first second : List StmtTree) → IsSmall test → Within n first →
    Within n second → Fits (suc n) (stmt.If test first (Some second))
if_else_fits n test first second h within other =
    let is = levels-if_else test first second in
    let deep : greatest (map levels first) ≤ n = within.deep in
    let deep' : greatest (map levels second) ≤ n = other.deep in
    record {
      statements = with_inside (stmt.If test first (Some second)) (body_statements first ++ body_statements second)
          (statements_inside-if_else test first second)
          (small (stmt.If test first (Some second)) (StmtTree-F.If test first (Some second))
          (outs-If test first (Some second)) (one_small test h))
          (All-append IsSmallStatement (body_statements first) (body_statements second) within.statements
          other.statements);
      deep = omega (arith, is, deep, deep');
    }

-- a `repeat`
repeat_fits : (n : ℕ) (count : Num) (body : List StmtTree) → Within n body → Fits (suc n) (stmt.Repeat count body)
repeat_fits n count body within =
    let is = levels-repeat count body in
    let deep : greatest (map levels body) ≤ n = within.deep in
    record {
      statements = with_inside (stmt.Repeat count body) (body_statements body) (statements_inside-repeat count body)
          (small (stmt.Repeat count body) (StmtTree-F.Repeat count body) (outs-Repeat count body)
          (All-nil IsSmall)) within.statements;
      deep = omega (arith, is, deep);
    }

-- ---- what is spelled

module _ (Good : Word → Type 0) (d : ℕ) where
  -- outermost expressions
  abbrev pub E : Text ExprTree
  E = at_most EXPRESSION_TOKENS (expr d)

  -- they are small
  pub outermost_small : Gives Good E IsSmall
  outermost_small e ts good l =
      let short = expression-short d e ts l.0 in
      let few = l.1 in
      omega (arith, short, few)

  -- in words
  pub gives_after : {A : Type 0} (kind : _) (L : Text A) (P : A → Type 0) → Gives Good L P →
      Gives Good (W.after kind L) P
  gives_after kind L P g = gives_made Good G.second _ P (gives_second Good _ L P g)

  pub gives_before : {A : Type 0} (kind : _) (L : Text A) (P : A → Type 0) → Gives Good L P →
      Gives Good (W.before kind L) P
  gives_before kind L P g = gives_made Good W.first _ P (gives_first Good L _ P g)

  pub gives_all_before : {A : Type 0} (kind : _) (L : Text A) (P : A → Type 0) → Gives Good L P →
      Gives Good (W.all_before kind L) (All P)
  gives_all_before kind L P g =
      gives_made Good W.first _ (All P) (gives_first Good (G.many L) _ (All P) (gives_many Good L P g))

  -- an `if`, with its second block or without
  if_of_fits : (n : ℕ) (test : ExprTree) (first : List StmtTree) (other : Option (List StmtTree)) → IsSmall test →
      Within n first → IfSome other (Within n) → Fits (suc n) (stmt.If test first other)
  if_of_fits n test first None h within second = if_fits n test first h within
  if_of_fits n test first (Some block) h within second = if_else_fits n test first block h within second

  -- statements over blocks that are at most n deep
  stmt_fits : (n : ℕ) (B : Text (List StmtTree)) → Gives Good B (Within n) → Gives Good (S.stmt E B) (Fits (suc n))
  stmt_fits n B g =
      gives_either Good _ _ (Fits (suc n))
      (gives_made Good S.assign_of _ (Fits (suc n)) (λ x ts good l.
      assign_fits (suc n) x.0 x.1
      (gives_second Good N.id _ IsSmall (gives_after k.Becomes _ IsSmall (gives_before k.Semicolon E IsSmall
      outermost_small)) x ts good l)))
      (gives_either Good _ _ (Fits (suc n))
      (gives_made Good S.if_of _ (Fits (suc n)) (λ x ts good l.
      let parts = gives_after k.If _ _ (gives_both Good E _ IsSmall _ outermost_small
      (gives_both Good B _ (Within n) (λ o. IfSome o (Within n)) g
      (gives_optional Good _ (Within n) (gives_after k.Else B (Within n) g)))) x ts good l in
      if_of_fits n x.0 x.1.0 x.1.1 parts.0 parts.1.0 parts.1.1))
      (gives_made Good S.repeat_of _ (Fits (suc n)) (λ x ts good l.
      repeat_fits n x.0 x.1 (gives_after k.Repeat _ (λ (y : Num × List StmtTree). Within n y.1)
      (gives_second Good N.number B (Within n) g) x ts good l))))

  -- statements where no block is allowed
  flat_fits : (B : Text (List StmtTree)) → ((b : List StmtTree) (ts : List Word) → B b ts → ⊥) →
      Gives Good (S.stmt E B) (Fits 0)
  flat_fits B none s ts good (inl l) =
      gives_made Good S.assign_of _ (Fits 0) (λ x ts good l.
      assign_fits 0 x.0 x.1
      (gives_second Good N.id _ IsSmall (gives_after k.Becomes _ IsSmall (gives_before k.Semicolon E IsSmall
      outermost_small)) x ts good l)) s ts good l
  flat_fits B none s ts good (inr (inl l)) = absurd (none _ _ l.1.1.3.3.2)
  flat_fits B none s ts good (inr (inr l)) = absurd (none _ _ l.1.1.3.3)

  -- a body's statements, and a block's, over blocks of so many in one another
  pub statements_fit : (n : ℕ) → Gives Good (S.stmt E (S.block n E)) (Fits n)
  unfolding S.block
  statements_fit zero = flat_fits (S.block zero E) (λ b ts l. l)
  statements_fit (suc n) =
      stmt_fits n (S.block (suc n) E) (λ b ts good l.
      within_all n b (gives_after k.LeftBrace _ (All (Fits n)) (gives_all_before k.RightBrace (S.stmt E (S.block n E))
      (Fits n) (statements_fit n)) b ts good l))
