-- The earliest fault at an item and at those inside it.
use Rattle.std.proofs.Common.{◌≡◌, List, [], ◌∷◌, ◌++◌, Option, sym, ap, ◌∙◌}
use Rattle.std.proofs.lemmas.List.{append-nil}
use Rattle.tdl_tree.specs.declared.expressions.ExprTree.{ExprTree}
use Rattle.tdl_tree.specs.declared.statements.StmtTree.{StmtTree}
use Rattle.tdl_rules.specs.declared.fault.Fault.{Fault}
use Rattle.tdl_rules.specs.Earliest.{earliest}
use Rattle.tdl_rules.specs.Lists.{each}
use Rattle.tdl_rules.specs.Trees.{within, in_node, statements_in, statements_inside}
use Rattle.tdl_rules.proofs.Equations.{within-node}
use Rattle.tdl_walk.proofs.Minimum.{in_turn, each-append}

-- an item, and none inside it
pub alone : {A : Type 0} (f : A → List Fault) (x : A) (all : List A) (best first : Option Fault) → all ≡ x ∷ [] →
    first ≡ earliest best (f x) → first ≡ earliest best (each f all)
alone f x all best first e here = here ∙ ap (earliest best) (sym (ap (each f) e ∙ append-nil (f x)))

-- an item, then those inside it
pub with_inside : {A : Type 0} (f : A → List Fault) (x : A) (inside all : List A) (best first last : Option Fault) →
    all ≡ x ∷ inside → first ≡ earliest best (f x) → last ≡ earliest first (each f inside) → last ≡ earliest best (each f all)
with_inside f x inside all best first last e here rest =
    in_turn best first last (f x) (each f inside) rest here ∙ ap (λ (z : List _). earliest best (each f z)) (sym e)

-- the items of one list, then of another
pub of_two : {A : Type 0} (f : A → List Fault) (xs ys : List A) (best first last : Option Fault) →
    first ≡ earliest best (each f xs) → last ≡ earliest first (each f ys) → last ≡ earliest best (each f (xs ++ ys))
of_two f xs ys best first last one two =
    in_turn best first last (each f xs) (each f ys) two one ∙ ap (earliest best) (sym (each-append f xs ys))

-- an expression comes before those inside its node
pub within-inside : (e : ExprTree) (inside : List ExprTree) → in_node e.node ≡ inside → within e ≡ e ∷ inside
within-inside e inside is = within-node e ∙ ap (λ (z : List ExprTree). e ∷ z) is

-- a statement comes before those inside its blocks
pub statements_in-inside : (s : StmtTree) (inside : List StmtTree) → statements_inside s ≡ inside → statements_in s ≡ s ∷ inside
statements_in-inside s inside is = ap (λ (z : List StmtTree). s ∷ z) is
