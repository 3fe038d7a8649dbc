-- What stands in the statements that trees say, listed by the trees of all statements.
use Rattle.std.proofs.Common.{◌≡◌, ℕ, suc, List, [], ◌∷◌, ◌++◌, map, All, Some, None, unwrap_or, refl, ap, ap₂, sym, ◌∙◌, subst}
use Rattle.std.specs.Prelude.{slice_get}
use Rattle.std.proofs.lemmas.List.{append-nil}
use Rattle.std.proofs.lemmas.List.Elements.{All-nil, All-append}
use Rattle.tdl_base.specs.Lists.{joined}
use Rattle.tdl_body.specs.declared.tree.Body.{Body}
use Rattle.tdl_body.specs.declared.tree.Stmt.{Stmt}
use Rattle.tdl_body.specs.declared.tree.Stmt.TheVariants as says
use Rattle.tdl_tree.specs.declared.expressions.ExprTree.{ExprTree}
use Rattle.tdl_tree.specs.declared.names.Id.{Id}
use Rattle.tdl_tree.specs.declared.names.Num.{Num}
use Rattle.tdl_tree.specs.declared.statements.StmtTree.{StmtTree}
use Rattle.tdl_tree.specs.declared.statements.StmtTree.TheFolds.{ind-StmtTree, map-StmtTree}
use Rattle.tdl_tree.specs.declared.statements.StmtTree.TheOpen.{StmtTree-F}
use Rattle.tdl_tree.specs.declared.statements.StmtTree.TheVariants as stmt
use Rattle.tdl_tree.specs.declared.statements.StmtTree.TheViews.{out-StmtTree, roll-StmtTree, outs-Assign, outs-If, outs-Repeat}
use Rattle.tdl_rules.specs.Lists.{each}
use Rattle.tdl_rules.specs.Naming.{Scope}
use Rattle.tdl_rules.specs.Trees.{statements_in, body_statements}
use Rattle.tdl_rules.proofs.Equations.{statements_inside-assign, statements_inside-if, statements_inside-if_else, statements_inside-repeat}
use Rattle.tdl_walk.proofs.Minimum.{each-append}
use Rattle.tdl_program.specs.Bodies.{block_of, cell_named, statement_of}
use Rattle.tdl_program.specs.Expressions.{expression_of}
use Rattle.tdl_program.proofs.StatementEquations.{statement_of-assign, statement_of-if, statement_of-if_else, statement_of-repeat}

module _ {B : Type 0} (scope : Scope) (of_stmt : Stmt → List B) (of_body : Body →
    List B) (at : StmtTree-F StmtTree → List B)
    (block : (stmts : List Stmt) → of_body (block_of stmts) ≡ joined (map of_stmt stmts))
    (assign : (x : Id) (value : ExprTree) → of_stmt (says.Assign (cell_named (unwrap_or scope.body []) x)
    (expression_of scope value))
    ≡ at (StmtTree-F.Assign x value))
    (one : (test : ExprTree) (first : List StmtTree) (b : Body) → of_stmt (says.If (expression_of scope test) b None)
    ≡ at (StmtTree-F.If test first None) ++ of_body b)
    (two : (test : ExprTree) (first second : List StmtTree) (b c : Body) →
    of_stmt (says.If (expression_of scope test) b (Some c))
    ≡ at (StmtTree-F.If test first (Some second)) ++ (of_body b ++ of_body c))
    (repeat : (count : Num) (body : List StmtTree) (b : Body) → of_stmt (says.Repeat count.value b)
    ≡ at (StmtTree-F.Repeat count body) ++ of_body b) where
  -- what a tree's own layer gives
  abbrev own : StmtTree → List B
  own s = at (out-StmtTree s)

  -- a statement's items are those of the trees in it
  abbrev IsListed : StmtTree → Type 0
  IsListed s = of_stmt (statement_of scope s) ≡ each own (statements_in s)

  -- a tree of which this is known
  abbrev Known : Type 0
  Known = (s : StmtTree) × IsListed s

  -- trees of which it is known, as trees
  abbrev plain : List Known → List StmtTree
  plain ks = map (λ (k : Known). k.0) ks

  -- so it is of statements in turn
  in_turn : (ks : List Known) → joined (map of_stmt (map (statement_of scope) (plain ks)))
      ≡ each own (body_statements (plain ks))
  in_turn [] = refl
  in_turn (k ∷ ks) =
      ap₂ (λ (xs ys : List B). xs ++ ys) k.1 (in_turn ks)
      ∙ sym (each-append own (statements_in k.0) (body_statements (plain ks)))

  -- and of their block
  of_block : (ks : List Known) → of_body (block_of (map (statement_of scope) (plain ks)))
      ≡ each own (body_statements (plain ks))
  of_block ks = block (map (statement_of scope) (plain ks)) ∙ in_turn ks

  -- an assignment
  assign-listed : (x : Id) (value : ExprTree) → IsListed (stmt.Assign x value)
  assign-listed x value =
      ap of_stmt (statement_of-assign scope x value) ∙ assign x value
      ∙ ap at (sym (outs-Assign x value)) ∙ sym (append-nil (own (stmt.Assign x value)))
      ∙ ap (λ (inner : List StmtTree). own (stmt.Assign x value) ++ each own inner) (sym
      (statements_inside-assign x value))

  -- an `if` with one block
  if-listed : (test : ExprTree) (first : List Known) → IsListed (stmt.If test (plain first) None)
  if-listed test first =
      ap of_stmt (statement_of-if scope test (plain first))
      ∙ one test (plain first) (block_of (map (statement_of scope) (plain first)))
      ∙ ap₂ (λ (xs ys : List B). xs ++ ys) (ap at (sym (outs-If test (plain first) None)))
      (of_block first ∙ ap (each own) (sym (statements_inside-if test (plain first))))

  -- an `if` with two
  if_else-listed : (test : ExprTree) (first second : List Known) →
      IsListed (stmt.If test (plain first) (Some (plain second)))
  if_else-listed test first second =
      ap of_stmt (statement_of-if_else scope test (plain first) (plain second))
      ∙ two test (plain first) (plain second) (block_of (map (statement_of scope) (plain first)))
      (block_of (map (statement_of scope) (plain second)))
      ∙ ap₂ (λ (xs ys : List B). xs ++ ys) (ap at (sym (outs-If test (plain first) (Some (plain second)))))
      (ap₂ (λ (xs ys : List B). xs ++ ys) (of_block first) (of_block second)
      ∙ sym (each-append own (body_statements (plain first)) (body_statements (plain second)))
      ∙ ap (each own) (sym (statements_inside-if_else test (plain first) (plain second))))

  -- a `repeat`
  repeat-listed : (count : Num) (body : List Known) → IsListed (stmt.Repeat count (plain body))
  repeat-listed count body =
      ap of_stmt (statement_of-repeat scope count (plain body))
      ∙ repeat count (plain body) (block_of (map (statement_of scope) (plain body)))
      ∙ ap₂ (λ (xs ys : List B). xs ++ ys) (ap at (sym (outs-Repeat count (plain body))))
      (of_block body ∙ ap (each own) (sym (statements_inside-repeat count (plain body))))

  -- a layer with its blocks as trees
  abbrev plain_layer : StmtTree-F Known → StmtTree-F StmtTree
  plain_layer layer = map-StmtTree Known StmtTree (λ k. k.0) layer

  -- whatever the layer is
  layer-listed : (layer : StmtTree-F Known) → IsListed (roll-StmtTree (plain_layer layer))
  unfolding roll-StmtTree denote.Hole.Carrier.roll
  layer-listed (StmtTree-F.Assign x value) = assign-listed x value
  layer-listed (StmtTree-F.If test first None) = if-listed test first
  layer-listed (StmtTree-F.If test first (Some second)) = if_else-listed test first second
  layer-listed (StmtTree-F.Repeat count body) = repeat-listed count body

  -- the items of each statement
  listed : (s : StmtTree) → IsListed s
  listed = ind-StmtTree IsListed (λ x layer is. subst (λ z. IsListed (roll-StmtTree z)) is (layer-listed layer))

  -- those of a body's statements
  pub body-listed : (body : List StmtTree) →
      of_body (block_of (map (statement_of scope) body)) ≡ each own (body_statements body)
  body-listed body = block (map (statement_of scope) body) ∙ all body
    where
      all : (ss : List StmtTree) → joined (map of_stmt (map (statement_of scope) ss)) ≡ each own (body_statements ss)
      all [] = refl
      all (s ∷ ss) =
          ap₂ (λ (xs ys : List B). xs ++ ys) (listed s) (all ss)
          ∙ sym (each-append own (statements_in s) (body_statements ss))

-- what holds of all that each item gives
pub all-each : {A B : Type 0} (P : B → Type 0) (f : A → List B) (xs : List A) →
    ((k : ℕ) (x : A) → slice_get xs k ≡ Some x → All P (f x)) → All P (each f xs)
all-each P f [] holds = All-nil P
all-each P f (x ∷ xs) holds =
    All-append P (f x) (each f xs) (holds 0 x refl) (all-each P f xs (λ k y at. holds (suc k) y at))
