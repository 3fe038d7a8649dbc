-- The blocks of the body that trees say stand in one another as those of the trees.
use Rattle.std.proofs.Common.{◌≡◌, ℕ, ◌+◌, max, List, [], ◌∷◌, map, Some, None, refl, ap, ap₂, sym, ◌∙◌, subst}
use Rattle.tdl_body.specs.declared.tree.Body.{Body}
use Rattle.tdl_body.specs.declared.tree.Expr.{Expr}
use Rattle.tdl_body.specs.declared.tree.Stmt.TheOpen.{Stmt-F}
use Rattle.tdl_body.specs.declared.tree.Stmt.TheVariants as says
use Rattle.tdl_body.specs.declared.tree.Stmt.TheViews.{roll-Stmt}
use Rattle.tdl_body.specs.Bounds.{greatest, levels_of}
use Rattle.tdl_body.proofs.BoundEquations.{levels_of_stmt, levels_of_stmt-roll, levels_of-stmts}
use Rattle.tdl_tree.specs.declared.statements.StmtTree.{StmtTree}
use Rattle.tdl_tree.specs.declared.statements.StmtTree.TheFolds.{ind-StmtTree, map-StmtTree}
use Rattle.tdl_tree.specs.declared.statements.StmtTree.TheOpen.{StmtTree-F}
use Rattle.tdl_tree.specs.declared.statements.StmtTree.TheViews.{roll-StmtTree}
use Rattle.tdl_rules.specs.Naming.{Scope}
use Rattle.tdl_program.specs.Bodies.{block_of, cell_named, statement_of}
use Rattle.tdl_program.specs.Expressions.{expression_of}
use Rattle.tdl_program.proofs.StatementEquations.{statement_of-assign, statement_of-if, statement_of-if_else, statement_of-repeat}
use Rattle.std.proofs.Common.{unwrap_or}
use Rattle.tdl_size.specs.Sizes.{levels}
use Rattle.tdl_size.proofs.Equations.{levels-assign, levels-if, levels-if_else, levels-repeat}

-- an assignment has none
said-assign : (k : ℕ) (e : Expr) → levels_of_stmt (says.Assign k e) ≡ 0
unfolding roll-Stmt denote.Hole.Carrier.roll
said-assign k e = levels_of_stmt-roll (Stmt-F.Assign k e)

-- an `if` with one block
said-if : (e : Expr) (b : Body) → levels_of_stmt (says.If e b None) ≡ max (levels_of b) 0 + 1
unfolding roll-Stmt denote.Hole.Carrier.roll
said-if e b = levels_of_stmt-roll (Stmt-F.If e b None)

-- with two
said-if_else : (e : Expr) (b c : Body) → levels_of_stmt (says.If e b (Some c)) ≡ max (levels_of b) (levels_of c) + 1
unfolding roll-Stmt denote.Hole.Carrier.roll
said-if_else e b c = levels_of_stmt-roll (Stmt-F.If e b (Some c))

-- a `repeat`
said-repeat : (n : ℕ) (b : Body) → levels_of_stmt (says.Repeat n b) ≡ levels_of b + 1
unfolding roll-Stmt denote.Hole.Carrier.roll
said-repeat n b = levels_of_stmt-roll (Stmt-F.Repeat n b)

module _ (scope : Scope) where
  -- the statement that a tree says has as many as the tree
  abbrev IsAsDeep : StmtTree → Type 0
  IsAsDeep s = levels_of_stmt (statement_of scope s) ≡ levels s

  -- a tree of which this is known
  abbrev Known : Type 0
  Known = (s : StmtTree) × IsAsDeep s

  -- trees of which it is known, as trees
  abbrev plain : List Known → List StmtTree
  plain ks = map (λ (k : Known). k.0) ks

  -- so it is of statements together
  together : (ks : List Known) → greatest (map levels_of_stmt (map (statement_of scope) (plain ks)))
      ≡ greatest (map levels (plain ks))
  together [] = refl
  together (k ∷ ks) = ap₂ (λ m n. max m n) k.1 (together ks)

  -- and of their block
  of_block : (ks : List Known) → levels_of (block_of (map (statement_of scope) (plain ks)))
      ≡ greatest (map levels (plain ks))
  of_block ks = levels_of-stmts (map (statement_of scope) (plain ks)) ∙ together ks

  -- a layer with its blocks as trees
  abbrev plain_layer : StmtTree-F Known → StmtTree-F StmtTree
  plain_layer layer = map-StmtTree Known StmtTree (λ k. k.0) layer

  -- whatever the layer is
  layer-deep : (layer : StmtTree-F Known) → IsAsDeep (roll-StmtTree (plain_layer layer))
  unfolding roll-StmtTree denote.Hole.Carrier.roll
  layer-deep (StmtTree-F.Assign x value) =
      ap levels_of_stmt (statement_of-assign scope x value)
      ∙ said-assign (cell_named (unwrap_or scope.body []) x) (expression_of scope value) ∙ sym (levels-assign x value)
  layer-deep (StmtTree-F.If test first None) =
      ap levels_of_stmt (statement_of-if scope test (plain first))
      ∙ said-if (expression_of scope test) (block_of (map (statement_of scope) (plain first)))
      ∙ ap (λ n. max n 0 + 1) (of_block first) ∙ sym (levels-if test (plain first))
  layer-deep (StmtTree-F.If test first (Some second)) =
      ap levels_of_stmt (statement_of-if_else scope test (plain first) (plain second))
      ∙ said-if_else (expression_of scope test) (block_of (map (statement_of scope) (plain first)))
      (block_of (map (statement_of scope) (plain second)))
      ∙ ap₂ (λ m n. max m n + 1) (of_block first) (of_block second)
      ∙ sym (levels-if_else test (plain first) (plain second))
  layer-deep (StmtTree-F.Repeat count body) =
      ap levels_of_stmt (statement_of-repeat scope count (plain body))
      ∙ said-repeat count.value (block_of (map (statement_of scope) (plain body)))
      ∙ ap (λ n. n + 1) (of_block body) ∙ sym (levels-repeat count (plain body))

  -- any statement
  as_deep : (s : StmtTree) → IsAsDeep s
  as_deep = ind-StmtTree IsAsDeep (λ x layer is. subst (λ z. IsAsDeep (roll-StmtTree z)) is (layer-deep layer))

  -- the body that trees say has as many as they
  pub body-levels : (body : List StmtTree) →
      levels_of (block_of (map (statement_of scope) body)) ≡ greatest (map levels body)
  body-levels body = levels_of-stmts (map (statement_of scope) body) ∙ all body
    where
      all : (ss : List StmtTree) →
          greatest (map levels_of_stmt (map (statement_of scope) ss)) ≡ greatest (map levels ss)
      all [] = refl
      all (s ∷ ss) = ap₂ (λ m n. max m n) (as_deep s) (all ss)
