-- The expressions, targets, counts and steps of the body that trees say.
use Rattle.std.proofs.Common.{◌≡◌, ℕ, ◌+◌, ◌*◌, List, [], ◌∷◌, ◌++◌, map, Some, None, unwrap_or, refl, ap, ap₂, sym, ◌∙◌, subst, arith}
use Rattle.std.proofs.lemmas.List.{append-nil}
use Rattle.tdl_body.specs.declared.tree.Body.{Body}
use Rattle.tdl_body.specs.declared.tree.Expr.{Expr}
use Rattle.tdl_body.specs.declared.tree.Stmt.TheOpen.{Stmt-F}
use Rattle.tdl_body.specs.declared.tree.Stmt.TheVariants as says
use Rattle.tdl_body.specs.declared.tree.Stmt.TheViews.{roll-Stmt}
use Rattle.tdl_body.specs.Bounds as bounds
use Rattle.tdl_body.specs.Bounds.{exprs_of, targets_of, counts_of, steps_of}
use Rattle.tdl_body.proofs.BoundEquations.{exprs_of_stmt, exprs_of_stmt-roll, exprs_of-stmts, targets_of_stmt, targets_of_stmt-roll, targets_of-stmts, counts_of_stmt, counts_of_stmt-roll, counts_of-stmts, steps_of_stmt, steps_of_stmt-roll, steps_of-stmts}
use Rattle.tdl_tree.specs.declared.statements.StmtTree.{StmtTree}
use Rattle.tdl_tree.specs.declared.statements.StmtTree.TheFolds.{ind-StmtTree, map-StmtTree}
use Rattle.tdl_tree.specs.declared.statements.StmtTree.TheOpen.{StmtTree-F}
use Rattle.tdl_tree.specs.declared.statements.StmtTree.TheViews.{out-StmtTree, roll-StmtTree}
use Rattle.tdl_rules.specs.Lists.{each, total}
use Rattle.tdl_rules.specs.Naming.{Scope}
use Rattle.tdl_rules.specs.Trees.{body_statements, expressions_of, steps}
use Rattle.tdl_rules.proofs.Equations.{steps-assign, steps-if, steps-if_else, steps-repeat}
use Rattle.tdl_program.specs.Bodies.{block_of, cell_named, statement_of}
use Rattle.tdl_program.specs.Expressions.{expression_of}
use Rattle.tdl_program.proofs.StatementEquations.{statement_of-assign, statement_of-if, statement_of-if_else, statement_of-repeat}
use Rattle.tdl_kept.proofs.StatementLists.{body-listed}

-- ---- expressions

-- those of an assignment
exprs-assign : (k : ℕ) (e : Expr) → exprs_of_stmt (says.Assign k e) ≡ e ∷ []
unfolding roll-Stmt denote.Hole.Carrier.roll
exprs-assign k e = exprs_of_stmt-roll (Stmt-F.Assign k e)

-- of an `if` with one block
exprs-if : (e : Expr) (b : Body) → exprs_of_stmt (says.If e b None) ≡ e ∷ exprs_of b
unfolding roll-Stmt denote.Hole.Carrier.roll
exprs-if e b = exprs_of_stmt-roll (Stmt-F.If e b None) ∙ ap (λ (es : List Expr). e ∷ es) (append-nil (exprs_of b))

-- with two
exprs-if_else : (e : Expr) (b c : Body) → exprs_of_stmt (says.If e b (Some c)) ≡ e ∷ (exprs_of b ++ exprs_of c)
unfolding roll-Stmt denote.Hole.Carrier.roll
exprs-if_else e b c = exprs_of_stmt-roll (Stmt-F.If e b (Some c))

-- of a `repeat`
exprs-repeat : (n : ℕ) (b : Body) → exprs_of_stmt (says.Repeat n b) ≡ exprs_of b
unfolding roll-Stmt denote.Hole.Carrier.roll
exprs-repeat n b = exprs_of_stmt-roll (Stmt-F.Repeat n b)

-- the expressions of a body are those of its statements' trees
pub body-exprs : (scope : Scope) (body : List StmtTree) → exprs_of (block_of (map (statement_of scope) body))
    ≡ each (λ (s : StmtTree). map (expression_of scope) (expressions_of (out-StmtTree s))) (body_statements body)
body-exprs scope =
    body-listed scope exprs_of_stmt exprs_of (λ layer. map (expression_of scope) (expressions_of layer)) exprs_of-stmts
    (λ x value. exprs-assign (cell_named (unwrap_or scope.body []) x) (expression_of scope value))
    (λ test first b. exprs-if (expression_of scope test) b)
    (λ test first second b c. exprs-if_else (expression_of scope test) b c)
    (λ count body b. exprs-repeat count.value b)

-- ---- targets

-- the cell of an assignment
targets-assign : (k : ℕ) (e : Expr) → targets_of_stmt (says.Assign k e) ≡ k ∷ []
unfolding roll-Stmt denote.Hole.Carrier.roll
targets-assign k e = targets_of_stmt-roll (Stmt-F.Assign k e)

-- those of the one block of an `if`
targets-if : (e : Expr) (b : Body) → targets_of_stmt (says.If e b None) ≡ targets_of b
unfolding roll-Stmt denote.Hole.Carrier.roll
targets-if e b = targets_of_stmt-roll (Stmt-F.If e b None) ∙ append-nil (targets_of b)

-- of its two
targets-if_else : (e : Expr) (b c : Body) → targets_of_stmt (says.If e b (Some c)) ≡ targets_of b ++ targets_of c
unfolding roll-Stmt denote.Hole.Carrier.roll
targets-if_else e b c = targets_of_stmt-roll (Stmt-F.If e b (Some c))

-- of a `repeat`
targets-repeat : (n : ℕ) (b : Body) → targets_of_stmt (says.Repeat n b) ≡ targets_of b
unfolding roll-Stmt denote.Hole.Carrier.roll
targets-repeat n b = targets_of_stmt-roll (Stmt-F.Repeat n b)

-- the cell that a statement itself sets
abbrev pub target_at : Scope → StmtTree-F StmtTree → List ℕ
target_at scope (StmtTree-F.Assign x value) = cell_named (unwrap_or scope.body []) x ∷ []
target_at scope _ = []

-- the targets of a body are those of its statements' trees
pub body-targets : (scope : Scope) (body : List StmtTree) → targets_of (block_of (map (statement_of scope) body))
    ≡ each (λ (s : StmtTree). target_at scope (out-StmtTree s)) (body_statements body)
body-targets scope =
    body-listed scope targets_of_stmt targets_of (target_at scope) targets_of-stmts
    (λ x value. targets-assign (cell_named (unwrap_or scope.body []) x) (expression_of scope value))
    (λ test first b. targets-if (expression_of scope test) b)
    (λ test first second b c. targets-if_else (expression_of scope test) b c)
    (λ count body b. targets-repeat count.value b)

-- ---- counts

-- an assignment has none
counts-assign : (k : ℕ) (e : Expr) → counts_of_stmt (says.Assign k e) ≡ []
unfolding roll-Stmt denote.Hole.Carrier.roll
counts-assign k e = counts_of_stmt-roll (Stmt-F.Assign k e)

-- those of the one block of an `if`
counts-if : (e : Expr) (b : Body) → counts_of_stmt (says.If e b None) ≡ counts_of b
unfolding roll-Stmt denote.Hole.Carrier.roll
counts-if e b = counts_of_stmt-roll (Stmt-F.If e b None) ∙ append-nil (counts_of b)

-- of its two
counts-if_else : (e : Expr) (b c : Body) → counts_of_stmt (says.If e b (Some c)) ≡ counts_of b ++ counts_of c
unfolding roll-Stmt denote.Hole.Carrier.roll
counts-if_else e b c = counts_of_stmt-roll (Stmt-F.If e b (Some c))

-- of a `repeat`
counts-repeat : (n : ℕ) (b : Body) → counts_of_stmt (says.Repeat n b) ≡ n ∷ counts_of b
unfolding roll-Stmt denote.Hole.Carrier.roll
counts-repeat n b = counts_of_stmt-roll (Stmt-F.Repeat n b)

-- the count of a statement that is a `repeat`
abbrev pub count_at : StmtTree-F StmtTree → List ℕ
count_at (StmtTree-F.Repeat count body) = count.value ∷ []
count_at _ = []

-- the counts of a body are those of its statements' trees
pub body-counts : (scope : Scope) (body : List StmtTree) → counts_of (block_of (map (statement_of scope) body))
    ≡ each (λ (s : StmtTree). count_at (out-StmtTree s)) (body_statements body)
body-counts scope =
    body-listed scope counts_of_stmt counts_of count_at counts_of-stmts
    (λ x value. counts-assign (cell_named (unwrap_or scope.body []) x) (expression_of scope value))
    (λ test first b. counts-if (expression_of scope test) b)
    (λ test first second b c. counts-if_else (expression_of scope test) b c)
    (λ count body b. counts-repeat count.value b)

-- ---- steps

-- those of an assignment
said-assign : (k : ℕ) (e : Expr) → steps_of_stmt (says.Assign k e) ≡ 1
unfolding roll-Stmt denote.Hole.Carrier.roll
said-assign k e = steps_of_stmt-roll (Stmt-F.Assign k e)

-- of an `if` with one block
said-if : (e : Expr) (b : Body) → steps_of_stmt (says.If e b None) ≡ steps_of b + 0 + 1
unfolding roll-Stmt denote.Hole.Carrier.roll
said-if e b = steps_of_stmt-roll (Stmt-F.If e b None)

-- with two
said-if_else : (e : Expr) (b c : Body) → steps_of_stmt (says.If e b (Some c)) ≡ steps_of b + steps_of c + 1
unfolding roll-Stmt denote.Hole.Carrier.roll
said-if_else e b c = steps_of_stmt-roll (Stmt-F.If e b (Some c))

-- of a `repeat`
said-repeat : (n : ℕ) (b : Body) → steps_of_stmt (says.Repeat n b) ≡ n * steps_of b + 1
unfolding roll-Stmt denote.Hole.Carrier.roll
said-repeat n b = steps_of_stmt-roll (Stmt-F.Repeat n b)

module _ (scope : Scope) where
  -- the statement that a tree says has as many steps as the tree
  abbrev IsAsLong : StmtTree → Type 0
  IsAsLong s = steps_of_stmt (statement_of scope s) ≡ steps s

  -- a tree of which this is known
  abbrev Known : Type 0
  Known = (s : StmtTree) × IsAsLong s

  -- trees of which it is known, as trees
  abbrev plain : List Known → List StmtTree
  plain ks = map (λ (k : Known). k.0) ks

  -- so it is of statements together
  together : (ks : List Known) → bounds.total (map steps_of_stmt (map (statement_of scope) (plain ks)))
      ≡ total (map steps (plain ks))
  together [] = refl
  together (k ∷ ks) = ap₂ (λ m n. m + n) k.1 (together ks)

  -- and of their block
  of_block : (ks : List Known) → steps_of (block_of (map (statement_of scope) (plain ks)))
      ≡ total (map steps (plain ks))
  of_block ks = steps_of-stmts (map (statement_of scope) (plain ks)) ∙ together ks

  -- one more after or before
  one_more : (n : ℕ) → n + 1 ≡ 1 + n
  one_more n = omega arith

  -- a layer with its blocks as trees
  abbrev plain_layer : StmtTree-F Known → StmtTree-F StmtTree
  plain_layer layer = map-StmtTree Known StmtTree (λ k. k.0) layer

  -- whatever the layer is
  layer-long : (layer : StmtTree-F Known) → IsAsLong (roll-StmtTree (plain_layer layer))
  unfolding roll-StmtTree denote.Hole.Carrier.roll
  layer-long (StmtTree-F.Assign x value) =
      ap steps_of_stmt (statement_of-assign scope x value)
      ∙ said-assign (cell_named (unwrap_or scope.body []) x) (expression_of scope value) ∙ sym (steps-assign x value)
  layer-long (StmtTree-F.If test first None) =
      let said = ap steps_of_stmt (statement_of-if scope test (plain first))
      ∙ said-if (expression_of scope test) (block_of (map (statement_of scope) (plain first))) in
      let block = of_block first in
      let tree = steps-if test (plain first) in
      omega (arith, said, block, tree)
  layer-long (StmtTree-F.If test first (Some second)) =
      let said = ap steps_of_stmt (statement_of-if_else scope test (plain first) (plain second))
      ∙ said-if_else (expression_of scope test) (block_of (map (statement_of scope) (plain first)))
      (block_of (map (statement_of scope) (plain second))) in
      let block = of_block first in
      let other = of_block second in
      let tree = steps-if_else test (plain first) (plain second) in
      omega (arith, said, block, other, tree)
  layer-long (StmtTree-F.Repeat count body) =
      ap steps_of_stmt (statement_of-repeat scope count (plain body))
      ∙ said-repeat count.value (block_of (map (statement_of scope) (plain body)))
      ∙ ap (λ n. count.value * n + 1) (of_block body) ∙ one_more (count.value * total (map steps (plain body)))
      ∙ sym (steps-repeat count (plain body))

  -- any statement
  as_long : (s : StmtTree) → IsAsLong s
  as_long = ind-StmtTree IsAsLong (λ x layer is. subst (λ z. IsAsLong (roll-StmtTree z)) is (layer-long layer))

  -- the body that trees say has as many steps as they
  pub body-steps : (body : List StmtTree) →
      steps_of (block_of (map (statement_of scope) body)) ≡ total (map steps body)
  body-steps body = steps_of-stmts (map (statement_of scope) body) ∙ all body
    where
      all : (ss : List StmtTree) →
          bounds.total (map steps_of_stmt (map (statement_of scope) ss)) ≡ total (map steps ss)
      all [] = refl
      all (s ∷ ss) = ap₂ (λ m n. m + n) (as_long s) (all ss)
