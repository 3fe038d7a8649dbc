-- How large expressions, statements and blocks are, and what stands in them, from their parts: each fold at its node.
use Rattle.std.proofs.Common.{◌≡◌, ℕ, ◌+◌, ℤ, List, map, max}
use Rattle.tdl_base.specs.Lists.{joined}
use Rattle.tdl_base.specs.declared.numbers.Place.{Place}
use Rattle.tdl_base.specs.declared.arithmetic.UnOp.{UnOp}
use Rattle.tdl_base.specs.declared.arithmetic.BinOp.{BinOp}
use Rattle.tdl_body.specs.declared.tree.Body.{Body}
use Rattle.tdl_body.specs.declared.tree.Expr.{Expr}
use Rattle.tdl_body.specs.declared.tree.Expr.TheVariants as expr
use Rattle.tdl_body.specs.declared.tree.Expr.TheOpen.{Expr-F}
use Rattle.tdl_body.specs.declared.tree.Expr.TheViews.{roll-Expr}
use Rattle.tdl_body.specs.declared.tree.Expr.TheFolds.{fold-roll-Expr, map-Expr}
use Rattle.tdl_body.specs.declared.tree.Stmt.{Stmt}
use Rattle.tdl_body.specs.declared.tree.Stmt.TheOpen.{Stmt-F, Body-F}
use Rattle.tdl_body.specs.declared.tree.Stmt.TheViews.{roll-Body, roll-Stmt}
use Rattle.tdl_body.specs.declared.tree.Stmt.TheFolds.{fold-roll-Body, fold-roll-Stmt, fold-Stmt, map-Stmt}
use Rattle.tdl_body.specs.Bounds.{nodes_of, nodes_step, depth_of, depth_step, greatest, total, levels_of, levels_step, steps_of, steps_step, exprs_of, exprs_step, counts_of, counts_step, targets_of, targets_step}

-- ---- expressions

-- the nodes of an expression, from those of its operands
pub nodes_of-roll : (node : Expr-F Expr) → nodes_of (roll-Expr node) ≡ nodes_step (map-Expr Expr ℕ nodes_of node)
unfolding nodes_of
nodes_of-roll node = fold-roll-Expr ℕ nodes_step node

-- the depth of an expression, from those of its operands
pub depth_of-roll : (node : Expr-F Expr) → depth_of (roll-Expr node) ≡ depth_step (map-Expr Expr ℕ depth_of node)
unfolding depth_of
depth_of-roll node = fold-roll-Expr ℕ depth_step node

-- the nodes of a constant
pub nodes_of-const : (v : ℤ) → nodes_of (expr.Const v) ≡ 1
unfolding roll-Expr denote.Hole.Carrier.roll
nodes_of-const v = nodes_of-roll (Expr-F.Const v)

-- the nodes of a load
pub nodes_of-load : (p : Place) → nodes_of (expr.Load p) ≡ 1
unfolding roll-Expr denote.Hole.Carrier.roll
nodes_of-load p = nodes_of-roll (Expr-F.Load p)

-- the nodes of an operator over one operand
pub nodes_of-un : (op : UnOp) (a : Expr) → nodes_of (expr.Un op a) ≡ nodes_of a + 1
unfolding roll-Expr denote.Hole.Carrier.roll
nodes_of-un op a = nodes_of-roll (Expr-F.Un op a)

-- the nodes of an operator over two operands
pub nodes_of-bin : (op : BinOp) (a b : Expr) → nodes_of (expr.Bin op a b) ≡ nodes_of a + nodes_of b + 1
unfolding roll-Expr denote.Hole.Carrier.roll
nodes_of-bin op a b = nodes_of-roll (Expr-F.Bin op a b)

-- the depth of a constant
pub depth_of-const : (v : ℤ) → depth_of (expr.Const v) ≡ 1
unfolding roll-Expr denote.Hole.Carrier.roll
depth_of-const v = depth_of-roll (Expr-F.Const v)

-- the depth of a load
pub depth_of-load : (p : Place) → depth_of (expr.Load p) ≡ 1
unfolding roll-Expr denote.Hole.Carrier.roll
depth_of-load p = depth_of-roll (Expr-F.Load p)

-- the depth of an operator over one operand
pub depth_of-un : (op : UnOp) (a : Expr) → depth_of (expr.Un op a) ≡ depth_of a + 1
unfolding roll-Expr denote.Hole.Carrier.roll
depth_of-un op a = depth_of-roll (Expr-F.Un op a)

-- the depth of an operator over two operands
pub depth_of-bin : (op : BinOp) (a b : Expr) → depth_of (expr.Bin op a b) ≡ max (depth_of a) (depth_of b) + 1
unfolding roll-Expr denote.Hole.Carrier.roll
depth_of-bin op a b = depth_of-roll (Expr-F.Bin op a b)

-- ---- statements and blocks

-- the levels of one statement
unfoldable pub levels_of_stmt : Stmt → ℕ
levels_of_stmt = fold-Stmt ℕ ℕ levels_step (λ block. greatest block.stmts)

-- the levels of a statement, from those of its blocks
pub levels_of_stmt-roll : (node : Stmt-F Stmt Body) →
    levels_of_stmt (roll-Stmt node) ≡ levels_step (map-Stmt Stmt Body ℕ ℕ levels_of_stmt levels_of node)
unfolding levels_of_stmt levels_of
levels_of_stmt-roll node = fold-roll-Stmt ℕ ℕ levels_step (λ block. greatest block.stmts) node

-- the levels of a block, from those of its statements
pub levels_of-roll : (node : Body-F Stmt Body) → levels_of (roll-Body node) ≡ greatest (map levels_of_stmt node.stmts)
unfolding levels_of_stmt levels_of
levels_of-roll node = fold-roll-Body ℕ ℕ levels_step (λ block. greatest block.stmts) node

-- the same of a block that is given by its statements
pub levels_of-stmts : (stmts : List Stmt) → levels_of (record { stmts = stmts }) ≡ greatest (map levels_of_stmt stmts)
unfolding denote.Hole.Carrier.roll
levels_of-stmts stmts = levels_of-roll (record { stmts = stmts })

-- the steps of one statement
unfoldable pub steps_of_stmt : Stmt → ℕ
steps_of_stmt = fold-Stmt ℕ ℕ steps_step (λ block. total block.stmts)

-- the steps of a statement, from those of its blocks
pub steps_of_stmt-roll : (node : Stmt-F Stmt Body) →
    steps_of_stmt (roll-Stmt node) ≡ steps_step (map-Stmt Stmt Body ℕ ℕ steps_of_stmt steps_of node)
unfolding steps_of_stmt steps_of
steps_of_stmt-roll node = fold-roll-Stmt ℕ ℕ steps_step (λ block. total block.stmts) node

-- the steps of a block, from those of its statements
pub steps_of-roll : (node : Body-F Stmt Body) → steps_of (roll-Body node) ≡ total (map steps_of_stmt node.stmts)
unfolding steps_of_stmt steps_of
steps_of-roll node = fold-roll-Body ℕ ℕ steps_step (λ block. total block.stmts) node

-- the same of a block that is given by its statements
pub steps_of-stmts : (stmts : List Stmt) → steps_of (record { stmts = stmts }) ≡ total (map steps_of_stmt stmts)
unfolding denote.Hole.Carrier.roll
steps_of-stmts stmts = steps_of-roll (record { stmts = stmts })

-- the expressions of one statement
unfoldable pub exprs_of_stmt : Stmt → List Expr
exprs_of_stmt = fold-Stmt (List Expr) (List Expr) exprs_step (λ block. joined block.stmts)

-- the expressions of a statement, from those of its blocks
pub exprs_of_stmt-roll : (node : Stmt-F Stmt Body) →
    exprs_of_stmt (roll-Stmt node) ≡ exprs_step (map-Stmt Stmt Body (List Expr) (List Expr) exprs_of_stmt exprs_of node)
unfolding exprs_of_stmt exprs_of
exprs_of_stmt-roll node = fold-roll-Stmt (List Expr) (List Expr) exprs_step (λ block. joined block.stmts) node

-- the expressions of a block, from those of its statements
pub exprs_of-roll : (node : Body-F Stmt Body) → exprs_of (roll-Body node) ≡ joined (map exprs_of_stmt node.stmts)
unfolding exprs_of_stmt exprs_of
exprs_of-roll node = fold-roll-Body (List Expr) (List Expr) exprs_step (λ block. joined block.stmts) node

-- the same of a block that is given by its statements
pub exprs_of-stmts : (stmts : List Stmt) → exprs_of (record { stmts = stmts }) ≡ joined (map exprs_of_stmt stmts)
unfolding denote.Hole.Carrier.roll
exprs_of-stmts stmts = exprs_of-roll (record { stmts = stmts })

-- the counts of one statement
unfoldable pub counts_of_stmt : Stmt → List ℕ
counts_of_stmt = fold-Stmt (List ℕ) (List ℕ) counts_step (λ block. joined block.stmts)

-- the counts of a statement, from those of its blocks
pub counts_of_stmt-roll : (node : Stmt-F Stmt Body) →
    counts_of_stmt (roll-Stmt node) ≡ counts_step (map-Stmt Stmt Body (List ℕ) (List ℕ) counts_of_stmt counts_of node)
unfolding counts_of_stmt counts_of
counts_of_stmt-roll node = fold-roll-Stmt (List ℕ) (List ℕ) counts_step (λ block. joined block.stmts) node

-- the counts of a block, from those of its statements
pub counts_of-roll : (node : Body-F Stmt Body) → counts_of (roll-Body node) ≡ joined (map counts_of_stmt node.stmts)
unfolding counts_of_stmt counts_of
counts_of-roll node = fold-roll-Body (List ℕ) (List ℕ) counts_step (λ block. joined block.stmts) node

-- the same of a block that is given by its statements
pub counts_of-stmts : (stmts : List Stmt) → counts_of (record { stmts = stmts }) ≡ joined (map counts_of_stmt stmts)
unfolding denote.Hole.Carrier.roll
counts_of-stmts stmts = counts_of-roll (record { stmts = stmts })

-- the cells set of one statement
unfoldable pub targets_of_stmt : Stmt → List ℕ
targets_of_stmt = fold-Stmt (List ℕ) (List ℕ) targets_step (λ block. joined block.stmts)

-- the cells set of a statement, from those of its blocks
pub targets_of_stmt-roll : (node : Stmt-F Stmt Body) →
    targets_of_stmt (roll-Stmt node)
    ≡ targets_step (map-Stmt Stmt Body (List ℕ) (List ℕ) targets_of_stmt targets_of node)
unfolding targets_of_stmt targets_of
targets_of_stmt-roll node = fold-roll-Stmt (List ℕ) (List ℕ) targets_step (λ block. joined block.stmts) node

-- the cells set of a block, from those of its statements
pub targets_of-roll : (node : Body-F Stmt Body) → targets_of (roll-Body node) ≡ joined (map targets_of_stmt node.stmts)
unfolding targets_of_stmt targets_of
targets_of-roll node = fold-roll-Body (List ℕ) (List ℕ) targets_step (λ block. joined block.stmts) node

-- the same of a block that is given by its statements
pub targets_of-stmts : (stmts : List Stmt) → targets_of (record { stmts = stmts }) ≡ joined (map targets_of_stmt stmts)
unfolding denote.Hole.Carrier.roll
targets_of-stmts stmts = targets_of-roll (record { stmts = stmts })
