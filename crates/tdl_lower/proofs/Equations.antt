-- The codes of expressions, statements and blocks, from those of their parts: each fold at its outermost node.
use Rattle.std.proofs.Common.{◌≡◌, ℕ, ◌+◌, ℤ, length, Some, None, List, [], ◌∷◌, ◌++◌, map}
use Rattle.tdl_base.specs.declared.numbers.Place.{Place}
use Rattle.tdl_base.specs.declared.arithmetic.BinOp.{BinOp}
use Rattle.tdl_base.specs.declared.arithmetic.UnOp.{UnOp}
use Rattle.tdl_body.specs.declared.tree.Body.{Body}
use Rattle.tdl_body.specs.declared.tree.Expr.{Expr}
use Rattle.tdl_body.specs.declared.tree.Expr.TheVariants as expr
use Rattle.tdl_body.specs.declared.tree.Expr.TheOpen.{Expr-F}
use Rattle.tdl_body.specs.declared.tree.Expr.TheViews.{roll-Expr}
use Rattle.tdl_body.specs.declared.tree.Expr.TheFolds.{fold-roll-Expr, map-Expr}
use Rattle.tdl_body.specs.declared.tree.Stmt.{Stmt}
use Rattle.tdl_body.specs.declared.tree.Stmt.TheVariants as stmt
use Rattle.tdl_body.specs.declared.tree.Stmt.TheOpen.{Stmt-F, Body-F}
use Rattle.tdl_body.specs.declared.tree.Stmt.TheViews.{roll-Body, roll-Stmt}
use Rattle.tdl_body.specs.declared.tree.Stmt.TheFolds.{fold-roll-Body, fold-roll-Stmt, map-Stmt, map-Body}
use Rattle.tdl_stack.specs.declared.instr.Instr.TheVariants as instr
use Rattle.tdl_base.specs.Lists.{joined}
use Rattle.tdl_lower.specs.Templates.{Instructions, expr_code, body_code, expr_template, stmt_template, block_template}
unfoldable pub use Rattle.tdl_lower.specs.Templates.{stmt_code}

-- ---- expressions

-- the code of an expression, from those of its operands
pub expr_code-roll : (node : Expr-F Expr) →
    expr_code (roll-Expr node) ≡ expr_template (map-Expr Expr Instructions expr_code node)
unfolding expr_code
expr_code-roll node = fold-roll-Expr Instructions expr_template node

-- the code of what is read at a place
pub expr_code-load : (p : Place) → expr_code (expr.Load p) ≡ instr.Load p ∷ []
unfolding roll-Expr denote.Hole.Carrier.roll
expr_code-load p = expr_code-roll (Expr-F.Load p)

-- the code of a constant
pub expr_code-const : (v : ℤ) → expr_code (expr.Const v) ≡ instr.Const v ∷ []
unfolding roll-Expr denote.Hole.Carrier.roll
expr_code-const v = expr_code-roll (Expr-F.Const v)

-- the code of an operator over one operand
pub expr_code-un : (op : UnOp) (a : Expr) → expr_code (expr.Un op a) ≡ expr_code a ++ instr.Un op ∷ []
unfolding roll-Expr denote.Hole.Carrier.roll
expr_code-un op a = expr_code-roll (Expr-F.Un op a)

-- the code of an operator over two operands
pub expr_code-bin : (op : BinOp) (a b : Expr) →
    expr_code (expr.Bin op a b) ≡ expr_code a ++ expr_code b ++ instr.Bin op ∷ []
unfolding roll-Expr denote.Hole.Carrier.roll
expr_code-bin op a b = expr_code-roll (Expr-F.Bin op a b)

-- ---- statements and blocks

-- the code of a statement, from those of its blocks
pub stmt_code-roll : (node : Stmt-F Stmt Body) →
    stmt_code (roll-Stmt node) ≡ stmt_template (map-Stmt Stmt Body Instructions Instructions stmt_code body_code node)
unfolding stmt_code body_code
stmt_code-roll node = fold-roll-Stmt Instructions Instructions stmt_template block_template node

-- the code of a block, from those of its statements
pub body_code-roll : (node : Body-F Stmt Body) →
    body_code (roll-Body node) ≡ block_template (map-Body Stmt Body Instructions Instructions stmt_code body_code node)
unfolding stmt_code body_code
body_code-roll node = fold-roll-Body Instructions Instructions stmt_template block_template node

-- the code of a body is that of its statements in turn
pub body_code-stmts : (stmts : List Stmt) → body_code (record { stmts = stmts }) ≡ joined (map stmt_code stmts)
unfolding denote.Hole.Carrier.roll
body_code-stmts stmts = body_code-roll (record { stmts = stmts })

-- the code of an assignment
pub stmt_code-assign : (k : ℕ) (e : Expr) → stmt_code (stmt.Assign k e) ≡ expr_code e ++ instr.Store k ∷ []
unfolding roll-Stmt denote.Hole.Carrier.roll
stmt_code-assign k e = stmt_code-roll (Stmt-F.Assign k e)

-- the code of an `if` without `else`
pub stmt_code-if : (test : Expr) (then' : Body) →
    stmt_code (stmt.If test then' None) ≡ expr_code test ++ instr.Jz (length (body_code then')) ∷ body_code then'
unfolding roll-Stmt denote.Hole.Carrier.roll
stmt_code-if test then' = stmt_code-roll (Stmt-F.If test then' None)

-- the code of an `if` with `else`
pub stmt_code-if_else : (test : Expr) (then' other : Body) →
    stmt_code (stmt.If test then' (Some other))
    ≡ expr_code test ++ instr.Jz (length (body_code then') + 1) ∷ body_code then'
    ++ instr.Jmp (length (body_code other)) ∷ body_code other
unfolding roll-Stmt denote.Hole.Carrier.roll
stmt_code-if_else test then' other = stmt_code-roll (Stmt-F.If test then' (Some other))

-- the code of a `repeat`
pub stmt_code-repeat : (count : ℕ) (block : Body) →
    stmt_code (stmt.Repeat count block) ≡ instr.Rep count (length (body_code block)) ∷ body_code block
unfolding roll-Stmt denote.Hole.Carrier.roll
stmt_code-repeat count block = stmt_code-roll (Stmt-F.Repeat count block)
