-- The code of an expression and of a body.
use Rattle.std.specs.Prelude.{◌+◌, List, [], ◌∷◌, ◌++◌, length, Option, Some, None}
use Rattle.tdl_base.specs.Lists.{joined}
use Rattle.tdl_body.specs.declared.tree.Expr.{Expr}
use Rattle.tdl_body.specs.declared.tree.Expr.TheOpen.{Expr-F}
use Rattle.tdl_body.specs.declared.tree.Expr.TheFolds.{fold-Expr}
use Rattle.tdl_body.specs.declared.tree.Body.{Body}
use Rattle.tdl_body.specs.declared.tree.Stmt.{Stmt}
use Rattle.tdl_body.specs.declared.tree.Stmt.TheOpen.{Stmt-F, Body-F}
use Rattle.tdl_body.specs.declared.tree.Stmt.TheFolds.{fold-Body, fold-Stmt}
use Rattle.tdl_stack.specs.declared.instr.Instr.{Instr}
use Rattle.tdl_stack.specs.declared.instr.Instr.TheVariants as instr

-- instructions one after the other
abbrev pub Instructions : Type 0
Instructions = List Instr

-- operands from left to right, then the operator
abbrev pub expr_template : Expr-F Instructions → Instructions
expr_template (Expr-F.Const v) = instr.Const v ∷ []
expr_template (Expr-F.Load place) = instr.Load place ∷ []
expr_template (Expr-F.Un op a) = a ++ instr.Un op ∷ []
expr_template (Expr-F.Bin op a b) = a ++ b ++ instr.Bin op ∷ []

-- the code of an expression
unfoldable pub expr_code : Expr → Instructions
expr_code = fold-Expr Instructions expr_template

-- the code of a condition with one block or two
abbrev pub if_code : Instructions → Instructions → Option Instructions → Instructions
if_code test first None = test ++ instr.Jz (length first) ∷ first
if_code test first (Some other) = test ++ instr.Jz (length first + 1) ∷ first ++ instr.Jmp (length other) ∷ other

-- the code of one statement, given that of its blocks
abbrev pub stmt_template : Stmt-F Instructions Instructions → Instructions
stmt_template (Stmt-F.Assign k value) = expr_code value ++ instr.Store k ∷ []
stmt_template (Stmt-F.If test then' other) = if_code (expr_code test) then' other
stmt_template (Stmt-F.Repeat count block) = instr.Rep count (length block) ∷ block

-- the code of a block, given that of its statements
abbrev pub block_template : Body-F Instructions Instructions → Instructions
block_template block = joined block.stmts

-- the code of a statement
unfoldable pub stmt_code : Stmt → Instructions
stmt_code = fold-Stmt Instructions Instructions stmt_template block_template

-- the code of a body
unfoldable pub body_code : Body → Instructions
body_code = fold-Body Instructions Instructions stmt_template block_template
