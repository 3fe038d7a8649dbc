-- How large expressions and bodies are, and the bounds that those of a program keep.
use Rattle.std.specs.Prelude.{ℕ, ◌+◌, ◌*◌, ◌≤◌, max, All, List, [], ◌∷◌, ◌++◌, Option, None, Some}
use Rattle.tdl_base.specs.declared.limits.TheConstants.{EXPRESSION_TOKENS, EXPRESSION_DEPTH, NESTED_BLOCKS, REPEAT, STEPS}
use Rattle.tdl_base.specs.Lists.{joined}
use Rattle.tdl_body.specs.declared.tree.Expr.{Expr}
use Rattle.tdl_body.specs.declared.tree.Expr.TheOpen.{Expr-F}
use Rattle.tdl_body.specs.declared.tree.Expr.TheFolds.{fold-Expr}
use Rattle.tdl_body.specs.declared.tree.Body.{Body}
use Rattle.tdl_body.specs.declared.tree.Stmt.TheOpen.{Stmt-F}
use Rattle.tdl_body.specs.declared.tree.Stmt.TheFolds.{fold-Body}

-- ---- expressions

-- the operators, constants and names of one node, given those of its operands
abbrev pub nodes_step : Expr-F ℕ → ℕ
nodes_step (Expr-F.Const v) = 1
nodes_step (Expr-F.Load place) = 1
nodes_step (Expr-F.Un op a) = a + 1
nodes_step (Expr-F.Bin op a b) = a + b + 1

-- how many nodes an expression has
unfoldable pub nodes_of : Expr → ℕ
nodes_of = fold-Expr ℕ nodes_step

-- a primary is 1 deep, an operator 1 deeper than its deepest operand
abbrev pub depth_step : Expr-F ℕ → ℕ
depth_step (Expr-F.Const v) = 1
depth_step (Expr-F.Load place) = 1
depth_step (Expr-F.Un op a) = a + 1
depth_step (Expr-F.Bin op a b) = max a b + 1

-- how deep an expression is
unfoldable pub depth_of : Expr → ℕ
depth_of = fold-Expr ℕ depth_step

-- ---- bodies

-- the number of a second block, 0 where it is absent
abbrev pub or_zero : Option ℕ → ℕ
or_zero None = 0
or_zero (Some n) = n

-- the greatest of some numbers, 0 of none
abbrev pub greatest : List ℕ → ℕ
greatest [] = 0
greatest (n ∷ ns) = max n (greatest ns)

-- the sum of some numbers
abbrev pub total : List ℕ → ℕ
total [] = 0
total (n ∷ ns) = n + total ns

-- the blocks of one statement that stand in one another, given those inside its blocks
abbrev pub levels_step : Stmt-F ℕ ℕ → ℕ
levels_step (Stmt-F.Assign k value) = 0
levels_step (Stmt-F.If test then' other) = max then' (or_zero other) + 1
levels_step (Stmt-F.Repeat count block) = block + 1

-- how many blocks of a body stand in one another
unfoldable pub levels_of : Body → ℕ
levels_of = fold-Body ℕ ℕ levels_step (λ block. greatest block.stmts)

-- an assignment is one step, an `if` one and those of both its blocks, a `repeat` one and its block's so many times
abbrev pub steps_step : Stmt-F ℕ ℕ → ℕ
steps_step (Stmt-F.Assign k value) = 1
steps_step (Stmt-F.If test then' other) = then' + or_zero other + 1
steps_step (Stmt-F.Repeat count block) = count * block + 1

-- how many steps a body has
unfoldable pub steps_of : Body → ℕ
steps_of = fold-Body ℕ ℕ steps_step (λ block. total block.stmts)

-- ---- what stands in a body

-- the items of a second block, none where it is absent
abbrev pub or_none : {A : Type 0} → Option (List A) → List A
or_none None = []
or_none (Some xs) = xs

-- the outermost expressions of one statement, given those of its blocks
abbrev pub exprs_step : Stmt-F (List Expr) (List Expr) → List Expr
exprs_step (Stmt-F.Assign k value) = value ∷ []
exprs_step (Stmt-F.If test then' other) = test ∷ then' ++ or_none other
exprs_step (Stmt-F.Repeat count block) = block

-- the outermost expressions of a body
unfoldable pub exprs_of : Body → List Expr
exprs_of = fold-Body (List Expr) (List Expr) exprs_step (λ block. joined block.stmts)

-- the counts of one statement's repetitions, given those of its blocks
abbrev pub counts_step : Stmt-F (List ℕ) (List ℕ) → List ℕ
counts_step (Stmt-F.Assign k value) = []
counts_step (Stmt-F.If test then' other) = then' ++ or_none other
counts_step (Stmt-F.Repeat count block) = count ∷ block

-- the counts of a body's repetitions
unfoldable pub counts_of : Body → List ℕ
counts_of = fold-Body (List ℕ) (List ℕ) counts_step (λ block. joined block.stmts)

-- the cells that one statement sets, given those that its blocks set
abbrev pub targets_step : Stmt-F (List ℕ) (List ℕ) → List ℕ
targets_step (Stmt-F.Assign k value) = k ∷ []
targets_step (Stmt-F.If test then' other) = then' ++ or_none other
targets_step (Stmt-F.Repeat count block) = block

-- the cells that a body sets
unfoldable pub targets_of : Body → List ℕ
targets_of = fold-Body (List ℕ) (List ℕ) targets_step (λ block. joined block.stmts)

-- ---- the bounds

-- an expression as a program has it: few nodes, and not deep
pub record IsBoundedExpr (e : Expr) : Type 0 where
  pub nodes : nodes_of e ≤ EXPRESSION_TOKENS
  pub depth : depth_of e ≤ EXPRESSION_DEPTH

-- a body as a program has it: such expressions, few blocks in one another, small counts, and not many steps
pub record IsBounded (b : Body) : Type 0 where
  pub exprs : All IsBoundedExpr (exprs_of b)
  pub levels : levels_of b ≤ NESTED_BLOCKS
  pub counts : All (λ n. n ≤ REPEAT) (counts_of b)
  pub steps : steps_of b ≤ STEPS
