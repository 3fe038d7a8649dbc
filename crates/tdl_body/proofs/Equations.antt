-- What expressions, statements and blocks mean, from what their parts mean: each fold at its outermost node.
use Rattle.std.proofs.Common.{◌≡◌, ℕ, ℤ, List, map, ap}
use Rattle.tdl_base.specs.declared.numbers.Place.{Place}
use Rattle.tdl_base.specs.declared.arithmetic.BinOp.{BinOp}
use Rattle.tdl_base.specs.Numbers.{binary}
use Rattle.tdl_body.specs.declared.tree.Body.{Body}
use Rattle.tdl_body.specs.declared.tree.Expr.{Expr}
use Rattle.tdl_body.specs.declared.tree.Expr.TheVariants as expr
use Rattle.tdl_body.specs.declared.tree.Expr.TheOpen.{Expr-F}
use Rattle.tdl_body.specs.declared.tree.Expr.TheViews.{roll-Expr}
use Rattle.tdl_body.specs.declared.tree.Expr.TheFolds.{fold-roll-Expr, map-Expr}
use Rattle.tdl_body.specs.declared.tree.Stmt.{Stmt}
use Rattle.tdl_body.specs.declared.tree.Stmt.TheVariants as stmt
use Rattle.tdl_body.specs.declared.tree.Stmt.TheOpen.{Stmt-F, Body-F}
use Rattle.tdl_body.specs.declared.tree.Stmt.TheViews.{roll-Body, roll-Stmt}
use Rattle.tdl_body.specs.declared.tree.Stmt.TheFolds.{fold-roll-Body, fold-roll-Stmt, fold-Stmt, map-Stmt, map-Body}
use Rattle.tdl_body.specs.Values.{Look, read, value_of, expr_step}
use Rattle.tdl_body.specs.Places.{places_of, places_step}
use Rattle.tdl_base.specs.Cells.{Cells, stored}
use Rattle.tdl_body.specs.Effects.{effect_of, in_turn, look_of_cells, stmt_step, block_step}

-- ---- expressions

-- the number of an expression, from those of its operands
pub value_of-roll : (node : Expr-F Expr) →
    value_of (roll-Expr node) ≡ expr_step (map-Expr Expr (Look → ℤ) value_of node)
unfolding value_of
value_of-roll node = fold-roll-Expr (Look → ℤ) expr_step node

-- the places that an expression reads, from those of its operands
pub places_of-roll : (node : Expr-F Expr) →
    places_of (roll-Expr node) ≡ places_step (map-Expr Expr (List Place) places_of node)
unfolding places_of
places_of-roll node = fold-roll-Expr (List Place) places_step node

-- the number of a constant
pub value_of-const : (v : ℤ) (look : Look) → value_of (expr.Const v) look ≡ v
unfolding roll-Expr denote.Hole.Carrier.roll
value_of-const v look = ap (λ (f : Look → ℤ). f look) (value_of-roll (Expr-F.Const v))

-- the number of what is read at a place
pub value_of-load : (p : Place) (look : Look) → value_of (expr.Load p) look ≡ read p look
unfolding roll-Expr denote.Hole.Carrier.roll
value_of-load p look = ap (λ (f : Look → ℤ). f look) (value_of-roll (Expr-F.Load p))

-- the number of an operator over two operands
pub value_of-bin : (op : BinOp) (a b : Expr) (look : Look) →
    value_of (expr.Bin op a b) look ≡ binary op (value_of a look) (value_of b look)
unfolding roll-Expr denote.Hole.Carrier.roll
value_of-bin op a b look = ap (λ (f : Look → ℤ). f look) (value_of-roll (Expr-F.Bin op a b))

-- ---- statements and blocks

-- what a statement or a block does to the cells
abbrev pub Effect : Type 0
Effect = Cells → Cells

-- what one statement does
unfoldable pub effect_of_stmt : Stmt → Effect
effect_of_stmt = fold-Stmt Effect Effect stmt_step block_step

-- what a statement does, from what its blocks do
pub effect_of_stmt-roll : (node : Stmt-F Stmt Body) →
    effect_of_stmt (roll-Stmt node) ≡ stmt_step (map-Stmt Stmt Body Effect Effect effect_of_stmt effect_of node)
unfolding effect_of_stmt effect_of
effect_of_stmt-roll node = fold-roll-Stmt Effect Effect stmt_step block_step node

-- what a block does, from what its statements do
pub effect_of-roll : (node : Body-F Stmt Body) →
    effect_of (roll-Body node) ≡ block_step (map-Body Stmt Body Effect Effect effect_of_stmt effect_of node)
unfolding effect_of_stmt effect_of
effect_of-roll node = fold-roll-Body Effect Effect stmt_step block_step node

-- what a body does is what its statements do in turn
pub effect_of-stmts : (stmts : List Stmt) (cells : Cells) →
    effect_of (record { stmts = stmts }) cells ≡ in_turn (map effect_of_stmt stmts) cells
unfolding denote.Hole.Carrier.roll
effect_of-stmts stmts cells = ap (λ (f : Effect). f cells) (effect_of-roll (record { stmts = stmts }))

-- what an assignment does
pub effect_of_stmt-assign : (k : ℕ) (e : Expr) (cells : Cells) →
    effect_of_stmt (stmt.Assign k e) cells ≡ stored k (value_of e (look_of_cells cells)) cells
unfolding roll-Stmt denote.Hole.Carrier.roll
effect_of_stmt-assign k e cells = ap (λ (f : Effect). f cells) (effect_of_stmt-roll (Stmt-F.Assign k e))
