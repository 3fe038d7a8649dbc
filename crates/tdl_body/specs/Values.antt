-- The number of an expression.
use Rattle.std.specs.Prelude.{ℕ, ℤ, Bool, true, Option, Some, None}
use Rattle.tdl_base.specs.declared.numbers.PortKey.{PortKey}
use Rattle.tdl_base.specs.declared.numbers.Place.{Place}
use Rattle.tdl_base.specs.declared.numbers.Place.TheVariants.{Sensor, Port, Cell}
use Rattle.tdl_base.specs.Numbers.{unary, binary, is_true}
use Rattle.tdl_body.specs.declared.tree.Expr.{Expr}
use Rattle.tdl_body.specs.declared.tree.Expr.TheOpen.{Expr-F}
use Rattle.tdl_body.specs.declared.tree.Expr.TheFolds.{fold-Expr}

-- what an expression may read: the cells of a job, the sensors of its module, and outputs
pub record Look : Type 0 where
  pub cell : ℕ → ℤ
  pub sensor : ℕ → ℤ
  pub port : PortKey → ℤ

-- the number at a place
abbrev pub read : Place → Look → ℤ
read (Sensor k) look = look.sensor k
read (Port key) look = look.port key
read (Cell k) look = look.cell k

-- the number of one node of an expression, given those of its operands
abbrev pub expr_step : Expr-F (Look → ℤ) → Look → ℤ
expr_step (Expr-F.Const v) look = v
expr_step (Expr-F.Load place) look = read place look
expr_step (Expr-F.Un op a) look = unary op (a look)
expr_step (Expr-F.Bin op a b) look = binary op (a look) (b look)

-- the number of an expression
unfoldable pub value_of : Expr → Look → ℤ
value_of = fold-Expr (Look → ℤ) expr_step

-- a guard holds where its number is not 0; an absent guard holds
abbrev pub holds : Option Expr → Look → Bool
holds None look = true
holds (Some guard) look = is_true (value_of guard look)
