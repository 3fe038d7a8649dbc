-- A small expression, and small bodies over an input `a` that is cell 0 and an output `o` that is cell 1.
use Rattle.std.specs.Prelude.{ℤ, pos, [], ◌∷◌, Some}
use Rattle.tdl_base.specs.declared.arithmetic.UnOp.TheVariants.{Neg}
use Rattle.tdl_base.specs.declared.arithmetic.BinOp.TheVariants.{Add, Greater}
use Rattle.tdl_base.specs.declared.numbers.Place.TheVariants.{Sensor, Cell}
use Rattle.tdl_body.specs.declared.tree.Body.{Body}
use Rattle.tdl_body.specs.declared.tree.Expr.{Expr}
use Rattle.tdl_body.specs.declared.tree.Expr.TheVariants as expr
use Rattle.tdl_body.specs.declared.tree.Stmt.TheVariants as stmt

-- -r, where `r` is sensor 0
abbrev pub minus : Expr
minus = expr.Un Neg (expr.Load (Sensor 0))

-- o := v;
abbrev pub sets : ℤ → Body
sets v = record { stmts = stmt.Assign 1 (expr.Const v) ∷ [] }

-- if a > 0 { o := 1; } else { o := 2; }
abbrev pub choice : Body
choice = record {
  stmts =
      stmt.If (expr.Bin Greater (expr.Load (Cell 0)) (expr.Const (pos 0))) (sets (pos 1)) (Some (sets (pos 2))) ∷ [];
}

-- o := o + a;
abbrev pub adds : Body
adds = record { stmts = stmt.Assign 1 (expr.Bin Add (expr.Load (Cell 1)) (expr.Load (Cell 0))) ∷ [] }

-- repeat 3 { o := o + a; }
abbrev pub adds_thrice : Body
adds_thrice = record { stmts = stmt.Repeat 3 adds ∷ [] }
