-- What `if` and `repeat` do: their equations, and small bodies whose cells are counted out.
use Rattle.std.proofs.Common.{◌≡◌, ℕ, ℤ, pos, [], ◌∷◌, Some, None, if◌then◌else◌, refl, ap}
use Rattle.std.specs.Int.{int_wrap}
use Rattle.tdl_base.specs.declared.kinds.Kind.TheVariants.{Int}
use Rattle.tdl_base.specs.declared.numbers.Place.TheVariants.{Cell}
use Rattle.tdl_base.specs.Numbers.{is_true}
use Rattle.tdl_body.specs.declared.tree.Body.{Body}
use Rattle.tdl_body.specs.declared.tree.Expr.{Expr}
use Rattle.tdl_body.specs.declared.tree.Expr.TheVariants as expr
use Rattle.tdl_body.specs.declared.tree.Stmt.TheVariants as stmt
use Rattle.tdl_body.specs.declared.tree.Stmt.TheOpen.{Stmt-F}
use Rattle.tdl_body.specs.declared.tree.Stmt.TheViews.{roll-Stmt}
use Rattle.tdl_body.specs.Values.{value_of}
use Rattle.tdl_body.specs.Examples.{sets, adds_thrice}
use Rattle.tdl_base.specs.Cells.{Cells, repeated}
use Rattle.tdl_body.specs.Effects.{effect_of, look_of_cells}
use Rattle.tdl_body.proofs.Equations.{Effect, effect_of_stmt, effect_of_stmt-roll, effect_of_stmt-assign, effect_of-stmts, value_of-const, value_of-load, value_of-bin}

-- ---- the equations

-- what an `if` with an `else` does
pub done_one-if_else : (test : Expr) (then' other : Body) (cells : Cells) →
    effect_of_stmt (stmt.If test then' (Some other)) cells
    ≡ (if is_true (value_of test (look_of_cells cells)) then effect_of then' cells else effect_of other cells)
unfolding roll-Stmt denote.Hole.Carrier.roll
done_one-if_else test then' other cells =
    ap (λ (f : Effect). f cells) (effect_of_stmt-roll (Stmt-F.If test then' (Some other)))

-- what an `if` without an `else` does
pub done_one-if : (test : Expr) (then' : Body) (cells : Cells) →
    effect_of_stmt (stmt.If test then' None) cells
    ≡ (if is_true (value_of test (look_of_cells cells)) then effect_of then' cells else cells)
unfolding roll-Stmt denote.Hole.Carrier.roll
done_one-if test then' cells = ap (λ (f : Effect). f cells) (effect_of_stmt-roll (Stmt-F.If test then' None))

-- what a `repeat` does
pub done_one-repeat : (n : ℕ) (block : Body) (cells : Cells) →
    effect_of_stmt (stmt.Repeat n block) cells ≡ repeated n (effect_of block) cells
unfolding roll-Stmt denote.Hole.Carrier.roll
done_one-repeat n block cells = ap (λ (f : Effect). f cells) (effect_of_stmt-roll (Stmt-F.Repeat n block))

-- ---- bodies counted out

-- a and o, cells 0 and 1, of the kind `int`
abbrev cells_of : ℤ → ℤ → Cells
cells_of a o = record { kinds = Int ∷ Int ∷ []; values = a ∷ o ∷ [] }

-- if a { o := 1; } else { o := 2; }
abbrev chooses : Body
chooses = record { stmts = stmt.If (expr.Load (Cell 0)) (sets (pos 1)) (Some (sets (pos 2))) ∷ [] }

-- if a { o := 1; }
abbrev sets_one : Body
sets_one = record { stmts = stmt.If (expr.Load (Cell 0)) (sets (pos 1)) None ∷ [] }

-- an `if` whose number is not 0 does its first block
done-then : effect_of chooses (cells_of (pos 5) (pos 7)) ≡ cells_of (pos 5) (pos 1)
unfolding int_wrap
done-then =
    rw (effect_of-stmts, done_one-if_else, value_of-load, effect_of-stmts, effect_of_stmt-assign, value_of-const) refl

-- one whose number is 0 does its `else`
done-else : effect_of chooses (cells_of (pos 0) (pos 7)) ≡ cells_of (pos 0) (pos 2)
unfolding int_wrap
done-else =
    rw (effect_of-stmts, done_one-if_else, value_of-load, effect_of-stmts, effect_of_stmt-assign, value_of-const) refl

-- where it has none, nothing is done
done-no_else : effect_of sets_one (cells_of (pos 0) (pos 7)) ≡ cells_of (pos 0) (pos 7)
unfolding int_wrap
done-no_else = rw (effect_of-stmts, done_one-if, value_of-load) refl

-- a block that is repeated three times adds three times
done-repeat : effect_of adds_thrice (cells_of (pos 5) (pos 7)) ≡ cells_of (pos 5) (pos 22)
unfolding int_wrap
done-repeat =
    simp (effect_of-stmts, done_one-repeat, effect_of_stmt-assign, value_of-bin, value_of-load)
