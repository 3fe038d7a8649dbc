-- The logical rows of the three modules up to 10 us.
use Rattle.std.proofs.Common.{◌≡◌, ℕ, zero, suc, ◌<◌, ℤ, ◌+ℤ◌, int_lt, Bool, List, [], ◌∷◌, ◌++◌, take, drop, refl, ap, ◌∙◌, arith}
use Rattle.std.specs.Int.{int_wrap}
use Rattle.tdl_base.specs.declared.kinds.Kind.TheVariants.{Int}
use Rattle.tdl_base.specs.declared.numbers.Place.{Place}
use Rattle.tdl_base.specs.declared.numbers.Place.TheVariants.{Cell}
use Rattle.tdl_base.specs.declared.arithmetic.BinOp.TheVariants.{Add, Greater}
use Rattle.tdl_base.specs.Numbers.{narrowed, wrapped, truth}
use Rattle.tdl_body.specs.declared.tree.Expr.TheVariants as expr
use Rattle.tdl_body.specs.declared.tree.Stmt.TheVariants as stmt
use Rattle.tdl_body.specs.Values.{Look, read, value_of}
use Rattle.tdl_base.specs.Cells.{Cells, stored}
use Rattle.tdl_body.specs.Effects.{effect_of, look_of_cells}
use Rattle.tdl_body.proofs.Equations.{value_of-const, value_of-load, value_of-bin, effect_of-stmts, effect_of_stmt-assign}
use Rattle.tdl_mode.specs.States.{State, result_of}
use Rattle.tdl_mode.specs.Instants.{logical, begun, state_at}
use Rattle.tdl_trace.specs.Shown.{Shown}
use Rattle.tdl_deploy.specs.Rows.{first_rows, node_rows, for_nodes, rows_at, logical_rows}
use Rattle.tdl_meaning.specs.ExampleThree.{cell_sum, adding, three_modules, on_nodes, always_one, first_state, second_state, first_shown, second_shown}

-- ---- what the guards and the tasks do

-- a comparison of a place with a constant
value_of-above : (p : Place) (v : ℤ) (look : Look) →
    value_of (expr.Bin Greater (expr.Load p) (expr.Const v)) look ≡ wrapped (truth (int_lt v (read p look)))
value_of-above p v look =
    value_of-bin Greater (expr.Load p) (expr.Const v) look
    ∙ ap (λ (a : ℤ). wrapped (truth (int_lt a (value_of (expr.Load p) look)))) (value_of-const v look)
    ∙ ap (λ (a : ℤ). wrapped (truth (int_lt v a))) (value_of-load p look)

-- a comparison of a constant with a place
value_of-below : (p : Place) (v : ℤ) (look : Look) →
    value_of (expr.Bin Greater (expr.Const v) (expr.Load p)) look ≡ wrapped (truth (int_lt (read p look) v))
value_of-below p v look =
    value_of-bin Greater (expr.Const v) (expr.Load p) look
    ∙ ap (λ (a : ℤ). wrapped (truth (int_lt a (value_of (expr.Const v) look)))) (value_of-load p look)
    ∙ ap (λ (a : ℤ). wrapped (truth (int_lt (read p look) a))) (value_of-const v look)

-- the sum of the two cells
value_of-cell_sum : (look : Look) → value_of cell_sum look ≡ wrapped (look.cell 1 +ℤ look.cell 0)
value_of-cell_sum look =
    value_of-bin Add (expr.Load (Cell 1)) (expr.Load (Cell 0)) look
    ∙ ap (λ (v : ℤ). wrapped (v +ℤ value_of (expr.Load (Cell 0)) look)) (value_of-load (Cell 1) look)
    ∙ ap (λ (v : ℤ). wrapped (look.cell 1 +ℤ v)) (value_of-load (Cell 0) look)

-- the body sets cell 1 to that sum
done-adding : (cells : Cells) → effect_of (record { stmts = stmt.Assign 1 cell_sum ∷ [] }) cells ≡
    stored 1 (wrapped ((look_of_cells cells).cell 1 +ℤ (look_of_cells cells).cell 0)) cells
done-adding cells =
    effect_of-stmts (stmt.Assign 1 cell_sum ∷ []) cells
    ∙ effect_of_stmt-assign 1 cell_sum cells
    ∙ ap (λ (v : ℤ). stored 1 v cells) (value_of-cell_sum (look_of_cells cells))

-- the output after a job
result_of-adding : (name : List ℕ) (public : Bool) (worst : ℕ) (initial o a : ℤ) →
    result_of (adding name public worst initial) (a ∷ []) (o ∷ []) ≡ narrowed Int (wrapped (o +ℤ a)) ∷ []
unfolding result_of
result_of-adding name public worst initial o a =
    ap (λ (c : Cells). take 1 (drop 1 c.values)) (done-adding (record { kinds = Int ∷ Int ∷ []; values = a ∷ o ∷ [] }))

-- ---- states

-- at 0 us all three tasks are invoked
first_at : state_at three_modules always_one 0 ≡ first_state
unfolding state_at begun int_wrap
first_at = simp (value_of-below, value_of-load)

-- nothing happens before 10 us
rests : (x : ℕ) → x < 9 → logical (suc x) (always_one (suc x)) first_state ≡ first_state
unfolding logical
rests zero lt = refl
rests (suc zero) lt = refl
rests (suc (suc zero)) lt = refl
rests (suc (suc (suc zero))) lt = refl
rests (suc (suc (suc (suc zero)))) lt = refl
rests (suc (suc (suc (suc (suc zero))))) lt = refl
rests (suc (suc (suc (suc (suc (suc zero)))))) lt = refl
rests (suc (suc (suc (suc (suc (suc (suc zero))))))) lt = refl
rests (suc (suc (suc (suc (suc (suc (suc (suc zero)))))))) lt = refl
rests (suc (suc (suc (suc (suc (suc (suc (suc (suc x))))))))) lt = absurd (omega (arith, lt))

-- at 10 us two jobs end, the actuator is updated, the meter switches, and two jobs begin
turns : logical 10 (always_one 10) first_state ≡ second_state
unfolding logical int_wrap
turns = simp (result_of-adding, value_of-above, value_of-load)

-- ---- rows

-- the state and the rows up to an instant
abbrev Upto : ℕ → State → List Shown → Type 0
Upto x s rows =
    (state_at three_modules always_one x ≡ s) × (logical_rows three_modules on_nodes always_one x ≡ rows)

-- what the nodes show at the next instant
abbrev shown_next : ℕ → State → List Shown
shown_next x s = for_nodes (node_rows three_modules on_nodes (suc x) (always_one (suc x)) s) on_nodes

-- the state and the rows up to the next instant
upto_next : (x : ℕ) (s t : State) (rows more : List Shown) → Upto x s rows →
    logical (suc x) (always_one (suc x)) s ≡ t → shown_next x s ≡ more → Upto (suc x) t (rows ++ more)
unfolding state_at logical_rows rows_at
upto_next x s t rows more upto state shown = (
  ap (logical (suc x) (always_one (suc x))) upto.0 ∙ state,
  ap (λ (l : List Shown). l ++ rows_at three_modules on_nodes always_one (suc x)) upto.1
      ∙ ap (λ (a : State). rows ++ shown_next x a) upto.0
      ∙ ap (λ (l : List Shown). rows ++ l) shown,
)

-- at 0 us each node shows the modes of its modules
upto_first : Upto 0 first_state first_shown
unfolding logical_rows rows_at
upto_first = (first_at, ap (λ (s : State). for_nodes (first_rows on_nodes s) on_nodes) first_at)

-- nothing is shown before 10 us
quiet : (x : ℕ) → x < 9 → shown_next x first_state ≡ []
unfolding logical
quiet zero lt = refl
quiet (suc zero) lt = refl
quiet (suc (suc zero)) lt = refl
quiet (suc (suc (suc zero))) lt = refl
quiet (suc (suc (suc (suc zero)))) lt = refl
quiet (suc (suc (suc (suc (suc zero))))) lt = refl
quiet (suc (suc (suc (suc (suc (suc zero)))))) lt = refl
quiet (suc (suc (suc (suc (suc (suc (suc zero))))))) lt = refl
quiet (suc (suc (suc (suc (suc (suc (suc (suc zero)))))))) lt = refl
quiet (suc (suc (suc (suc (suc (suc (suc (suc (suc x))))))))) lt = absurd (omega (arith, lt))

-- so the rows up to 9 us are those at 0 us
upto_nine : (x : ℕ) → x < 10 → Upto x first_state first_shown
upto_nine zero lt = upto_first
upto_nine (suc x) lt =
    upto_next x first_state first_state first_shown []
    (upto_nine x (omega (arith, lt))) (rests x (omega (arith, lt))) (quiet x (omega (arith, lt)))

-- the rows at 10 us
shown_at_ten : shown_next 9 first_state ≡ second_shown
unfolding int_wrap
shown_at_ten = rw turns (simp (result_of-adding, value_of-above, value_of-load))

-- the rows up to 10 us
pub three_rows : logical_rows three_modules on_nodes always_one 10 ≡ first_shown ++ second_shown
three_rows =
    (upto_next 9 first_state second_state first_shown second_shown (upto_nine 9 (omega arith)) turns shown_at_ten).1
