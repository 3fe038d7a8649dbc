-- What a statement does to cells, by the parts that are done.
use Rattle.std.proofs.Common.{◌≡◌, ℕ, ℤ, List, map, Bool, true, false, if◌then◌else◌, Option, Some, None, ap, sym, ◌∙◌, w64, FitsSigned}
use Rattle.std.specs.Prelude.{option_map}
use Rattle.std.proofs.lemmas.Int.{to_z-of_z}
use Rattle.tdl_base.specs.Numbers.{is_true}
use Rattle.tdl_base.specs.Cells.{Cells, stored, repeated}
use Rattle.tdl_body.specs.declared.tree.Body.{Body}
use Rattle.tdl_body.specs.declared.tree.Expr.{Expr}
use Rattle.tdl_body.specs.declared.tree.Stmt.{Stmt}
use Rattle.tdl_body.specs.declared.tree.Stmt.TheVariants as stmt
use Rattle.tdl_body.specs.Values.{value_of}
use Rattle.tdl_body.specs.Effects.{effect_of, in_turn, or_nothing, look_of_cells}
use Rattle.tdl_body.proofs.Equations.{effect_of_stmt, effect_of_stmt-assign, effect_of-stmts}
use Rattle.tdl_body.proofs.StatementExamples.{done_one-if, done_one-if_else, done_one-repeat}
use Rattle.tdl_eval.proofs.Valued.{kept}

-- what the statements of a body do in turn is what it does
pub done-items : (b : Body) (items : List Stmt) (cells : Cells) → items ≡ b.stmts →
    in_turn (map effect_of_stmt items) cells ≡ effect_of b cells
done-items b items cells same =
    ap (λ (ss : List Stmt). in_turn (map effect_of_stmt ss) cells) same ∙ sym (effect_of-stmts b.stmts cells)

-- what an `if` does, whether it has an `else` or not
effect_of_stmt-if : (test : Expr) (first : Body) (other : Option Body) (cells : Cells) →
    effect_of_stmt (stmt.If test first other) cells
    ≡ (if is_true (value_of test (look_of_cells cells)) then effect_of first cells else
    or_nothing (option_map effect_of other) cells)
effect_of_stmt-if test first None cells = done_one-if test first cells
effect_of_stmt-if test first (Some second) cells = done_one-if_else test first second cells

-- what a node does is what the statement does that is the node
node_done : (s node : Stmt) (cells new done : Cells) → s ≡ node → effect_of_stmt node cells ≡ done → new ≡ done →
    new ≡ effect_of_stmt s cells
node_done s node cells new done is does same = same ∙ sym (ap (λ (x : Stmt). effect_of_stmt x cells) is ∙ does)

-- a number that was computed is stored
pub assign_done : (s : Stmt) (k : ℕ) (e : Expr) (v : ℤ) (cells new : Cells) → FitsSigned w64 v → s ≡ stmt.Assign k e →
    v ≡ value_of e (look_of_cells cells) → new ≡ stored k (kept v) cells → new ≡ effect_of_stmt s cells
assign_done s k e v cells new fits is has put =
    node_done s (stmt.Assign k e) cells new (stored k (value_of e (look_of_cells cells)) cells) is
    (effect_of_stmt-assign k e cells) (put ∙ ap (λ w. stored k w cells) (to_z-of_z w64 v fits ∙ has))

-- the condition holds, and the first block is done
pub then_done : (s : Stmt) (test : Expr) (first : Body) (other : Option Body) (holds : Bool) (cells new : Cells) →
    s ≡ stmt.If test first other → holds ≡ is_true (value_of test (look_of_cells cells)) → holds ≡ true →
    new ≡ effect_of first cells → new ≡ effect_of_stmt s cells
then_done s test first other holds cells new is tested true_is =
    node_done s (stmt.If test first other) cells new (effect_of first cells) is
    (effect_of_stmt-if test first other cells
    ∙ ap (λ t. if t then effect_of first cells else or_nothing (option_map effect_of other) cells)
    (sym tested ∙ true_is))

-- the condition does not hold, and the second block is done where there is one
pub else_done : (s : Stmt) (test : Expr) (first : Body) (other known : Option Body) (holds : Bool)
    (cells new : Cells) → s ≡ stmt.If test first other → other ≡ known →
    holds ≡ is_true (value_of test (look_of_cells cells)) → holds ≡ false →
    new ≡ or_nothing (option_map effect_of known) cells → new ≡ effect_of_stmt s cells
else_done s test first other known holds cells new is same tested false_is =
    node_done s (stmt.If test first known) cells new (or_nothing (option_map effect_of known) cells)
    (is ∙ ap (stmt.If test first) same)
    (effect_of_stmt-if test first known cells
    ∙ ap (λ t. if t then effect_of first cells else or_nothing (option_map effect_of known) cells)
    (sym tested ∙ false_is))

-- the block is done as often as the `repeat` says
pub repeat_done : (s : Stmt) (n k : ℕ) (block : Body) (cells new : Cells) → s ≡ stmt.Repeat n block → k ≡ n →
    new ≡ repeated k (effect_of block) cells → new ≡ effect_of_stmt s cells
repeat_done s n k block cells new is times done =
    node_done s (stmt.Repeat n block) cells new (repeated n (effect_of block) cells) is
    (done_one-repeat n block cells) (done ∙ ap (λ m. repeated m (effect_of block) cells) times)
