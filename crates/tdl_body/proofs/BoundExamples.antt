-- How large two small bodies are, and that they keep the bounds of a program's.
use Rattle.std.proofs.Common.{◌≡◌, ℤ, pos, ◌+◌, ◌*◌, ◌≤◌, max, All, [], ◌∷◌, ◌++◌, Some, ap, ap₂, ◌∙◌, sym, subst, arith}
use Rattle.std.proofs.lemmas.List.Elements.{All-from_recursion}
use Rattle.tdl_base.specs.declared.arithmetic.BinOp.TheVariants.{Add, Greater}
use Rattle.tdl_base.specs.declared.limits.TheConstants.{REPEAT}
use Rattle.tdl_base.specs.declared.numbers.Place.TheVariants.{Cell}
use Rattle.tdl_body.specs.declared.tree.Body.{Body}
use Rattle.tdl_body.specs.declared.tree.Expr.{Expr}
use Rattle.tdl_body.specs.declared.tree.Expr.TheVariants as expr
use Rattle.tdl_body.specs.declared.tree.Stmt.TheVariants as stmt
use Rattle.tdl_body.specs.declared.tree.Stmt.TheOpen.{Stmt-F}
use Rattle.tdl_body.specs.declared.tree.Stmt.TheViews.{roll-Stmt}
use Rattle.tdl_body.specs.Bounds.{nodes_of, depth_of, levels_of, steps_of, exprs_of, counts_of, targets_of, IsBoundedExpr, IsBounded}
use Rattle.tdl_body.specs.Examples.{minus, choice, adds, adds_thrice}
use Rattle.tdl_body.proofs.BoundEquations.{nodes_of-const, nodes_of-load, nodes_of-un, nodes_of-bin, depth_of-const, depth_of-load, depth_of-un, depth_of-bin, levels_of-stmts, levels_of_stmt-roll, steps_of-stmts, steps_of_stmt-roll, exprs_of-stmts, exprs_of_stmt-roll, counts_of-stmts, counts_of_stmt-roll, targets_of-stmts, targets_of_stmt-roll}

-- a > 0
abbrev above : Expr
above = expr.Bin Greater (expr.Load (Cell 0)) (expr.Const (pos 0))

-- o + a
abbrev sum : Expr
sum = expr.Bin Add (expr.Load (Cell 1)) (expr.Load (Cell 0))

-- ---- expressions

-- an operator over two primaries has three nodes, and is two deep
nodes-above : nodes_of above ≡ 3
nodes-above = rw (nodes_of-bin, nodes_of-load, nodes_of-const)

-- and is two deep
depth-above : depth_of above ≡ 2
depth-above = rw (depth_of-bin, depth_of-load, depth_of-const)

-- so has a sum
nodes-sum : nodes_of sum ≡ 3
nodes-sum = simp (nodes_of-bin, nodes_of-load)

-- and it is two deep
depth-sum : depth_of sum ≡ 2
depth-sum = simp (depth_of-bin, depth_of-load)

-- ---- o := e;

-- the cell o takes a number
abbrev assigns : Expr → Body
assigns e = record { stmts = stmt.Assign 1 e ∷ [] }

-- the blocks in one another of an assignment
levels-assigns : (e : Expr) → levels_of (assigns e) ≡ 0
unfolding roll-Stmt denote.Hole.Carrier.roll
levels-assigns e = levels_of-stmts (stmt.Assign 1 e ∷ []) ∙ ap (λ n. max n 0) (levels_of_stmt-roll (Stmt-F.Assign 1 e))

-- the steps of an assignment
steps-assigns : (e : Expr) → steps_of (assigns e) ≡ 1
unfolding roll-Stmt denote.Hole.Carrier.roll
steps-assigns e = steps_of-stmts (stmt.Assign 1 e ∷ []) ∙ ap (λ n. n + 0) (steps_of_stmt-roll (Stmt-F.Assign 1 e))

-- the expressions of an assignment
exprs-assigns : (e : Expr) → exprs_of (assigns e) ≡ e ∷ []
unfolding roll-Stmt denote.Hole.Carrier.roll
exprs-assigns e = exprs_of-stmts (stmt.Assign 1 e ∷ []) ∙ ap (λ es. es ++ []) (exprs_of_stmt-roll (Stmt-F.Assign 1 e))

-- the counts of an assignment
counts-assigns : (e : Expr) → counts_of (assigns e) ≡ []
unfolding roll-Stmt denote.Hole.Carrier.roll
counts-assigns e =
    counts_of-stmts (stmt.Assign 1 e ∷ []) ∙ ap (λ ns. ns ++ []) (counts_of_stmt-roll (Stmt-F.Assign 1 e))

-- the cells that are set of an assignment
targets-assigns : (e : Expr) → targets_of (assigns e) ≡ 1 ∷ []
unfolding roll-Stmt denote.Hole.Carrier.roll
targets-assigns e =
    targets_of-stmts (stmt.Assign 1 e ∷ []) ∙ ap (λ ns. ns ++ []) (targets_of_stmt-roll (Stmt-F.Assign 1 e))

-- ---- if a > 0 { o := 1; } else { o := 2; }

-- the two assigned numbers
abbrev one : Expr
one = expr.Const (pos 1)

abbrev two : Expr
two = expr.Const (pos 2)

-- the blocks in one another of the choice
levels-choice : levels_of choice ≡ 1
unfolding roll-Stmt denote.Hole.Carrier.roll
levels-choice =
    levels_of-stmts choice.stmts
    ∙ ap (λ n. max n 0) (levels_of_stmt-roll (Stmt-F.If above (assigns one) (Some (assigns two)))
    ∙ ap₂ (λ m n. max m n + 1) (levels-assigns one) (levels-assigns two))

-- the steps of the choice
steps-choice : steps_of choice ≡ 3
unfolding roll-Stmt denote.Hole.Carrier.roll
steps-choice =
    steps_of-stmts choice.stmts
    ∙ ap (λ n. n + 0) (steps_of_stmt-roll (Stmt-F.If above (assigns one) (Some (assigns two)))
    ∙ ap₂ (λ m n. m + n + 1) (steps-assigns one) (steps-assigns two))

-- the expressions of the choice
exprs-choice : exprs_of choice ≡ above ∷ one ∷ two ∷ []
unfolding roll-Stmt denote.Hole.Carrier.roll
exprs-choice =
    exprs_of-stmts choice.stmts
    ∙ ap (λ es. es ++ []) (exprs_of_stmt-roll (Stmt-F.If above (assigns one) (Some (assigns two)))
    ∙ ap₂ (λ es fs. above ∷ es ++ fs) (exprs-assigns one) (exprs-assigns two))

-- the counts of the choice
counts-choice : counts_of choice ≡ []
unfolding roll-Stmt denote.Hole.Carrier.roll
counts-choice =
    counts_of-stmts choice.stmts
    ∙ ap (λ ns. ns ++ []) (counts_of_stmt-roll (Stmt-F.If above (assigns one) (Some (assigns two)))
    ∙ ap₂ (λ ms ns. ms ++ ns) (counts-assigns one) (counts-assigns two))

-- the cells that are set of the choice
targets-choice : targets_of choice ≡ 1 ∷ 1 ∷ []
unfolding roll-Stmt denote.Hole.Carrier.roll
targets-choice =
    targets_of-stmts choice.stmts
    ∙ ap (λ ns. ns ++ []) (targets_of_stmt-roll (Stmt-F.If above (assigns one) (Some (assigns two)))
    ∙ ap₂ (λ ms ns. ms ++ ns) (targets-assigns one) (targets-assigns two))

-- ---- repeat 3 { o := o + a; }

-- the blocks in one another of the repetition
levels-thrice : levels_of adds_thrice ≡ 1
unfolding roll-Stmt denote.Hole.Carrier.roll
levels-thrice =
    levels_of-stmts adds_thrice.stmts
    ∙ ap (λ n. max n 0) (levels_of_stmt-roll (Stmt-F.Repeat 3 adds) ∙ ap (λ n. n + 1) (levels-assigns sum))

-- the steps of the repetition
steps-thrice : steps_of adds_thrice ≡ 4
unfolding roll-Stmt denote.Hole.Carrier.roll
steps-thrice =
    steps_of-stmts adds_thrice.stmts
    ∙ ap (λ n. n + 0) (steps_of_stmt-roll (Stmt-F.Repeat 3 adds) ∙ ap (λ n. 3 * n + 1) (steps-assigns sum))

-- the expressions of the repetition
exprs-thrice : exprs_of adds_thrice ≡ sum ∷ []
unfolding roll-Stmt denote.Hole.Carrier.roll
exprs-thrice =
    exprs_of-stmts adds_thrice.stmts
    ∙ ap (λ es. es ++ []) (exprs_of_stmt-roll (Stmt-F.Repeat 3 adds) ∙ ap (λ es. es) (exprs-assigns sum))

-- the counts of the repetition
counts-thrice : counts_of adds_thrice ≡ 3 ∷ []
unfolding roll-Stmt denote.Hole.Carrier.roll
counts-thrice =
    counts_of-stmts adds_thrice.stmts
    ∙ ap (λ ns. ns ++ []) (counts_of_stmt-roll (Stmt-F.Repeat 3 adds) ∙ ap (λ ns. 3 ∷ ns) (counts-assigns sum))

-- the cells that are set of the repetition
targets-thrice : targets_of adds_thrice ≡ 1 ∷ []
unfolding roll-Stmt denote.Hole.Carrier.roll
targets-thrice =
    targets_of-stmts adds_thrice.stmts
    ∙ ap (λ ns. ns ++ []) (targets_of_stmt-roll (Stmt-F.Repeat 3 adds) ∙ ap (λ ns. ns) (targets-assigns sum))

-- ---- the bounds

-- primaries and sums keep the bounds of an expression
bounded-const : (v : ℤ) → IsBoundedExpr (expr.Const v)
bounded-const v = record { nodes = omega (arith, nodes_of-const v); depth = omega (arith, depth_of-const v) }

-- so does a > 0
bounded-above : IsBoundedExpr above
bounded-above = record { nodes = omega (arith, nodes-above); depth = omega (arith, depth-above) }

-- so does o + a
bounded-sum : IsBoundedExpr sum
bounded-sum = record { nodes = omega (arith, nodes-sum); depth = omega (arith, depth-sum) }

-- so does an operator over one primary
pub bounded-minus : IsBoundedExpr minus
bounded-minus = record {
  nodes = let e : nodes_of minus ≡ 2 = rw (nodes_of-un, nodes_of-load) in omega (arith, e);
  depth = let e : depth_of minus ≡ 2 = rw (depth_of-un, depth_of-load) in omega (arith, e);
}

-- the choice keeps the bounds of a body
pub bounded-choice : IsBounded choice
bounded-choice = record {
  exprs =
      subst (All IsBoundedExpr) (sym exprs-choice)
      (All-from_recursion IsBoundedExpr (above ∷ one ∷ two ∷ [])
      (bounded-above, (bounded-const (pos 1), (bounded-const (pos 2), tt))));
  levels = omega (arith, levels-choice);
  counts = subst (All (λ n. n ≤ REPEAT)) (sym counts-choice) (All-from_recursion (λ n. n ≤ REPEAT) [] tt);
  steps = omega (arith, steps-choice);
}

-- so does the repetition
pub bounded-thrice : IsBounded adds_thrice
bounded-thrice = record {
  exprs =
      subst (All IsBoundedExpr) (sym exprs-thrice) (All-from_recursion IsBoundedExpr (sum ∷ []) (bounded-sum, tt));
  levels = omega (arith, levels-thrice);
  counts =
      subst (All (λ n. n ≤ REPEAT)) (sym counts-thrice)
      (All-from_recursion (λ n. n ≤ REPEAT) (3 ∷ []) (omega arith, tt));
  steps = omega (arith, steps-thrice);
}
