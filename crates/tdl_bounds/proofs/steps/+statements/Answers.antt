-- By the statement.
use Rattle.std.proofs.Common.{◌≡◌, ℕ, ◌+◌, ◌*◌, min, map, Option, List, ap, ap₂, sym, ◌∙◌, arith}
use Rattle.tdl_base.specs.declared.limits.TheConstants.{STEPS}
use Rattle.tdl_tree.specs.declared.statements.StmtTree.{StmtTree}
use Rattle.tdl_tree.specs.declared.statements.StmtTree.TheVariants as stmt
use Rattle.tdl_rules.specs.Lists.{total}
use Rattle.tdl_rules.specs.Trees.{steps}
use Rattle.tdl_rules.proofs.Equations.{steps-assign, steps-if, steps-if_else, steps-repeat}
use Rattle.tdl_bounds.proofs.Capping.{capped-one, capped-two, capped-turns}
use Rattle.tdl_bounds.proofs.steps.+statements.Goals as goal

pub steps_of-returns-in-Assign : goal.steps_of-returns-in-Assign
steps_of-returns-in-Assign t c =
    ap (λ (n : ℕ). min n (STEPS + 1))
    (sym (ap steps c.in-Assign.is ∙ steps-assign c.in-Assign.target c.in-Assign.value))

pub steps_of-returns-in-None : goal.steps_of-returns-in-None
steps_of-returns-in-None t c =
    let first = total (map steps c.in-If.then) in
    let all : steps c.args.statement.now ≡ 1 + first + 0 =
    ap steps (c.in-If.is ∙ ap (λ (z : Option (List StmtTree)). stmt.If c.in-If.cond c.in-If.then z) c.in-None.is)
    ∙ steps-if c.in-If.cond c.in-If.then in
    c.capped.ensures
    ∙ ap (λ (n : ℕ). min (1 + n) (STEPS + 1))
    (c.steps_of_all-first.ensures
    ∙ ap (λ (b : List StmtTree). min (total (map steps b)) (STEPS + 1)) c.as_slice.ensures)
    ∙ capped-one first (STEPS + 1) ∙ ap (λ (n : ℕ). min n (STEPS + 1)) (sym all)

pub steps_of-returns-in-Some : goal.steps_of-returns-in-Some
steps_of-returns-in-Some t c =
    let first = total (map steps c.in-If.then) in
    let second = total (map steps c.in-Some.block) in
    let cut = λ (b : List StmtTree). min (total (map steps b)) (STEPS + 1) in
    let all : steps c.args.statement.now ≡ 1 + first + second =
    ap steps (c.in-If.is ∙ ap (λ (z : Option (List StmtTree)). stmt.If c.in-If.cond c.in-If.then z) c.in-Some.is)
    ∙ steps-if_else c.in-If.cond c.in-If.then c.in-Some.block in
    c.capped-in-Some.ensures
    ∙ ap₂ (λ (m n : ℕ). min (1 + m + n) (STEPS + 1))
    (c.steps_of_all-first.ensures ∙ ap cut c.as_slice.ensures)
    (c.steps_of_all.ensures ∙ ap cut c.as_slice-in-Some.ensures)
    ∙ capped-two first second (STEPS + 1) ∙ ap (λ (n : ℕ). min n (STEPS + 1)) (sym all)

pub steps_of-returns-in-Repeat : goal.steps_of-returns-in-Repeat
steps_of-returns-in-Repeat t c =
    let times = c.in-Repeat.count.value in
    let body = total (map steps c.in-Repeat.body) in
    let most : ℕ = 18446744073709551615 in
    let all : steps c.args.statement.now ≡ 1 + times * body =
    ap steps c.in-Repeat.is ∙ steps-repeat c.in-Repeat.count c.in-Repeat.body in
    let turn : c.steps_of_all-turn.result ≡ min body (STEPS + 1) =
    c.steps_of_all-turn.ensures
    ∙ ap (λ (b : List StmtTree). min (total (map steps b)) (STEPS + 1)) c.as_slice-in-Repeat.ensures in
    c.capped-in-Repeat-2.ensures
    ∙ ap (λ (n : ℕ). min (1 + n) (STEPS + 1))
    (c.capped-in-Repeat.ensures
    ∙ ap (λ (n : ℕ). min n (STEPS + 1)) (c.saturating_mul.ensures ∙ ap (λ (n : ℕ). min (times * n) most) turn))
    ∙ capped-turns times body (STEPS + 1) most (omega arith) ∙ ap (λ (n : ℕ). min n (STEPS + 1)) (sym all)
