use Rattle.std.proofs.Common.{rules, Some, None, refl, ◌≡◌, arith}
use Rattle.tdl_eval.specs.Envs.{made_of}
use Rattle.tdl_eval.proofs.Done.{done-items, assign_done, then_done, else_done, repeat_done}
use Rattle.tdl_eval.proofs.bodies.+body.Goals as goal

pub run_body-loop-stmt-init : goal.run_body-loop-stmt-init
run_body-loop-stmt-init t c = record {
  done =
      done-items c.args.b.now c.as_slice-stmt-items.result.now (made_of c.args.kinds.now c.args.cells.now)
      c.as_slice-stmt-items.ensures;
  count = refl;
}

pub run_stmt-returns-in-Assign-clause-done : goal.run_stmt-returns-in-Assign-clause-done
run_stmt-returns-in-Assign-clause-done t c =
    assign_done c.args.stmt.now c.in-Assign.cell c.in-Assign.value c.number.result
    (made_of c.args.kinds.now c.args.cells.now) (made_of c.args.kinds.now c.store.new.cells) (search rules)
    c.in-Assign.is c.number.ensures c.store.ensures.done

pub run_stmt-returns-then-holds-clause-done : goal.run_stmt-returns-then-holds-clause-done
run_stmt-returns-then-holds-clause-done t c =
    then_done c.args.stmt.now c.in-If.cond c.in-If.first c.in-If.other c.holds.result
    (made_of c.args.kinds.now c.args.cells.now) (made_of c.args.kinds.now c.run_body.new.cells) c.in-If.is
    c.holds.ensures c.if-holds.true c.run_body.ensures.done

pub run_stmt-returns-in-Some-clause-done : goal.run_stmt-returns-in-Some-clause-done
run_stmt-returns-in-Some-clause-done t c =
    else_done c.args.stmt.now c.in-If.cond c.in-If.first c.in-If.other (Some c.in-Some.second) c.holds.result
    (made_of c.args.kinds.now c.args.cells.now) (made_of c.args.kinds.now c.run_body-in-Some.new.cells) c.in-If.is
    c.in-Some.is c.holds.ensures c.if-holds.false c.run_body-in-Some.ensures.done

pub run_stmt-returns-in_default-clause-done : goal.run_stmt-returns-in_default-clause-done
run_stmt-returns-in_default-clause-done t c =
    let cells = made_of c.args.kinds.now c.args.cells.now in
    else_done c.args.stmt.now c.in-If.cond c.in-If.first c.in-If.other None c.holds.result cells cells c.in-If.is
    c.in_default.is c.holds.ensures c.if-holds.false refl

pub run_stmt-returns-after-loop-clause-done : goal.run_stmt-returns-after-loop-clause-done
run_stmt-returns-after-loop-clause-done t c =
    let times : c.loop.counter ≡ c.in-Repeat.count = omega arith in
    repeat_done c.args.stmt.now c.in-Repeat.count c.loop.counter c.in-Repeat.body
    (made_of c.args.kinds.now c.args.cells.now) (made_of c.args.kinds.now c.loop.cells) c.in-Repeat.is times
    c.loop.invariant.done
