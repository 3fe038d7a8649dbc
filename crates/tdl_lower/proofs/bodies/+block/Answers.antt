use Rattle.std.proofs.Common.{◌≡◌, ◌∷◌, ◌++◌, ◌-◌, length, [], Some, None, ap, ◌∙◌, arith}
use Rattle.std.proofs.lemmas.Result.{on_ok_weaker}
use Rattle.tdl_body.specs.declared.tree.Stmt.TheVariants as stmt
use Rattle.tdl_stack.specs.declared.instr.Instr.TheVariants as instr
use Rattle.tdl_lower.specs.Templates.{expr_code, body_code, if_code}
use Rattle.tdl_lower.proofs.Equations.{stmt_code-assign, stmt_code-if, stmt_code-if_else, stmt_code-repeat}
use Rattle.tdl_lower.proofs.Appended.{in_turn}
use Rattle.tdl_lower.proofs.AppendedBlocks.{body_code-items, code_of_stmt, if_appended, if_else_appended, repeat_appended}
use Rattle.tdl_lower.proofs.bodies.+block.Goals as goal

pub put_body-loop-stmt-init : goal.put_body-loop-stmt-init
put_body-loop-stmt-init t c =
    ap (λ code. c.args.into.now ++ code)
    (body_code-items c.args.block.now c.as_slice-stmt-items.result.now c.as_slice-stmt-items.ensures)

pub put_stmt-returns-in_ok-put_expr-in-Assign : goal.put_stmt-returns-in_ok-put_expr-in-Assign
put_stmt-returns-in_ok-put_expr-in-Assign t c =
    on_ok_weaker c.push.result
    (λ put. code_of_stmt c.args.stmt.now (stmt.Assign c.in-Assign.cell c.in-Assign.value)
    (expr_code c.in-Assign.value ++ instr.Store c.in-Assign.cell ∷ []) c.args.into.now c.push.new.self c.in-Assign.is
    (stmt_code-assign c.in-Assign.cell c.in-Assign.value)
    (in_turn (expr_code c.in-Assign.value) (instr.Store c.in-Assign.cell ∷ []) c.args.into.now c.put_expr.new.into
    c.push.new.self c.in_ok-put_expr-in-Assign.ensures put))
    c.push.ensures.ok

pub put_stmt-returns-in_default : goal.put_stmt-returns-in_default
put_stmt-returns-in_default t c =
    let skipped : c.in_ok-skipped-in-If.skipped - 1 ≡ length (body_code c.in-If.first) =
    omega (arith, c.in_ok-skipped-in-If.ensures.count) in
    code_of_stmt c.args.stmt.now (stmt.If c.in-If.cond c.in-If.first None)
    (if_code (expr_code c.in-If.cond) (body_code c.in-If.first) None) c.args.into.now c.set.new.self
    (c.in-If.is ∙ ap (stmt.If c.in-If.cond c.in-If.first) c.in_default.is) (stmt_code-if c.in-If.cond c.in-If.first)
    (if_appended (expr_code c.in-If.cond) (body_code c.in-If.first) c.args.into.now c.put_expr-in-If.new.into
    c.put_block.new.into c.set.new.self c.len-test.result _ c.in_ok-put_expr-in-If.ensures c.len-test.ensures
    c.in_ok-skipped-in-If.ensures.code skipped c.set.ensures)

pub put_stmt-returns-in_ok-jumped-in-If : goal.put_stmt-returns-in_ok-jumped-in-If
put_stmt-returns-in_ok-jumped-in-If t c =
    let jumped : c.in_ok-jumped-in-If.jumped - 1 ≡ length (body_code c.in-Some.second) =
    omega (arith, c.in_ok-jumped-in-If.ensures.count) in
    code_of_stmt c.args.stmt.now (stmt.If c.in-If.cond c.in-If.first (Some c.in-Some.second))
    (if_code (expr_code c.in-If.cond) (body_code c.in-If.first) (Some (body_code c.in-Some.second))) c.args.into.now
    c.set-in-If-2.new.self (c.in-If.is ∙ ap (stmt.If c.in-If.cond c.in-If.first) c.in-Some.is)
    (stmt_code-if_else c.in-If.cond c.in-If.first c.in-Some.second)
    (if_else_appended (expr_code c.in-If.cond) (body_code c.in-If.first) (body_code c.in-Some.second) c.args.into.now
    c.put_expr-in-If.new.into c.put_block.new.into c.set-in-If.new.self c.put_block-in-If.new.into c.set-in-If-2.new.self
    c.len-test.result _ c.len-jump.result _ c.in_ok-put_expr-in-If.ensures c.len-test.ensures
    c.in_ok-skipped-in-If.ensures.code c.in_ok-skipped-in-If.ensures.count c.set-in-If.ensures c.len-jump.ensures
    c.in_ok-jumped-in-If.ensures.code jumped c.set-in-If-2.ensures)

pub put_stmt-returns-in_ok-repeated-in-Repeat : goal.put_stmt-returns-in_ok-repeated-in-Repeat
put_stmt-returns-in_ok-repeated-in-Repeat t c =
    let repeated : c.in_ok-repeated-in-Repeat.repeated - 1 ≡ length (body_code c.in-Repeat.block) =
    omega (arith, c.in_ok-repeated-in-Repeat.ensures.count) in
    code_of_stmt c.args.stmt.now (stmt.Repeat c.in-Repeat.count c.in-Repeat.block)
    (instr.Rep c.in-Repeat.count (length (body_code c.in-Repeat.block)) ∷ body_code c.in-Repeat.block)
    c.args.into.now c.set-in-Repeat.new.self c.in-Repeat.is (stmt_code-repeat c.in-Repeat.count c.in-Repeat.block)
    (repeat_appended c.in-Repeat.count (body_code c.in-Repeat.block) c.args.into.now c.put_block-in-Repeat.new.into
    c.set-in-Repeat.new.self c.len-place.result _ c.len-place.ensures c.in_ok-repeated-in-Repeat.ensures.code repeated
    c.set-in-Repeat.ensures)
