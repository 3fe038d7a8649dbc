use Rattle.std.proofs.Common.{rules, FitsSigned, w64, [], ◌∷◌}
use Rattle.std.proofs.lemmas.Result.{on_ok_weaker}
use Rattle.tdl_body.specs.declared.tree.Expr.TheVariants as expr
use Rattle.tdl_stack.specs.declared.instr.Instr.TheVariants as instr
use Rattle.tdl_lower.proofs.Equations.{expr_code-load}
use Rattle.tdl_lower.proofs.Appended.{code_of_node, const_appended, un_appended, bin_appended}
use Rattle.tdl_lower.proofs.expressions.+put_expr.Goals as goal

pub returns-in-Const : goal.returns-in-Const
returns-in-Const t c =
    let fits : FitsSigned w64 c.in-Const.v = search rules in
    on_ok_weaker c.push.result
    (const_appended c.args.e.now c.in-Const.v c.args.into.now _ fits c.in-Const.is) c.push.ensures.ok

pub returns-in-Load : goal.returns-in-Load
returns-in-Load t c =
    on_ok_weaker c.push-in-Load.result
    (code_of_node c.args.e.now (expr.Load c.in-Load.place) (instr.Load c.in-Load.place ∷ []) c.args.into.now _ c.in-Load.is
    (expr_code-load c.in-Load.place)) c.push-in-Load.ensures.ok

pub returns-in_ok-put_expr-in-Un : goal.returns-in_ok-put_expr-in-Un
returns-in_ok-put_expr-in-Un t c =
    on_ok_weaker c.push-in-Un.result
    (un_appended c.in-Un.op c.args.e.now c.in-Un.a c.get.result.now c.args.into.now c.put_expr.new.into _ c.in-Un.is
    c.get.ensures (c.in_ok-put_expr-in-Un.ensures))
    c.push-in-Un.ensures.ok

pub returns-in_ok-put_expr-in-Bin-2 : goal.returns-in_ok-put_expr-in-Bin-2
returns-in_ok-put_expr-in-Bin-2 t c =
    on_ok_weaker c.push-in-Bin.result
    (bin_appended c.in-Bin.op c.args.e.now c.in-Bin.a c.in-Bin.b c.get-in-Bin.result.now c.get-in-Bin-2.result.now
    c.args.into.now c.put_expr-in-Bin.new.into c.put_expr-in-Bin-2.new.into _ c.in-Bin.is c.get-in-Bin.ensures
    c.get-in-Bin-2.ensures (c.in_ok-put_expr-in-Bin.ensures) (c.in_ok-put_expr-in-Bin-2.ensures))
    c.push-in-Bin.ensures.ok
