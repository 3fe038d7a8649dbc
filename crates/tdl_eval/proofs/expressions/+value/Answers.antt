use Rattle.std.proofs.Common.{rules, refl}
use Rattle.tdl_body.specs.declared.tree.Expr.TheVariants as expr
use Rattle.tdl_body.proofs.Equations.{value_of-const, value_of-load}
use Rattle.tdl_eval.proofs.Valued.{value_of_node, un_valued, bin_valued}
use Rattle.tdl_eval.proofs.expressions.+value.Goals as goal

pub returns-in-Const : goal.returns-in-Const
returns-in-Const g t c =
    let look = g.R.Reader.look c.args.reader.now in
    value_of_node c.args.e.now (expr.Const c.in-Const.v) look c.in-Const.v c.in-Const.v (search rules) c.in-Const.is
    (value_of-const c.in-Const.v look) refl

pub returns-in-Load : goal.returns-in-Load
returns-in-Load g t c =
    let look = g.R.Reader.look c.args.reader.now in
    value_of_node c.args.e.now (expr.Load c.in-Load.place) look c.read.result _ (search rules) c.in-Load.is
    (value_of-load c.in-Load.place look) c.read.ensures

pub returns-in-Un : goal.returns-in-Un
returns-in-Un g t c =
    un_valued c.in-Un.op c.args.e.now c.in-Un.a c.get.result.now (g.R.Reader.look c.args.reader.now) c.un.result
    c.value.result
    (search rules) (search rules) c.in-Un.is c.get.ensures c.value.ensures c.un.ensures

pub returns-in-Bin : goal.returns-in-Bin
returns-in-Bin g t c =
    bin_valued c.in-Bin.op c.args.e.now c.in-Bin.a c.in-Bin.b c.get-in-Bin.result.now c.get-in-Bin-2.result.now
    (g.R.Reader.look c.args.reader.now) c.bin.result c.value-in-Bin.result c.value-in-Bin-2.result (search rules)
    (search rules)
    (search rules) c.in-Bin.is c.get-in-Bin.ensures c.get-in-Bin-2.ensures c.value-in-Bin.ensures
    c.value-in-Bin-2.ensures c.bin.ensures
