use Rattle.std.proofs.Common.{sym, arith}
use Rattle.tdl_rules.specs.Parts.{modules}
use Rattle.tdl_walk.proofs.Minimum.{each_next, each_all}
use Rattle.tdl_walk.proofs.Modules.{over, length-modules}
use Rattle.tdl_walk.proofs.declarations.in_modules.Goals as goal

pub loop-file-preserved : goal.loop-file-preserved
loop-file-preserved g c =
    each_next (g.R.OnModule.gives c.args.rule.now) c.args.best.now c.loop-file.best c.at.new.best (modules c.args.sources.now)
    c.loop-file.file c.in-Some.scope (sym c.in-Some.ensures) c.loop-file.invariant c.at.ensures

pub returns : goal.returns
returns g c =
    each_all (g.R.OnModule.gives c.args.rule.now) c.args.best.now c.loop-file.best (modules c.args.sources.now) c.loop-file.file
    (omega (arith, length-modules c.args.sources.now, c.loop-file-test.false)) c.loop-file.invariant

pub returns-in_default : goal.returns-in_default
returns-in_default g c =
    each_all (g.R.OnModule.gives c.args.rule.now) c.args.best.now c.loop-file.best (modules c.args.sources.now) c.loop-file.file
    (over (modules c.args.sources.now) c.loop-file.file c.in_default.ensures) c.loop-file.invariant
