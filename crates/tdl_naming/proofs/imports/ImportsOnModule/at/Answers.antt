use Rattle.tdl_rules.specs.NameRules.{c2_import}
use Rattle.tdl_walk.proofs.Minimum.{each_more}
use Rattle.tdl_naming.proofs.imports.ImportsOnModule.at.Goals as goal

pub loop-id-preserved : goal.loop-id-preserved
loop-id-preserved c =
    each_more (c2_import c.args.scope.now) c.args.best.now c.loop-id.best c.note_import.new.best
    c.as_slice-imports.result.now c.loop-id.id-index c.id-item.result c.loop-id-test.true c.id-item.is
    c.loop-id.invariant c.note_import.ensures
