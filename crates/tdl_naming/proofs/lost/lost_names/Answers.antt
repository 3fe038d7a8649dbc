use Rattle.std.proofs.Common.{◌++◌}
use Rattle.tdl_rules.specs.NameRules.{c3_name, c3_target, c3_activity}
use Rattle.tdl_rules.specs.Parts.{in_expressions, in_statements, in_activities}
use Rattle.tdl_walk.proofs.Minimum.{in_turn}
use Rattle.tdl_naming.proofs.lost.lost_names.Goals as goal

pub returns : goal.returns
returns c =
    let sources = c.args.sources.now in
    in_turn c.args.best.now c.in_statements.new.best c.in_activities.new.best
    (in_expressions c3_name sources ++ in_statements c3_target sources) (in_activities c3_activity sources)
    c.in_activities.ensures
    (in_turn c.args.best.now c.in_expressions.new.best c.in_statements.new.best (in_expressions c3_name sources)
    (in_statements c3_target sources) c.in_statements.ensures c.in_expressions.ensures)
