use Rattle.std.proofs.Common.{◌++◌}
use Rattle.tdl_rules.specs.Parts.{in_declarations, in_statements, in_activities, in_expressions}
use Rattle.tdl_rules.specs.SortRules.{c5_operands, c5_statement, c5_activity, c5_literals}
use Rattle.tdl_walk.proofs.Minimum.{in_turn}
use Rattle.tdl_sorts.proofs.sorts.wrong_sorts.Goals as goal

pub returns : goal.returns
returns c =
    let sources = c.args.sources.now in
    let best = c.args.best.now in
    let one = in_expressions c5_operands sources in
    let two = in_statements c5_statement sources in
    let three = in_activities c5_activity sources in
    in_turn best c.in_activities.new.best c.in_literals.new.best (one ++ two ++ three)
    (in_declarations c5_literals sources) c.in_literals.ensures
    (in_turn best c.in_statements.new.best c.in_activities.new.best (one ++ two) three c.in_activities.ensures
    (in_turn best c.in_expressions.new.best c.in_statements.new.best one two c.in_statements.ensures
    c.in_expressions.ensures))
