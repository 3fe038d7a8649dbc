-- One rule after the other.
use Rattle.tdl_rules.specs.ModeRules.{c17_declaration, c17_what}
use Rattle.tdl_rules.specs.Parts.{in_declarations, in_activities}
use Rattle.tdl_walk.proofs.Minimum.{in_turn}
use Rattle.tdl_modes.proofs.worst_cases.wrong_worst_cases.Goals as goal

pub returns : goal.returns
returns c =
    let sources = c.args.sources.now in
    in_turn c.args.best.now c.in_declarations.new.best c.in_activities.new.best (in_declarations c17_declaration sources)
    (in_activities (λ scope period activity. c17_what scope period activity activity.what) sources)
    c.in_activities.ensures c.in_declarations.ensures
