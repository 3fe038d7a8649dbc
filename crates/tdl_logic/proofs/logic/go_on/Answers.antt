use Rattle.std.proofs.Common.{ap, ◌∙◌}
use Rattle.tdl_base.specs.Sensed.{sensed_at}
use Rattle.tdl_mode.specs.Phases.{phase_two, phase_three, phase_four}
use Rattle.tdl_mode.specs.Instants.{for_all}
use Rattle.tdl_logic.specs.Wholes.{all_standing}
use Rattle.tdl_logic.proofs.Readying.{logical-is}
use Rattle.tdl_logic.proofs.logic.go_on.Goals as goal

pub returns-clause-states : goal.returns-clause-states
returns-clause-states c =
    let x = c.args.at.0 in
    let sensed = sensed_at c.args.sensed.now in
    c.release_all.ensures.states
    ∙ ap (for_all (phase_four x) sensed)
    (c.turn_all.ensures
    ∙ ap (for_all (phase_three x) sensed)
    (c.update_all.ensures ∙ ap (for_all (phase_two x) sensed) c.end_all.ensures.states))
    ∙ logical-is x sensed (all_standing c.args.modules.now c.args.nows.now c.args.tasks.now)
