use Rattle.tdl_scenario.proofs.Walking.{with_missing}
use Rattle.tdl_scenario.proofs.faults.first_fault.Goals as goal

pub returns : goal.returns
returns c =
    with_missing c.args.nodes c.args.after_all c.args.lines.now c.in_ok-best.best c.note_if.new.best
    c.has_horizon.result
    c.in_ok-best.ensures c.has_horizon.ensures c.note_if.ensures
