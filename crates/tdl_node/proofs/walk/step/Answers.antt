use Rattle.std.proofs.Common.{◌+◌, arith}
use Rattle.std.proofs.lemmas.Result.{on_ok_weaker}
use Rattle.tdl_scen.proofs.SensesLemmas.{up_to_later}
use Rattle.tdl_node.specs.Machines.{IsOffBus}
use Rattle.tdl_node.proofs.walk.step.Goals as goal

pub returns-clause-off_bus : goal.returns-clause-off_bus
returns-clause-off_bus g c =
    on_ok_weaker c.turn.result
    (λ (kept : IsOffBus (g.M.Machine.parts c.micro.new.self) → IsOffBus (g.M.Machine.parts c.turn.new.machine)) off.
    kept (c.in_ok-micro.ensures.off_bus off))
    c.turn.ensures.off_bus

pub turn-requires-clause-up_to : goal.turn-requires-clause-up_to
turn-requires-clause-up_to g c =
    up_to_later c.args.senses.now c.args.from (c.args.from + 1) c.args.sensed.now (omega arith) c.requires.up_to
