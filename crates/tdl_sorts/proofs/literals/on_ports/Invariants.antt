use Rattle.std.proofs.Common.{◌≡◌, take}
use Rattle.tdl_rules.specs.Earliest.{earliest}
use Rattle.tdl_rules.specs.Lists.{each}
use Rattle.tdl_rules.specs.SortRules.{initial_of}
use Rattle.tdl_sorts.proofs.literals.on_ports.Given as goal

abbrev pub invariant-loop-port : goal.invariant-loop-port
invariant-loop-port g l =
    let f = g.R.OnLiteral.gives l.rule l.scope in
    l.best ≡ earliest l.initial.best
    (each (λ port. each f (initial_of port.kind port.initial)) (take l.port-index l.ports))
