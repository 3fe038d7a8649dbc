use Rattle.std.proofs.Common.{◌≡◌, drop}
use Rattle.tdl_rules.specs.Earliest.{earliest}
use Rattle.tdl_rules.specs.Naming.{inputs}
use Rattle.tdl_rules.specs.SortRules.{arguments_need}
use Rattle.tdl_sorts.proofs.values.arguments_need.Given as goal

abbrev pub invariant-loop-port : goal.invariant-loop-port
invariant-loop-port l =
    earliest l.best (arguments_need l.scope l.rest (inputs (drop l.port-index l.ports)))
    ≡ earliest l.initial.best (arguments_need l.scope l.args (inputs l.ports))
