use Rattle.std.proofs.Common.{◌∙◌, sym, ap}
use Rattle.tdl_tree.specs.declared.declarations.PortDecl.{PortDecl}
use Rattle.tdl_rules.specs.Earliest.{earliest}
use Rattle.tdl_rules.specs.Lists.{each}
use Rattle.tdl_rules.specs.SortRules.{initial_of}
use Rattle.tdl_walk.proofs.Minimum.{each_more, each_all, each-each}
use Rattle.tdl_sorts.proofs.literals.on_ports.Goals as goal

pub loop-port-preserved : goal.loop-port-preserved
loop-port-preserved g c =
    let f = g.R.OnLiteral.gives c.args.rule.now c.args.scope.now in
    each_more (λ (port : PortDecl). each f (initial_of port.kind port.initial)) c.args.best.now c.loop-port.best
    c.on_initial.new.best c.args.ports.now c.loop-port.port-index c.port-item.result c.loop-port-test.true
    c.port-item.is c.loop-port.invariant c.on_initial.ensures

pub returns : goal.returns
returns g c =
    let f = g.R.OnLiteral.gives c.args.rule.now c.args.scope.now in
    each_all (λ (port : PortDecl). each f (initial_of port.kind port.initial)) c.args.best.now c.loop-port.best
    c.args.ports.now c.loop-port.port-index c.loop-port-test.false c.loop-port.invariant
    ∙ ap (earliest c.args.best.now)
    (sym (each-each f (λ (port : PortDecl). initial_of port.kind port.initial) c.args.ports.now))
