use Rattle.std.proofs.Common.{None, Some}
use Rattle.tdl_names.proofs.NamedItems.{named, named_at}
use Rattle.tdl_names.proofs.meanings.port_of.Goals as goal

pub returns-in-None : goal.returns-in-None
returns-in-None c = named (λ p. p.name) c.args.name.now c.args.ports.now c.names.result.now None c.names.ensures c.in-None.ensures

pub returns-in-None-get : goal.returns-in-None-get
returns-in-None-get c =
    named_at (λ p. p.name) c.args.name.now c.args.ports.now c.names.result.now c.in-Some.place None c.names.ensures
    c.in-Some.ensures c.in-None-get.ensures

pub returns-in-Some-get : goal.returns-in-Some-get
returns-in-Some-get c =
    named_at (λ p. p.name) c.args.name.now c.args.ports.now c.names.result.now c.in-Some.place (Some c.in-Some-get.port.now)
    c.names.ensures c.in-Some.ensures c.in-Some-get.ensures
