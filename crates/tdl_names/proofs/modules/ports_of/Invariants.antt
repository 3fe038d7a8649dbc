use Rattle.std.proofs.Common.{◌≡◌, map, take}
use Rattle.tdl_names.proofs.modules.ports_of.Given as goal

abbrev pub invariant-loop-port : goal.invariant-loop-port
invariant-loop-port l = l.names ≡ map (λ p. p.name) (take l.port-index l.items)
