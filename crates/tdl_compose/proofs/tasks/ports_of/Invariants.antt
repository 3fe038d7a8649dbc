-- The ports so far with those of the ports that are left are all.
use Rattle.std.proofs.Common.{◌≡◌, ◌++◌, map, drop}
use Rattle.tdl_program.specs.Ordinals as ordinals
use Rattle.tdl_program.specs.Programs.{port_of}
use Rattle.tdl_compose.proofs.tasks.ports_of.Given as goal

abbrev pub invariant-loop-port : goal.invariant-loop-port
invariant-loop-port l =
    l.list ++ map port_of (ordinals.ports_of l.wanted (drop l.port-index l.ports))
    ≡ map port_of (ordinals.ports_of l.wanted l.ports)
