use Rattle.std.proofs.Common.{◌≡◌, ◌++◌, drop, map}
use Rattle.tdl_verify.specs.Texts as texts
use Rattle.tdl_node.proofs.names.port_names.Given as goal

-- the first ports are named
abbrev pub invariant-loop-port : goal.invariant-loop-port
invariant-loop-port l = l.list ++ map texts.port_named (drop l.port-index l.ports) ≡ map texts.port_named l.ports
