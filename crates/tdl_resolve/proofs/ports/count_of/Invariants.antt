use Rattle.std.proofs.Common.{◌≡◌, ◌≤◌, take, length}
use Rattle.tdl_program.specs.Ordinals.{ports_of}
use Rattle.tdl_resolve.proofs.ports.count_of.Given as goal

abbrev pub invariant-loop-port : goal.invariant-loop-port
invariant-loop-port l = record {
  so_far : l.count ≡ length (ports_of l.wanted (take l.port-index l.ports));
  few : l.count ≤ l.port-index;
}
