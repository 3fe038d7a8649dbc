use Rattle.std.proofs.Common.{◌≡◌, ◌≤◌, take, length}
use Rattle.tdl_rules.specs.Naming.{inputs}
use Rattle.tdl_names.proofs.inputs.input_count.Given as goal

abbrev pub invariant-loop-port : goal.invariant-loop-port
invariant-loop-port l = record {
  so_far : l.count ≡ length (inputs (take l.port-index l.ports));
  few : l.count ≤ l.port-index;
}
