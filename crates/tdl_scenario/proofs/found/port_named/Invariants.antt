use Rattle.std.proofs.Common.{◌≡◌, drop, bytes_eq}
use Rattle.tdl_trace.specs.declared.names.Named.{Named}
use Rattle.tdl_scenario.specs.Looked.{first_from}
use Rattle.tdl_scenario.proofs.found.port_named.Given as goal

abbrev pub invariant-loop-place : goal.invariant-loop-place
invariant-loop-place l =
    first_from (λ (x : Named). bytes_eq x.name l.name) (λ (x : Named). x.kind) l.place (drop l.place l.ports)
    ≡ first_from (λ (x : Named). bytes_eq x.name l.name) (λ (x : Named). x.kind) 0 l.ports
