use Rattle.std.proofs.Common.{◌≡◌, ℕ, List, drop, bytes_eq}
use Rattle.tdl_scenario.specs.Looked.{first_from}
use Rattle.tdl_scenario.proofs.found.node_named.Given as goal

abbrev pub invariant-loop-place : goal.invariant-loop-place
invariant-loop-place l =
    first_from (λ (x : List ℕ). bytes_eq x l.name) (λ (x : (List ℕ)). x) l.place (drop l.place l.nodes)
    ≡ first_from (λ (x : List ℕ). bytes_eq x l.name) (λ (x : (List ℕ)). x) 0 l.nodes
