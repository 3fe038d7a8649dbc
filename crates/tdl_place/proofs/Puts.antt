-- What one more line adds to what is gathered.
use Rattle.std.proofs.Common.{◌≡◌, List, [], ◌∷◌, ◌++◌, flat_map, Option, Some, None, refl, ap, ◌∙◌, append_assoc}
use Rattle.std.specs.List.{cons_option}
use Rattle.tdl_lines.specs.declared.said.Said.{Said}
use Rattle.tdl_lines.specs.Faults.{earliest}
use Rattle.tdl_place.specs.declared.entry.Entry.{Entry}
use Rattle.tdl_place.specs.declared.gather.Gathered.{Gathered as Held}
use Rattle.tdl_place.specs.Gathering.{with_more}
use Rattle.tdl_place.specs.PlacementRules.{line_faults}
use Rattle.tdl_place.specs.SaidPlaces.{node_at, cost_at, nodes_in, costs_in}
use Rattle.tdl_place.proofs.Noting.{in_turn}

-- one item at most, before others
front : {X : Type 0} (old new : List X) (o : Option X) (xs : List X) → new ≡ old ++ cons_option o [] →
    new ++ xs ≡ old ++ cons_option o xs
front old new None xs e = ap (λ (ys : List _). ys ++ xs) e ∙ append_assoc old [] xs
front old new (Some x) xs e = ap (λ (ys : List _). ys ++ xs) e ∙ append_assoc old (x ∷ []) xs

-- the node, the cost and the faults of the line are added
pub one_more : (g h : Held) (x : Said Entry) (more : List (Said Entry)) →
    h.nodes.items ≡ g.nodes.items ++ nodes_in (x ∷ []) → h.buses.items ≡ g.buses.items ++ costs_in (x ∷ []) →
    h.first ≡ earliest g.first (line_faults x) → with_more h more ≡ with_more g (x ∷ more)
one_more g h x more nodes costs first =
    let n = front g.nodes.items h.nodes.items (node_at x.line x.what) (nodes_in more) nodes in
    let c = front g.buses.items h.buses.items (cost_at x.line x.what) (costs_in more) costs in
    let f =
    in_turn g.first h.first (earliest h.first (flat_map line_faults more)) (line_faults x)
    (flat_map line_faults more) first refl in
    λ i. record { nodes = n i; costs = c i; first = f i }
