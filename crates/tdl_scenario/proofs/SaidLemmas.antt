-- What the reading of lines needs of their definitions.
use Rattle.std.proofs.Common.{◌≡◌, ◌≤◌, ℕ, List, [], ◌∷◌, length, map, Some, refl, arith}
use Rattle.tdl_trace.specs.declared.names.Names.{Names}
use Rattle.tdl_scenario.specs.declared.entry.Entry.TheVariants.{Order}
use Rattle.tdl_scenario.specs.Entries.{all_of, order_said}
use Rattle.tdl_scenario.specs.Looked.{node_named}

-- one name or more are an order
pub some_order : {X : Type 0} (f : X → List ℕ) (names : Names) (words : List X) → 1 ≤ length words →
    Some (Order (all_of (node_named names.nodes) (map f words))) ≡ order_said names (map f words)
some_order f names [] some = absurd (omega arith)
some_order f names (w ∷ ws) some = refl
