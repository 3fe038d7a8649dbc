-- The nodes, the places and the costs that lines say, each with its line; and the placement that they are.
use Rattle.std.specs.Prelude.{ℕ, List, map, filter_map, flat_map, Option, Some, None}
use Rattle.tdl_base.specs.Lists.{first_of}
use Rattle.tdl_base.specs.declared.numbers.ModuleId.{ModuleId}
use Rattle.tdl_lines.specs.declared.said.Said.{Said}
use Rattle.tdl_deploy.specs.declared.placement.Placement.{Placement}
use Rattle.tdl_deploy.specs.declared.placement.PlacedNode.{PlacedNode}
use Rattle.tdl_deploy.specs.declared.placement.BusCost.{BusCost}
use Rattle.tdl_place.specs.declared.entry.Entry.{Entry}
use Rattle.tdl_place.specs.declared.entry.Entry.TheVariants.{Node, Bus}

-- what a line of a number says
abbrev pub on_line : {X : Type 0} → ℕ → X → Said X
on_line line x = record { line = line; what = x }

-- the node that a line says
abbrev pub node_at : ℕ → Entry → Option (Said PlacedNode)
node_at line (Node node unknown) = Some (on_line line node)
node_at line e = None

-- the cost that a line says
abbrev pub cost_at : ℕ → Entry → Option (Said BusCost)
cost_at line (Bus cost) = Some (on_line line cost)
cost_at line e = None

-- the nodes of lines, and the costs
abbrev pub nodes_in : List (Said Entry) → List (Said PlacedNode)
nodes_in lines = filter_map (λ (x : Said Entry). node_at x.line x.what) lines

abbrev pub costs_in : List (Said Entry) → List (Said BusCost)
costs_in lines = filter_map (λ (x : Said Entry). cost_at x.line x.what) lines

-- the places of modules that nodes give, in order of the text
abbrev pub places_of : List (Said PlacedNode) → List (Said ModuleId)
places_of nodes = flat_map (λ (node : Said PlacedNode). map (on_line node.line) node.what.modules) nodes

-- what lines say, without the lines
abbrev pub without_lines : {X : Type 0} → List (Said X) → List X
without_lines said = map (λ x. x.what) said

-- nodes and the first cost; where no rule is broken there is one cost at most
abbrev pub placement_of : List (Said PlacedNode) → List (Said BusCost) → Placement
placement_of nodes costs = record { nodes = without_lines nodes; bus = first_of (without_lines costs) }

-- the placement that lines say
abbrev pub placement_said : List (Said Entry) → Placement
placement_said lines = placement_of (nodes_in lines) (costs_in lines)
