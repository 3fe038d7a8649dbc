-- What is gathered line by line.
use Rattle.std.specs.Prelude.{List, ◌++◌, flat_map, Option, None}
use Rattle.tdl_lines.specs.declared.fault.Fault.{Fault}
use Rattle.tdl_lines.specs.declared.said.Said.{Said}
use Rattle.tdl_lines.specs.Faults.{earliest}
use Rattle.tdl_deploy.specs.declared.placement.PlacedNode.{PlacedNode}
use Rattle.tdl_deploy.specs.declared.placement.BusCost.{BusCost}
use Rattle.tdl_place.specs.declared.entry.Entry.{Entry}
use Rattle.tdl_place.specs.declared.gather.Gathered.{Gathered as Held}
use Rattle.tdl_place.specs.PlacementRules.{line_faults}
use Rattle.tdl_place.specs.SaidPlaces.{nodes_in, costs_in}

-- the nodes, the costs, and the first fault of a line by itself
pub record Gathered : Type 0 where
  pub nodes : List (Said PlacedNode)
  pub costs : List (Said BusCost)
  pub first : Option Fault

-- what is gathered so far, with what more lines say
abbrev pub with_more : Held → List (Said Entry) → Gathered
with_more g more = record {
  nodes = g.nodes.items ++ nodes_in more;
  costs = g.buses.items ++ costs_in more;
  first = earliest g.first (flat_map line_faults more);
}

-- what all lines say
abbrev pub all_gathered : List (Said Entry) → Gathered
all_gathered lines = record {
  nodes = nodes_in lines;
  costs = costs_in lines;
  first = earliest None (flat_map line_faults lines);
}
