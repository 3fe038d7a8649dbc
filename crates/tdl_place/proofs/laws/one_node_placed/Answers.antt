use Rattle.tdl_place.proofs.OneNode.{one_node_placed}
use Rattle.tdl_place.proofs.laws.one_node_placed.Goals as goal

pub returns : goal.returns
returns c = one_node_placed
