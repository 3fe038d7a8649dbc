use Rattle.tdl_meaning.proofs.NodeLaw.{node_begins, node_turns, node_walks}
use Rattle.tdl_meaning.proofs.laws.one_node.Goals as goal

pub returns : goal.returns
returns c = record { begins = node_begins; turn = node_turns; microsecond = node_walks }
