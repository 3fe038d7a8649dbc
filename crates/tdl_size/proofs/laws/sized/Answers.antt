use Rattle.tdl_size.proofs.Identifiers.{tree_sized}
use Rattle.tdl_size.proofs.laws.sized.Goals as goal

pub returns : goal.returns
returns c = tree_sized
