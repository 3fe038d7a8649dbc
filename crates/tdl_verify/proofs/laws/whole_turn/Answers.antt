use Rattle.tdl_verify.proofs.WholeTurn.{whole_turn}
use Rattle.tdl_verify.proofs.laws.whole_turn.Goals as goal

pub returns : goal.returns
returns c = whole_turn
