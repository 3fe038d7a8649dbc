use Rattle.tdl_gen.proofs.HostSteps.{entries_move}
use Rattle.tdl_gen.proofs.laws.stub_blocks.Goals as goal

pub returns : goal.returns
returns c = entries_move
