use Rattle.tdl_stack.proofs.Skips.{exec-skip}
use Rattle.tdl_stack.proofs.laws.skipping.Goals as goal

pub returns : goal.returns
returns c = exec-skip
