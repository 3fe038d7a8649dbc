use Rattle.tdl_stack.proofs.PrefixFree.{instr-prefix_free}
use Rattle.tdl_stack.proofs.laws.prefix_free.Goals as goal

pub returns : goal.returns
returns c = instr-prefix_free
