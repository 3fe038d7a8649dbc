use Rattle.std.proofs.Common.{length, le_refl}
use Rattle.tdl_stack.proofs.Costs.{cost-plain, cost-rep}
use Rattle.tdl_stack.proofs.laws.costs.Goals as goal

pub returns : goal.returns
returns c = record {
  plain = λ i code none. cost-plain i code (length code) none;
  repetition = λ times body. cost-rep times (length body) body (length body) (le_refl (length body));
}
