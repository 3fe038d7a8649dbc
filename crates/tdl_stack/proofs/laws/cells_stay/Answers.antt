use Rattle.tdl_stack.proofs.Kept.{keeps}
use Rattle.tdl_stack.proofs.laws.cells_stay.Goals as goal

pub returns-clause-kinds : goal.returns-clause-kinds
returns-clause-kinds c = λ outer code left skip s. (keeps outer code left skip s).kinds

pub returns-clause-count : goal.returns-clause-count
returns-clause-count c = λ outer code left skip s. (keeps outer code left skip s).count
