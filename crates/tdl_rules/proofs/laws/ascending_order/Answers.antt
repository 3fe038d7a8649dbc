use Rattle.tdl_rules.proofs.Ascending.{Contains-in_order, in_order-contains, AllPairs-in_order}
use Rattle.tdl_rules.proofs.laws.ascending_order.Goals as goal

pub returns-clause-same : goal.returns-clause-same
returns-clause-same c fs f = (in_order-contains fs f, Contains-in_order fs f)

pub returns-clause-ascending : goal.returns-clause-ascending
returns-clause-ascending c = AllPairs-in_order
