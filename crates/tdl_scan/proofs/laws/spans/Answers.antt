use Rattle.tdl_scan.proofs.Spans.{tokens_in_source, tokens_in_order}
use Rattle.tdl_scan.proofs.laws.spans.Goals as goal

pub returns-clause-texts : goal.returns-clause-texts
returns-clause-texts c = tokens_in_source

pub returns-clause-order : goal.returns-clause-order
returns-clause-order c = tokens_in_order
