use Rattle.tdl_rules.proofs.Occurrences.{lets-within, times-within}
use Rattle.tdl_rules.proofs.laws.occurrences.Goals as goal

pub returns-clause-lets : goal.returns-clause-lets
returns-clause-lets c = lets-within

pub returns-clause-times : goal.returns-clause-times
returns-clause-times c = times-within
