use Rattle.tdl_rules.proofs.Firsts.{earliest-append}
use Rattle.tdl_rules.proofs.laws.earliest_in_turn.Goals as goal

pub returns : goal.returns
returns c = earliest-append
