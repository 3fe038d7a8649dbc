use Rattle.tdl_kept.proofs.Identifiers.{has_identifiers}
use Rattle.tdl_kept.proofs.laws.identifiers.Goals as goal

pub returns : goal.returns
returns c = has_identifiers
