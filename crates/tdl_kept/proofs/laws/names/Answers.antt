use Rattle.tdl_kept.proofs.Names.{keeps_names}
use Rattle.tdl_kept.proofs.laws.names.Goals as goal

pub returns : goal.returns
returns c = keeps_names
