use Rattle.tdl_meaning.proofs.Meaning.{meaning}
use Rattle.tdl_meaning.proofs.laws.meaning.Goals as goal

pub returns : goal.returns
returns c = record { means = meaning }
