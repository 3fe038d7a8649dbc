use Rattle.tdl_meaning.proofs.InstantZero.{never_traps}
use Rattle.tdl_meaning.proofs.laws.never_traps.Goals as goal

pub returns : goal.returns
returns c = record { alive = never_traps }
