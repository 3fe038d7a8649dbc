use Rattle.tdl_meaning.proofs.InstantZero.{begun}
use Rattle.tdl_meaning.proofs.RunSteps as run
use Rattle.tdl_meaning.proofs.laws.step.Goals as goal

pub returns : goal.returns
returns c = record { begins = begun; goes_on = run.step }
