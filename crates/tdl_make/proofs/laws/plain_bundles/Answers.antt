use Rattle.std.proofs.Common.{refl}
use Rattle.tdl_make.proofs.PlainRealises.{made, realises}
use Rattle.tdl_make.proofs.laws.plain_bundles.Goals as goal

pub returns : goal.returns
returns c = record {
  scheduled = λ f. refl;
  made = made;
  realises = realises;
}
