use Rattle.tdl_gen.proofs.OneBundle.{one_bundle}
use Rattle.tdl_gen.proofs.laws.one_bundle.Goals as goal

pub returns : goal.returns
returns c = one_bundle
