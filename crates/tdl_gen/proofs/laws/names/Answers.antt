use Rattle.tdl_gen.proofs.BundleNames.{bundle_names-are}
use Rattle.tdl_gen.proofs.laws.names.Goals as goal

pub returns : goal.returns
returns c = bundle_names-are
