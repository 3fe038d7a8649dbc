use Rattle.tdl_image.proofs.Examples.{counting_spellable}
use Rattle.tdl_image.proofs.laws.bundle.Goals as goal

pub returns-clause-spellable : goal.returns-clause-spellable
returns-clause-spellable c = counting_spellable
