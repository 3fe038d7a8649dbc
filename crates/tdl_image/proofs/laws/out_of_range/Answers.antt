use Rattle.tdl_image.proofs.Examples.{declared_not_spellable, worst_not_spellable}
use Rattle.tdl_image.proofs.laws.out_of_range.Goals as goal

pub returns-clause-declared : goal.returns-clause-declared
returns-clause-declared c = declared_not_spellable

pub returns-clause-worst : goal.returns-clause-worst
returns-clause-worst c = worst_not_spellable
