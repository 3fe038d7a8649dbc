use Rattle.tdl_make.proofs.Spelled.{spellable, plain_spellable}
use Rattle.tdl_make.proofs.laws.plain_is_spellable.Goals as goal

pub returns-clause-form : goal.returns-clause-form
returns-clause-form c = spellable

pub returns-clause-bundle : goal.returns-clause-bundle
returns-clause-bundle c = plain_spellable
