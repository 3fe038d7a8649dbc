use Rattle.tdl_place.proofs.Lawful.{lawful}
use Rattle.tdl_place.proofs.laws.well_placed.Goals as goal

pub returns : goal.returns
returns c = lawful
