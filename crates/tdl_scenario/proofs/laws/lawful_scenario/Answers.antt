use Rattle.tdl_scenario.proofs.Lawful.{lawful}
use Rattle.tdl_scenario.proofs.laws.lawful_scenario.Goals as goal

pub returns : goal.returns
returns c = lawful
