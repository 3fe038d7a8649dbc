use Rattle.tdl_window.proofs.Commons.{grain_is}
use Rattle.tdl_window.proofs.modulo.grain_of.Goals as goal

pub returns : goal.returns
returns c = grain_is c.args.«module».now c.grain.result.0 c.grain.ensures
