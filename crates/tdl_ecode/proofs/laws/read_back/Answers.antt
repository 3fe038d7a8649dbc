use Rattle.tdl_ecode.proofs.Apart.{reading-spelled}
use Rattle.tdl_ecode.proofs.laws.read_back.Goals as goal

pub returns : goal.returns
returns c = reading-spelled
