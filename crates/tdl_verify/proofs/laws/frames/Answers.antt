use Rattle.tdl_verify.proofs.Arrivals.{starts-in_mode}
use Rattle.tdl_verify.proofs.laws.frames.Goals as goal

pub returns : goal.returns
returns c x until i h s frame at = starts-in_mode x h s frame until i at
