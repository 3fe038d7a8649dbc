use Rattle.tdl_image.proofs.OneSpelling.{one_spelling}
use Rattle.tdl_image.proofs.laws.one_spelling.Goals as goal

pub returns : goal.returns
returns c = one_spelling
