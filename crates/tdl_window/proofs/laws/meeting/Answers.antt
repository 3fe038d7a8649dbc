use Rattle.tdl_window.proofs.Residues.{meet-meets, meets-meet}
use Rattle.tdl_window.proofs.laws.meeting.Goals as goal

pub returns : goal.returns
returns c = λ d v w. (meet-meets d v w, meets-meet d v w)
