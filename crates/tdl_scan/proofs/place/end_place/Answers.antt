use Rattle.std.proofs.Common.{[]}
use Rattle.tdl_scan.proofs.place.end_place.Goals as goal

pub returns : goal.returns
returns c = c.after.ensures [] c.start.ensures
