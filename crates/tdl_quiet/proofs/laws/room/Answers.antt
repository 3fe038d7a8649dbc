use Rattle.tdl_quiet.proofs.RowCounts.{rows_at-within}
use Rattle.tdl_quiet.proofs.laws.room.Goals as goal

pub returns : goal.returns
returns c = rows_at-within
