use Rattle.tdl_kept.proofs.Counts.{keeps_counts}
use Rattle.tdl_kept.proofs.laws.counts.Goals as goal

pub returns : goal.returns
returns c = keeps_counts
