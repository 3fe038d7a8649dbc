use Rattle.tdl_quiet.proofs.QuietRuns.{logical_rows-stay}
use Rattle.tdl_quiet.proofs.laws.quiet_rows.Goals as goal

pub returns : goal.returns
returns c program placement course x k well below = logical_rows-stay program course x well placement k below
