use Rattle.tdl_scan.proofs.Cutting.{number_some}
use Rattle.tdl_scan.proofs.piece.number_length.Goals as goal

pub returns : goal.returns
returns c = number_some c.args.bytes.now c.digit_run.result c.requires c.digit_run.ensures
