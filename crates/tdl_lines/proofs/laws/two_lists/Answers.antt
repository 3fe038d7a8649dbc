use Rattle.tdl_lines.proofs.FirstFault.{earliest-append}
use Rattle.tdl_lines.proofs.laws.two_lists.Goals as goal

pub returns : goal.returns
returns c = earliest-append
