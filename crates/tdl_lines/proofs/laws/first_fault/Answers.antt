use Rattle.tdl_lines.proofs.FirstFault.{none_is, first_is, first_is_one}
use Rattle.tdl_lines.proofs.laws.first_fault.Goals as goal

pub returns : goal.returns
returns c = record { none = none_is; first = first_is; one = first_is_one }
