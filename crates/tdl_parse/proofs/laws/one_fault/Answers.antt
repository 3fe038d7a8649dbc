use Rattle.tdl_tree.proofs.Faulty as faulty
use Rattle.tdl_parse.proofs.SyntaxFaults.{sentence_no_fault}
use Rattle.tdl_parse.proofs.laws.one_fault.Goals as goal

pub returns : goal.returns
returns c = record { once = faulty.one_fault; never_both = sentence_no_fault }
