use Rattle.tdl_grammar.specs.Example.{Text, read_free, is_minus, is_begin}
use Rattle.tdl_grammar.specs.Goodness.{never, any}
use Rattle.tdl_grammar.proofs.Whole.{all_spelled, all_read, all_fault}
use Rattle.tdl_grammar.proofs.ExampleReads.{good_free}
use Rattle.tdl_grammar.proofs.laws.without_limits.Goals as goal

pub returns-clause-tree : goal.returns-clause-tree
returns-clause-tree c = all_spelled read_free Text Text (any is_minus is_begin) never good_free

pub returns-clause-only : goal.returns-clause-only
returns-clause-only c = all_read read_free Text Text (any is_minus is_begin) never good_free

pub returns-clause-fault : goal.returns-clause-fault
returns-clause-fault c = all_fault read_free Text (any is_minus is_begin) never good_free
