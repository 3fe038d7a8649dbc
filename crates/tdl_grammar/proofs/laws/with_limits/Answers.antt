use Rattle.tdl_grammar.specs.Example.{Text, Limited, read_limited, is_minus, is_begin}
use Rattle.tdl_grammar.specs.Goodness.{never, any}
use Rattle.tdl_grammar.proofs.Whole.{all_spelled, all_read}
use Rattle.tdl_grammar.proofs.ExampleReads.{good_limited}
use Rattle.tdl_grammar.proofs.laws.with_limits.Goals as goal

pub returns-clause-tree : goal.returns-clause-tree
returns-clause-tree c = all_spelled read_limited Limited Text (any is_minus is_begin) never good_limited

pub returns-clause-only : goal.returns-clause-only
returns-clause-only c = all_read read_limited Limited Text (any is_minus is_begin) never good_limited
