use Rattle.std.specs.Int.{w64}
use Rattle.tdl_base.proofs.NumberLaws.{int_wrap_range-64, int_wrap_differs}
use Rattle.tdl_base.proofs.laws.wrapping.Goals as goal

pub returns-clause-range : goal.returns-clause-range
returns-clause-range c = int_wrap_range-64

pub returns-clause-multiple : goal.returns-clause-multiple
returns-clause-multiple c = int_wrap_differs w64
