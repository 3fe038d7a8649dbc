use Rattle.tdl_base.proofs.NumberLaws.{narrowed_of_kind, narrowed_differs}
use Rattle.tdl_base.proofs.laws.narrowing.Goals as goal

pub returns-clause-of_kind : goal.returns-clause-of_kind
returns-clause-of_kind c = narrowed_of_kind

pub returns-clause-low_bits : goal.returns-clause-low_bits
returns-clause-low_bits c = narrowed_differs
