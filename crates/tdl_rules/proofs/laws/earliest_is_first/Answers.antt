use Rattle.tdl_rules.proofs.Firsts.{earliest-none, earliest-nil, earliest-first, first-earliest}
use Rattle.tdl_rules.proofs.InOrder.{first_of-in_order}
use Rattle.tdl_rules.proofs.laws.earliest_is_first.Goals as goal

pub returns-clause-absent : goal.returns-clause-absent
returns-clause-absent c fs = (earliest-none fs, earliest-nil fs)

pub returns-clause-first : goal.returns-clause-first
returns-clause-first c f fs = (earliest-first fs f, first-earliest fs f)

pub returns-clause-begins : goal.returns-clause-begins
returns-clause-begins c = first_of-in_order
