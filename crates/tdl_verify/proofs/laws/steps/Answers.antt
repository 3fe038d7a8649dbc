use Rattle.tdl_verify.proofs.Leads.{begin, one_on, one_over, one_stop, finished, is_spent}
use Rattle.tdl_verify.proofs.Sweeps.{least_at}
use Rattle.tdl_verify.proofs.laws.steps.Goals as goal

pub returns-clause-picks : goal.returns-clause-picks
returns-clause-picks c x phase front back p d more = least_at x phase front p back d more

pub returns-clause-begins : goal.returns-clause-begins
returns-clause-begins c = begin

pub returns-clause-goes_on : goal.returns-clause-goes_on
returns-clause-goes_on c x node sensed times front back p q b pc then' i rows has acts =
    one_on x node sensed times front p back b pc i q rows then' has acts

pub returns-clause-returns : goal.returns-clause-returns
returns-clause-returns c x node sensed times front back p q b pc i rows has acts =
    one_over x node sensed times front p back b pc i q rows has acts

pub returns-clause-traps : goal.returns-clause-traps
returns-clause-traps c x node k sensed times front back p b pc i rows reason has acts =
    one_stop x node sensed times front p back b pc i reason has acts k rows

pub returns-clause-over : goal.returns-clause-over
returns-clause-over c x node k sensed times parts rows none = finished x node sensed times k parts rows none

pub returns-clause-spent : goal.returns-clause-spent
returns-clause-spent c x node sensed times parts part b pc i rows has =
    is_spent x node sensed times parts part b pc i rows has
