use Rattle.tdl_verify.proofs.Arrivals.{received-outputs, job-arrives, job-due, due-after, none-arrives, entry-taken}
use Rattle.tdl_verify.proofs.laws.arrivals.Goals as goal

pub returns-clause-stay : goal.returns-clause-stay
returns-clause-stay c x t f p = received-outputs x f p t

pub returns-clause-copied : goal.returns-clause-copied
returns-clause-copied c = job-arrives

pub returns-clause-due : goal.returns-clause-due
returns-clause-due c = job-due

pub returns-clause-not_before : goal.returns-clause-not_before
returns-clause-not_before c = due-after

pub returns-clause-none : goal.returns-clause-none
returns-clause-none c = none-arrives

pub returns-clause-taken : goal.returns-clause-taken
returns-clause-taken c x node pc r p s e now = entry-taken x node p s pc r e now
