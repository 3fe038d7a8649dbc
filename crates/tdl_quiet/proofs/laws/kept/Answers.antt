use Rattle.tdl_quiet.proofs.OpenJobs.{state_at-open}
use Rattle.tdl_quiet.proofs.Standing.{state_at-stands, state_at-definitions}
use Rattle.tdl_quiet.proofs.laws.kept.Goals as goal

pub returns-clause-stands : goal.returns-clause-stands
returns-clause-stands c program course x well = state_at-stands program course x well

pub returns-clause-jobs : goal.returns-clause-jobs
returns-clause-jobs c program course x k m well at =
    state_at-open c.activities.ensures.releases program course x k m well at

pub returns-clause-definitions : goal.returns-clause-definitions
returns-clause-definitions c = state_at-definitions
