use Rattle.tdl_quiet.proofs.QuietRuns.{state_at-jumps, logical_rows-jump}
use Rattle.tdl_quiet.proofs.laws.jump.Goals as goal

pub returns-clause-state : goal.returns-clause-state
returns-clause-state c program course x y well above within = state_at-jumps program course x well y above within

pub returns-clause-rows : goal.returns-clause-rows
returns-clause-rows c program placement course x y well above within =
    logical_rows-jump program course x well placement y above within
