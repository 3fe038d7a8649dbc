use Rattle.std.proofs.Common.{arith}
use Rattle.tdl_quiet.proofs.QuietRuns.{state_at-stays, rows_at-none}
use Rattle.tdl_quiet.proofs.laws.idle.Goals as goal

pub returns-clause-same : goal.returns-clause-same
returns-clause-same c program course x y well above below =
    state_at-stays program course x well y (omega (arith, above)) below

pub returns-clause-no_rows : goal.returns-clause-no_rows
returns-clause-no_rows c program placement course x y well above below =
    rows_at-none program course x well placement y above below
