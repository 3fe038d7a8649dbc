use Rattle.tdl_verify.proofs.LiveWindows.{live-open, open-live, two-clash, clash-stops, one-runs, part-rests}
use Rattle.tdl_verify.proofs.laws.microseconds.Goals as goal

pub returns-clause-open : goal.returns-clause-open
returns-clause-open c = live-open

pub returns-clause-live : goal.returns-clause-live
returns-clause-live c = open-live

pub returns-clause-clashes : goal.returns-clause-clashes
returns-clause-clashes c = two-clash

pub returns-clause-stops : goal.returns-clause-stops
returns-clause-stops c x horizon sensed times lost s front back n are walk clash =
    clash-stops x horizon sensed times lost s front n back are walk clash

pub returns-clause-alone : goal.returns-clause-alone
returns-clause-alone c = one-runs

pub returns-clause-rests : goal.returns-clause-rests
returns-clause-rests c = part-rests
