use Rattle.std.proofs.Common.{refl}
use Rattle.tdl_verify.specs.States.{Slot}
use Rattle.tdl_verify.proofs.Releases.{starts_job, stays_busy, along-keeps}
use Rattle.tdl_verify.proofs.laws.releases.Goals as goal

pub returns-clause-copies : goal.returns-clause-copies
returns-clause-copies c = starts_job

pub returns-clause-keeps : goal.returns-clause-keeps
returns-clause-keeps c k x s windows t mode invocation left cells =
    along-keeps k x s windows t mode invocation cells (Slot.Ready mode invocation left cells) (refl, refl, refl)

pub returns-clause-busy : goal.returns-clause-busy
returns-clause-busy c = stays_busy
