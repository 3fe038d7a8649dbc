use Rattle.std.proofs.Common.{◌≡◌, suc, drop}
use Rattle.tdl_base.specs.Lists.{first_of}
use Rattle.tdl_window.specs.declared.error.SchedAt.TheVariants as at
use Rattle.tdl_window.specs.Faults.{places_of, mode_breaking}
use Rattle.tdl_window.proofs.walk.first_of_mode.Given as goal

abbrev pub invariant-loop-place : goal.invariant-loop-place
invariant-loop-place g l =
    first_of (places_of (at.Invocation l.«module» l.mode)
    (g.R.OnInvocation.breaks l.rule l.«module».0 l.owner l.mode.0) (suc l.place)
    (drop l.place l.text.invocations))
    ≡ first_of (mode_breaking (g.R.OnInvocation.breaks l.rule) l.«module».0 l.owner l.mode.0 l.text)
