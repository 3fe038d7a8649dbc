use Rattle.std.proofs.Common.{◌≡◌, drop}
use Rattle.tdl_base.specs.Lists.{first_of, joined, numbered}
use Rattle.tdl_window.specs.Faults.{mode_breaking, module_breaking}
use Rattle.tdl_window.proofs.walk.first_of_module.Given as goal

abbrev pub invariant-loop-place : goal.invariant-loop-place
invariant-loop-place g l =
    first_of (joined (numbered l.place (mode_breaking (g.R.OnInvocation.breaks l.rule) l.«module».0 l.owner)
    (drop l.place l.owner.modes)))
    ≡ first_of (module_breaking (g.R.OnInvocation.breaks l.rule) l.«module».0 l.owner)
