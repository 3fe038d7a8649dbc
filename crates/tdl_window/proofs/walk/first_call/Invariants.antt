use Rattle.std.proofs.Common.{◌≡◌, drop}
use Rattle.tdl_base.specs.Lists.{first_of, joined, numbered}
use Rattle.tdl_window.specs.Faults.{module_breaking, calls_breaking}
use Rattle.tdl_window.proofs.walk.first_call.Given as goal

abbrev pub invariant-loop-place : goal.invariant-loop-place
invariant-loop-place g l =
    first_of (joined (numbered l.place (module_breaking (g.R.OnInvocation.breaks l.rule))
    (drop l.place l.program.modules)))
    ≡ first_of (calls_breaking (g.R.OnInvocation.breaks l.rule) l.program)
