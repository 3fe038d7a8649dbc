use Rattle.std.proofs.Common.{◌≡◌, suc, ◌+◌, drop}
use Rattle.tdl_base.specs.Lists.{first_of}
use Rattle.tdl_window.specs.Faults.{partners_of}
use Rattle.tdl_window.proofs.walk.first_partner.Given as goal

abbrev pub invariant-loop-place : goal.invariant-loop-place
invariant-loop-place g l =
    first_of (partners_of (g.R.OnPair.breaks l.rule) l.number l.window (suc (l.number + l.place))
    (drop l.place l.later))
    ≡ first_of (partners_of (g.R.OnPair.breaks l.rule) l.number l.window (suc l.number) l.later)
