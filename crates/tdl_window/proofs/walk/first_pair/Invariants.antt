use Rattle.std.proofs.Common.{◌≡◌, ◌+◌, ◌≤◌, length}
use Rattle.tdl_base.specs.Lists.{first_of}
use Rattle.tdl_base.specs.declared.limits.TheConstants.{WINDOWS}
use Rattle.tdl_window.specs.Faults.{pairs_breaking}
use Rattle.tdl_window.proofs.walk.first_pair.Given as goal

abbrev pub invariant-loop-left : goal.invariant-loop-left
invariant-loop-left g l =
    (first_of (pairs_breaking (g.R.OnPair.breaks l.rule) l.number l.left)
    ≡ first_of (pairs_breaking (g.R.OnPair.breaks l.rule) 1 l.windows))
    × (l.number + length l.left ≤ WINDOWS + 1)

abbrev pub decreases-loop-left : goal.decreases-loop-left
decreases-loop-left g l = length l.left
