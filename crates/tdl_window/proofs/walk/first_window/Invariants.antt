use Rattle.std.proofs.Common.{◌≡◌, suc, drop}
use Rattle.tdl_base.specs.Lists.{first_of}
use Rattle.tdl_window.specs.declared.error.SchedAt.TheVariants as at
use Rattle.tdl_window.specs.Faults.{places_of, windows_breaking}
use Rattle.tdl_window.proofs.walk.first_window.Given as goal

abbrev pub invariant-loop-place : goal.invariant-loop-place
invariant-loop-place g l =
    first_of (places_of at.Window (λ q w. g.R.OnWindow.breaks l.rule w) (suc l.place) (drop l.place l.windows))
    ≡ first_of (windows_breaking (g.R.OnWindow.breaks l.rule) l.windows)
