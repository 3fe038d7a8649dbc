use Rattle.std.proofs.Common.{◌≡◌, drop, bytes_eq}
use Rattle.tdl_mode.specs.declared.program.Mode.{Mode}
use Rattle.tdl_sched.specs.Looked.{first_from}
use Rattle.tdl_sched.proofs.found.mode_named.Given as goal

abbrev pub invariant-loop-place : goal.invariant-loop-place
invariant-loop-place l =
    first_from (λ (x : Mode). bytes_eq x.name l.name) l.place (drop l.place l.modes)
    ≡ first_from (λ (x : Mode). bytes_eq x.name l.name) 0 l.modes
