use Rattle.std.proofs.Common.{◌≡◌, drop, bytes_eq}
use Rattle.tdl_mode.specs.declared.program.Module.{Module}
use Rattle.tdl_sched.specs.Looked.{first_from}
use Rattle.tdl_sched.proofs.found.module_named.Given as goal

abbrev pub invariant-loop-place : goal.invariant-loop-place
invariant-loop-place l =
    first_from (λ (x : Module). bytes_eq x.name l.name) l.place (drop l.place l.modules)
    ≡ first_from (λ (x : Module). bytes_eq x.name l.name) 0 l.modules
