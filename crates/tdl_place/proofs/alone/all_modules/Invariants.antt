use Rattle.std.proofs.Common.{◌≡◌, ◌++◌, drop}
use Rattle.tdl_base.specs.Lists.{numbered}
use Rattle.tdl_mode.specs.declared.program.Module.{Module}
use Rattle.tdl_place.proofs.alone.all_modules.Given as goal

abbrev pub invariant-loop-number : goal.invariant-loop-number
invariant-loop-number l =
    l.all ++ numbered l.number (λ m (d : Module). record { 0 = m }) (drop l.number l.program.modules)
    ≡ numbered 0 (λ m (d : Module). record { 0 = m }) l.program.modules
