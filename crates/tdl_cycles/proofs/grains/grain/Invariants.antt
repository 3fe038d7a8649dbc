use Rattle.tdl_cycles.specs.Divisors.{IsGcdWith, DividesMode}
use Rattle.tdl_cycles.proofs.Dividing.{EachOfFirst}
use Rattle.tdl_cycles.proofs.grains.grain.Given as goal

abbrev pub invariant-loop-mode : goal.invariant-loop-mode
invariant-loop-mode l = IsGcdWith 0 (λ d. EachOfFirst (DividesMode d) l.mode-index l.mode-items) l.grain
