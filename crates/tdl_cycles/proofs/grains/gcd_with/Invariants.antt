use Prim.Native.Nat.{◌∣◌}
use Rattle.tdl_cycles.specs.Divisors.{IsGcdWith}
use Rattle.tdl_cycles.proofs.Dividing.{EachOfFirst}
use Rattle.tdl_cycles.proofs.grains.gcd_with.Given as goal

abbrev pub invariant-loop-switch : goal.invariant-loop-switch
invariant-loop-switch l =
    IsGcdWith l.fn.number
    (λ d. (d ∣ l.fn.mode.period.0) × EachOfFirst (λ w. d ∣ w.at.0) l.switch-index l.switch-items) l.divisor
