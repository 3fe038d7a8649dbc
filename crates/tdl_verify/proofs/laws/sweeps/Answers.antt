use Rattle.tdl_verify.specs.Sweeps.{Sees}
use Rattle.tdl_verify.proofs.Sweeps.{phase_runs}
use Rattle.std.proofs.Common.{[], refl}
use Rattle.tdl_verify.proofs.laws.sweeps.Goals as goal

pub returns : goal.returns
returns c x node phase sensed times seen ns moves sees low =
    phase_runs x node sensed times phase (Sees seen ns) [] moves sees low (λ n. refl)
