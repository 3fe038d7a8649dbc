-- What divides a mode, and the greatest of such divisors.
use Rattle.std.specs.Prelude.{◌≡◌, ℕ, Some, slice_get}
use Prim.Native.Nat.{◌∣◌}
use Rattle.tdl_mode.specs.declared.program.Mode.{Mode}
use Rattle.tdl_mode.specs.declared.program.Switch.{Switch}

-- d divides the period of the mode, and the offset of each of its switches
abbrev pub DividesMode : ℕ → Mode → Type 0
DividesMode d mode =
    (d ∣ mode.period.0) × ((q : ℕ) (w : Switch) → slice_get mode.switches q ≡ Some w → d ∣ w.at.0)

-- what divides g is what divides n and is a divisor of such a kind
pub record IsGcdWith (n : ℕ) (Divides : ℕ → Type 0) (g : ℕ) : Type 0 where
  pub common : (d : ℕ) → d ∣ g → (d ∣ n) × Divides d
  pub greatest : (d : ℕ) → d ∣ n → Divides d → d ∣ g
