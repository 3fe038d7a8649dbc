-- The grain of a module: what every beginning of its cycles is a multiple of.
use Rattle.std.specs.Prelude.{◌≡◌, ℕ, Some, slice_get}
use Prim.Native.Nat.{◌∣◌}
use Rattle.tdl_mode.specs.declared.program.Module.{Module}
use Rattle.tdl_mode.specs.declared.program.Mode.{Mode}
use Rattle.tdl_mode.specs.declared.program.Switch.{Switch}

-- d divides the period of each mode, and the offset of each switch
pub record DividesCycles (d : ℕ) (m : Module) : Type 0 where
  pub periods : (n : ℕ) (mode : Mode) → slice_get m.modes n ≡ Some mode → d ∣ mode.period.0
  pub switches : (n q : ℕ) (mode : Mode) (w : Switch) →
      slice_get m.modes n ≡ Some mode → slice_get mode.switches q ≡ Some w → d ∣ w.at.0

-- the grain: the greatest common divisor of all periods and all switch offsets
abbrev pub IsGrain : Module → ℕ → Type 0
IsGrain m grain = DividesCycles grain m × ((d : ℕ) → DividesCycles d m → d ∣ grain)
