-- The grains of the three modules, and windows of two of them that do not meet.
use Rattle.std.proofs.Common.{◌≡◌, ℕ, Some, refl}
use Rattle.std.specs.Prelude.{slice_get, ◌%◌}
use Rattle.std.specs.Int.{IsGcd}
use Rattle.std.proofs.lemmas.Nat.Gcd.{dvd_of_mod-eq-zero, IsGcd-from_zero, IsGcd-from_mod, IsGcd-swap}
use Rattle.tdl_mode.specs.declared.program.Module.{Module}
use Rattle.tdl_mode.specs.declared.program.Mode.{Mode}
use Rattle.tdl_mode.specs.declared.program.Switch.{Switch}
use Rattle.tdl_mode.specs.Grains.{IsGrain, DividesCycles}
use Rattle.tdl_deploy.specs.Passes.{Meets, ApartModulo}
use Rattle.tdl_meaning.specs.ExampleThree.{quick_mode, meter, gathering_mode, panel, checking_mode, watch, three_modules}
use Rattle.tdl_meaning.proofs.ExamplePlaces.{◌▸◌, Each, from_each}
use Prim.Native.Nat.{◌∣◌}
use Rattle.tdl_deploy.specs.declared.schedule.Window.{Window}

-- d divides the period of a mode and the offset of each of its switches
abbrev DividesMode : ℕ → Mode → Type 0
DividesMode d mode = (d ∣ mode.period.0) × Each (λ q (w : Switch). d ∣ w.at.0) mode.switches

-- what divides mode by mode divides the cycles
divides : (d : ℕ) (m : Module) → Each (λ n. DividesMode d) m.modes → DividesCycles d m
divides d m all = record {
  periods = λ n mode at. (of_mode n mode at).0;
  switches = λ n q mode w at bt. from_each (λ q (w : Switch). d ∣ w.at.0) mode.switches (of_mode n mode at).1 q w bt;
}
  where
    of_mode : (n : ℕ) (mode : Mode) → slice_get m.modes n ≡ Some mode → DividesMode d mode
    of_mode = from_each (λ n. DividesMode d) m.modes all

-- what leaves no rest by 10 us is a multiple of it
tens : {n : ℕ} → n % 10 ≡ 0 → 10 ∣ n
tens = dvd_of_mod-eq-zero 10

-- the grain of the meter
meter_grain : IsGrain meter 10
meter_grain = (
  divides 10 meter ((tens refl, tens refl ▸ tt) ▸ (tens refl, tens refl ▸ tt) ▸ tt),
  λ d cycles. cycles.periods 0 quick_mode refl,
)

-- the grain of the panel
panel_grain : IsGrain panel 10
panel_grain = (divides 10 panel ((tens refl, tt) ▸ tt), λ d cycles. cycles.periods 0 gathering_mode refl)

-- the grain of the watch
watch_grain : IsGrain watch 15
watch_grain =
    (divides 15 watch ((dvd_of_mod-eq-zero 15 refl, tt) ▸ tt), λ d cycles. cycles.periods 0 checking_mode refl)

-- the grains of the meter and the watch have 5 in common
five : IsGcd 10 15 5
five = IsGcd-swap 15 10 5 (IsGcd-from_mod 15 10 5 (IsGcd-from_mod 10 5 5 (IsGcd-from_zero 5 0 refl)))

-- those of the meter and the panel are the same
ten : IsGcd 10 10 10
ten = IsGcd-from_mod 10 10 10 (IsGcd-from_zero 10 0 refl)

-- windows of two modules that do not meet in what divides both grains are apart
apart_by : (left right : Module) (a b both : ℕ) → IsGrain left a → IsGrain right b → IsGcd a b both → (v w : Window) →
    slice_get three_modules.modules v.module.0 ≡ Some left → slice_get three_modules.modules w.module.0 ≡ Some right →
    (Meets v w both → ⊥) → ApartModulo three_modules v w
apart_by left right a b both is_a is_b is_both v w at at' apart = record {
  left = left;
  right = right;
  left_at = at;
  right_at = at';
  grain = a;
  grain' = b;
  both = both;
  is_grain = is_a;
  is_grain' = is_b;
  is_both = is_both;
  apart = apart;
}

-- a window of the meter that does not meet one of the watch in 5 us is apart from it
pub meter_apart_watch : (v w : Window) → slice_get three_modules.modules v.module.0 ≡ Some meter →
    slice_get three_modules.modules w.module.0 ≡ Some watch → (Meets v w 5 → ⊥) → ApartModulo three_modules v w
meter_apart_watch = apart_by meter watch 10 15 5 meter_grain watch_grain five

-- a window of the meter that does not meet one of the panel in 10 us is apart from it
pub meter_apart_panel : (v w : Window) → slice_get three_modules.modules v.module.0 ≡ Some meter →
    slice_get three_modules.modules w.module.0 ≡ Some panel → (Meets v w 10 → ⊥) → ApartModulo three_modules v w
meter_apart_panel = apart_by meter panel 10 10 10 meter_grain panel_grain ten
