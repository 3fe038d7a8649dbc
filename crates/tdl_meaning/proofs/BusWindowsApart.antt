-- No two bus windows are under way at once.
use Rattle.std.proofs.Common.{◌≡◌, ℕ, ◌+◌, ◌<◌, ◌≤◌, true, Some, ap, sym, ◌∙◌, subst, inl, inr, arith}
use Rattle.std.specs.Prelude.{◌%◌, slice_get, ◌⊎◌}
use Prim.Native.Nat.{◌∣◌}
use Rattle.std.proofs.lemmas.Bool.{ne_eqb, cases_order}
use Rattle.std.proofs.lemmas.Nat.Gcd.{dvd_trans, mod-eq-zero_of_dvd}
use Rattle.std.proofs.Math.Nat.{add-mod, mod-mod}
use Rattle.std.proofs.lemmas.Option.{same_Some}
use Rattle.tdl_mode.specs.declared.program.Module.{Module}
use Rattle.tdl_deploy.specs.declared.schedule.Window.{Window}
use Rattle.tdl_deploy.specs.Passes.{is_bus, ApartModulo, Clear}
use Rattle.tdl_mode.specs.Grains.{DividesCycles}
use Rattle.tdl_meaning.specs.Accepted.{Accepted}

-- a multiple of d changes no remainder of d
same_rest : (d base y : ℕ) → d ∣ base → (base + y) % d ≡ y % d
same_rest d base y div =
    add-mod base y d ∙ ap (λ a. (a + y % d) % d) (mod-eq-zero_of_dvd d div) ∙ ap (λ n. n % d) (plain (y % d))
    ∙ mod-mod y d
  where
    plain : (n : ℕ) → 0 + n ≡ n
    plain n = omega arith

-- a base is a multiple of whatever divides the cycles of the module
abbrev pub OnGrain : Module → ℕ → Type 0
OnGrain m base = (g : ℕ) → DividesCycles g m → g ∣ base

module _ (given : Accepted) where
  -- windows that do not meet modulo the grains of their modules are not under way at one instant
  apart_now : (v w : Window) → ApartModulo given.program v w → (m n : Module) →
      slice_get given.program.modules v.module.0 ≡ Some m → slice_get given.program.modules w.module.0 ≡ Some n →
      (base base' y z : ℕ) → OnGrain m base → OnGrain n base' →
      v.offset ≤ y → y < v.offset + v.length → w.offset ≤ z → z < w.offset + w.length → base + y ≡ base' + z → ⊥
  apart_now v w a m n mat nat' base base' y z on on' y0 y1 z0 z1 same =
      let e : a.left ≡ m = same_Some a.left m (sym a.left_at ∙ mat) in
      let e' : a.right ≡ n = same_Some a.right n (sym a.right_at ∙ nat') in
      let divides : a.both ∣ base =
      dvd_trans a.both a.is_both.0 (on a.grain (subst (DividesCycles a.grain) e a.is_grain.0)) in
      let divides' : a.both ∣ base' =
      dvd_trans a.both a.is_both.1 (on' a.grain' (subst (DividesCycles a.grain') e' a.is_grain'.0)) in
      a.apart (record {
        y = y;
        z = z;
        y_from = y0;
        y_below = y1;
        z_from = z0;
        z_below = z1;
        same = sym (same_rest a.both base y divides) ∙ ap (λ n. n % a.both) same
            ∙ same_rest a.both base' z divides';
      })

  -- two bus windows of different modules are not under way at one instant
  pub two_modules : (q r : ℕ) (v w : Window) → slice_get given.schedule.windows q ≡ Some v →
      slice_get given.schedule.windows r ≡ Some w → is_bus v.resource ≡ true → is_bus w.resource ≡ true →
      (v.module.0 ≡ w.module.0 → ⊥) →
      (m n : Module) → slice_get given.program.modules v.module.0 ≡ Some m →
      slice_get given.program.modules w.module.0 ≡ Some n → (base base' y z : ℕ) → OnGrain m base →
      OnGrain n base' →
      v.offset ≤ y → y < v.offset + v.length → w.offset ≤ z → z < w.offset + w.length → base + y ≡ base' + z → ⊥
  two_modules q r v w vat wat vb wb ne m n mat nat' base base' y z on on' y0 y1 z0 z1 same =
      by_order (cases_order q r)
    where
      by_order : (q ≡ r) ⊎ ((q < r) ⊎ (r < q)) → ⊥
      by_order (inl e) =
          let same_place = sym vat ∙ ap (slice_get given.schedule.windows) e ∙ wat in
          ne (ap (λ (u : Window). u.module.0) (same_Some v w same_place))
      by_order (inr (inl lt)) =
          let clear = given.passes.bus_apart q r v w lt vat wat vb wb (ne_eqb v.module.0 w.module.0 ne) in
          apart_now v w clear m n mat nat' base base' y z on on' y0 y1 z0 z1 same
      by_order (inr (inr lt)) =
          let other = ne_eqb w.module.0 v.module.0 (λ e. ne (sym e)) in
          let clear = given.passes.bus_apart r q w v lt wat vat wb vb other in
          apart_now w v clear n m nat' mat base' base z y on' on z0 z1 y0 y1 (sym same)

  -- two bus windows of one module and mode at different places are not under way at the same offset
  pub one_module : (q r : ℕ) (v w : Window) → (q ≡ r → ⊥) → slice_get given.schedule.windows q ≡ Some v →
      slice_get given.schedule.windows r ≡ Some w → is_bus v.resource ≡ true → is_bus w.resource ≡ true →
      v.module.0 ≡ w.module.0 → v.mode.0 ≡ w.mode.0 →
      (y : ℕ) → v.offset ≤ y → y < v.offset + v.length → w.offset ≤ y → y < w.offset + w.length → ⊥
  one_module q r v w ne vat wat vb wb module' mode y v0 v1 w0 w1 = by_order (cases_order q r)
    where
      by_side : Clear v w → ⊥
      by_side (inl le) = omega (arith, le, v0, v1, w0, w1)
      by_side (inr le) = omega (arith, le, v0, v1, w0, w1)

      by_other_side : Clear w v → ⊥
      by_other_side (inl le) = by_side (inr le)
      by_other_side (inr le) = by_side (inl le)

      by_order : (q ≡ r) ⊎ ((q < r) ⊎ (r < q)) → ⊥
      by_order (inl e) = ne e
      by_order (inr (inl lt)) = by_side (given.passes.apart q r v w lt vat wat (vb ∙ sym wb) module' mode)
      by_order (inr (inr lt)) =
          by_other_side (given.passes.apart r q w v lt wat vat (wb ∙ sym vb) (sym module') (sym mode))
