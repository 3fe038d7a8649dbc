-- Greatest common divisors that are found by search, and grains.
use Prim.Native.Nat.{◌∣◌}
use Rattle.std.proofs.Common.{◌≡◌, ◌⊎◌, inl, inr, ℕ, zero, suc, ◌+◌, ◌%◌, ◌<◌, ◌≤◌, ◌==◌, Bool, true, false, List, [], ◌∷◌, ◌++◌, map, Some, refl, ap, sym, ◌∙◌, subst, arith}
use Rattle.std.specs.Prelude.{slice_get, if◌then◌else◌, flat_map}
use Rattle.std.specs.Int.{IsGcd}
use Rattle.std.proofs.Math.Nat.{mod-lt, eq-zero_of_zero-dvd}
use Rattle.std.proofs.lemmas.Bool.{cases_lt, and_parts, and_from, eqb-true, eq-eqb, true≢false}
use Rattle.std.proofs.lemmas.Nat.Gcd.{dvd_refl, dvd-zero, dvd_trans, dvd_antisymm, le_of_dvd, dvd_of_mod-eq-zero, mod-eq-zero_of_dvd, IsGcd-from_zero, IsGcd-from_mod}
use Rattle.std.proofs.lemmas.Option.{same_Some}
use Rattle.tdl_mode.specs.declared.program.Module.{Module}
use Rattle.tdl_mode.specs.declared.program.Mode.{Mode}
use Rattle.tdl_mode.specs.declared.program.Switch.{Switch}
use Rattle.tdl_mode.specs.Grains.{IsGrain}
use Rattle.tdl_window.specs.GrainOf.{divides_both, greatest_from, gcd, gcd_of, turns_of, grain_of}

-- ---- two numbers

-- a number that passes divides both
passes-divides : (a b n : ℕ) → divides_both a b n ≡ true → (n ∣ a) × (n ∣ b)
passes-divides a b n e =
    let both = and_parts (a % n == 0) (b % n == 0) e in
    (dvd_of_mod-eq-zero n (eqb-true (a % n) 0 both.0), dvd_of_mod-eq-zero n (eqb-true (b % n) 0 both.1))

-- and one that divides both passes
divides-passes : (a b n : ℕ) → n ∣ a → n ∣ b → divides_both a b n ≡ true
divides-passes a b n first second =
    and_from (a % n == 0) (b % n == 0) (eq-eqb (a % n) 0 (mod-eq-zero_of_dvd n first))
    (eq-eqb (b % n) 0 (mod-eq-zero_of_dvd n second))

-- the search from at least a greatest common divisor above 0 finds it
search-finds : (a b g n : ℕ) → IsGcd a b g → 0 < g → g ≤ n → greatest_from a b n ≡ g
unfolding greatest_from
search-finds a b g zero is some le = absurd (omega (arith, some, le))
search-finds a b g (suc n) is some le = by_test (search-finds a b g n is some) (divides_both a b (suc n)) refl
  where
    below : divides_both a b (suc n) ≡ false → g ≤ n
    below e = by_order (cases_lt n g)
      where
        by_order : (n < g) ⊎ (g ≤ n) → g ≤ n
        by_order (inr fine) = fine
        by_order (inl above) =
            let same : g ≡ suc n = omega (arith, above, le) in
            absurd (true≢false (sym (divides-passes a b g is.0 is.1) ∙ ap (divides_both a b) same ∙ e))

    by_test : (g ≤ n → greatest_from a b n ≡ g) → (t : Bool) → divides_both a b (suc n) ≡ t →
        (if t then suc n else greatest_from a b n) ≡ g
    by_test rest false e = rest (below e)
    by_test rest true e =
        let both = passes-divides a b (suc n) e in
        let at_most : suc n ≤ g = le_of_dvd some (is.2 (suc n) both.0 both.1) in
        omega (arith, at_most, le)

-- a greatest common divisor is the one that is found
pub gcd_is : (a b g : ℕ) → IsGcd a b g → g ≡ gcd a b
unfolding gcd greatest_from
gcd_is a b zero is =
    let first : a ≡ 0 = eq-zero_of_zero-dvd is.0 in
    let second : b ≡ 0 = eq-zero_of_zero-dvd is.1 in
    let none : 0 ≡ a + b = omega (arith, first, second) in
    ap (greatest_from a b) none
gcd_is a b (suc g) is = sym (search-finds a b (suc g) (a + b) is (omega arith) (at_most (cases_lt 0 a) (cases_lt 0 b)))
  where
    at_most : (0 < a) ⊎ (a ≤ 0) → (0 < b) ⊎ (b ≤ 0) → suc g ≤ a + b
    at_most (inl some) other = let h : suc g ≤ a = le_of_dvd some is.0 in omega (arith, h)
    at_most (inr none) (inl some) = let h : suc g ≤ b = le_of_dvd some is.1 in omega (arith, h)
    at_most (inr none) (inr none') =
        let first : 0 ≡ a = omega (arith, none) in
        let second : 0 ≡ b = omega (arith, none') in
        let zero_divides : 0 ∣ suc g =
        is.2 0 (subst (λ x. 0 ∣ x) first (dvd_refl 0)) (subst (λ x. 0 ∣ x) second (dvd_refl 0)) in
        let e : suc g ≡ 0 = eq-zero_of_zero-dvd zero_divides in
        absurd (omega (arith, e))

-- two numbers have a greatest common divisor, by so many remainders at most
remainders : (n a b : ℕ) → b ≤ n → (g : ℕ) × IsGcd a b g
remainders zero a b le = (a, IsGcd-from_zero a b (omega (arith, le)))
remainders (suc n) a zero le = (a, IsGcd-from_zero a 0 refl)
remainders (suc n) a (suc b) le =
    let less : a % suc b < suc b = mod-lt a (omega arith) in
    let rest = remainders n (suc b) (a % suc b) (omega (arith, less, le)) in
    (rest.0, IsGcd-from_mod a (suc b) rest.0 rest.1)

-- so what is found is a greatest common divisor
pub gcd-is : (a b : ℕ) → IsGcd a b (gcd a b)
gcd-is a b =
    let some = remainders b a b (omega arith) in
    subst (IsGcd a b) (gcd_is a b some.0 some.1) some.1

-- ---- lists of numbers

-- d divides each of them
abbrev DividesEach : ℕ → List ℕ → Type 0
DividesEach d [] = Unit {0}
DividesEach d (n ∷ ns) = (d ∣ n) × DividesEach d ns

-- what divides the common divisor divides each number
each-divided : (d : ℕ) (ns : List ℕ) → d ∣ gcd_of ns → DividesEach d ns
unfolding gcd_of
each-divided d [] on = tt
each-divided d (n ∷ ns) on =
    let is = gcd-is n (gcd_of ns) in
    (dvd_trans d on is.0, each-divided d ns (dvd_trans d on is.1))

-- and what divides each divides it
divides-common : (d : ℕ) (ns : List ℕ) → DividesEach d ns → d ∣ gcd_of ns
unfolding gcd_of
divides-common d [] each = dvd-zero d
divides-common d (n ∷ ns) each = (gcd-is n (gcd_of ns)).2 d each.0 (divides-common d ns each.1)

-- two lists, one after the other
each-append : (d : ℕ) (ms ns : List ℕ) → DividesEach d (ms ++ ns) → DividesEach d ms × DividesEach d ns
each-append d [] ns each = (tt, each)
each-append d (m ∷ ms) ns each = let rest = each-append d ms ns each.1 in ((each.0, rest.0), rest.1)

-- and back
append-each : (d : ℕ) (ms ns : List ℕ) → DividesEach d ms → DividesEach d ns → DividesEach d (ms ++ ns)
append-each d [] ns first second = second
append-each d (m ∷ ms) ns first second = (first.0, append-each d ms ns first.1 second)

-- ---- the numbers of a module

-- the offset of a switch, by place
switch-divided : (d : ℕ) (ws : List Switch) → DividesEach d (map (λ (w : Switch). w.at.0) ws) →
    (q : ℕ) (w : Switch) → slice_get ws q ≡ Some w → d ∣ w.at.0
switch-divided d [] each q w at = absurd (cc at)
switch-divided d (v ∷ ws) each zero w at = subst (λ (u : Switch). d ∣ u.at.0) (same_Some v w at) each.0
switch-divided d (v ∷ ws) each (suc q) w at = switch-divided d ws each.1 q w at

-- and all of them
switches-divided : (d : ℕ) (ws : List Switch) → ((q : ℕ) (w : Switch) → slice_get ws q ≡ Some w → d ∣ w.at.0) →
    DividesEach d (map (λ (w : Switch). w.at.0) ws)
switches-divided d [] each = tt
switches-divided d (w ∷ ws) each = (each 0 w refl, switches-divided d ws (λ q v at. each (suc q) v at))

-- the numbers of a mode, by place
mode-divided : (d : ℕ) (modes : List Mode) → DividesEach d (flat_map turns_of modes) →
    (n : ℕ) (mode : Mode) → slice_get modes n ≡ Some mode → DividesEach d (turns_of mode)
mode-divided d [] each n mode at = absurd (cc at)
mode-divided d (m ∷ modes) each zero mode at =
    subst (λ (x : Mode). DividesEach d (turns_of x)) (same_Some m mode at)
    (each-append d (turns_of m) (flat_map turns_of modes) each).0
mode-divided d (m ∷ modes) each (suc n) mode at =
    mode-divided d modes (each-append d (turns_of m) (flat_map turns_of modes) each).1 n mode at

-- and those of all
modes-divided : (d : ℕ) (modes : List Mode) →
    ((n : ℕ) (mode : Mode) → slice_get modes n ≡ Some mode → DividesEach d (turns_of mode)) →
    DividesEach d (flat_map turns_of modes)
modes-divided d [] each = tt
modes-divided d (m ∷ modes) each =
    append-each d (turns_of m) (flat_map turns_of modes) (each 0 m refl)
    (modes-divided d modes (λ n mode at. each (suc n) mode at))

-- the grain is one
pub grain-is : (m : Module) → IsGrain m (grain_of m)
unfolding grain_of
grain-is m = (
  record {
    periods = λ n mode at. (divided n mode at).0;
    switches = λ n q mode w at there. switch-divided (grain_of m) mode.switches (divided n mode at).1 q w there;
  },
  λ d others.
      divides-common d (flat_map turns_of m.modes)
      (modes-divided d m.modes
      (λ n mode at.
      let switches = switches-divided d mode.switches (λ q w there. others.switches n q mode w at there) in
      (others.periods n mode at, switches))),
)
  where
    divided : (n : ℕ) (mode : Mode) → slice_get m.modes n ≡ Some mode → DividesEach (grain_of m) (turns_of mode)
    divided =
        mode-divided (grain_of m) m.modes
        (each-divided (grain_of m) (flat_map turns_of m.modes) (dvd_refl (grain_of m)))

-- and there is no other
pub grain_is : (m : Module) (g : ℕ) → IsGrain m g → g ≡ grain_of m
grain_is m g is = let own = grain-is m in dvd_antisymm (own.1 g is.0) (is.1 (grain_of m) own.0)
