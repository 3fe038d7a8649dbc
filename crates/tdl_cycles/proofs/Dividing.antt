-- Greatest common divisors, number by number and item by item.
use Rattle.std.proofs.Common.{◌≡◌, ◌⊎◌, inl, inr, ℕ, ◌+◌, ◌<◌, ◌≤◌, List, Some, get_or, length, ap, refl, sym, ◌∙◌, subst, arith}
use Rattle.std.specs.Prelude.{slice_get}
use Rattle.std.specs.Int.{IsGcd}
use Prim.Native.Nat.{◌∣◌}
use Rattle.std.proofs.lemmas.Nat.Gcd.{dvd_trans}
use Rattle.std.proofs.lemmas.Bool.{cases_lt}
use Rattle.std.proofs.lemmas.Option.{slice_get_read, slice_get_within, get_or_from_slice_get}
use Rattle.tdl_cycles.specs.Divisors.{IsGcdWith}

-- the divisors of a greatest common divisor are the common divisors
pub with_number : (a b g : ℕ) → IsGcd a b g → IsGcdWith a (λ d. d ∣ b) g
with_number a b g is = record {
  common = λ d on. (dvd_trans d on is.0, dvd_trans d on is.1);
  greatest = is.2;
}

-- a kind of divisors after another
pub with_more : (n g h : ℕ) (P Q R : ℕ → Type 0) → IsGcdWith n P g → IsGcdWith g Q h →
    ((d : ℕ) → P d → Q d → R d) → ((d : ℕ) → R d → P d × Q d) → IsGcdWith n R h
with_more n g h P Q R first second join split = record {
  common = λ d on.
      let two = second.common d on in
      let one = first.common d two.0 in
      (one.0, join d one.1 two.1);
  greatest = λ d on both.
      let parts = split d both in
      second.greatest d (first.greatest d on parts.0) parts.1;
}

-- P holds of each of the first n items
abbrev pub EachOfFirst : {X : Type 0} → (X → Type 0) → ℕ → List X → Type 0
EachOfFirst {X} P n xs = (k : ℕ) (x : X) → k < n → slice_get xs k ≡ Some x → P x

module _ {X : Type 0} (P : X → Type 0) (xs : List X) (n : ℕ) (x : X) (within : n < length xs) (is : x ≡ get_or xs n x) where
  -- what holds of the first items and of the next holds of one item more
  pub each-more : EachOfFirst P n xs → P x → EachOfFirst P (n + 1) xs
  each-more first here = λ k y below at. by_place k y at (cases_lt k n) below
    where
      by_place : (k : ℕ) (y : X) → slice_get xs k ≡ Some y → (k < n) ⊎ (n ≤ k) → k < n + 1 → P y
      by_place k y at (inl less) below = first k y less at
      by_place k y at (inr more) below =
          let same : k ≡ n = omega arith in
          let found : slice_get xs n ≡ Some y = ap (slice_get xs) (sym same) ∙ at in
          subst P (is ∙ get_or_from_slice_get xs n y x found) here

  -- and the other way
  pub each-fewer : EachOfFirst P (n + 1) xs → EachOfFirst P n xs × P x
  each-fewer all = (
    λ k y below at. all k y (omega arith) at,
    all n x (omega arith) (slice_get_read xs (length xs) n x refl within is),
  )

-- what holds of so many items as there are holds of each
pub each-all : {X : Type 0} (P : X → Type 0) (xs items : List X) (n : ℕ) → items ≡ xs → length items ≤ n →
    EachOfFirst P n items → (k : ℕ) (x : X) → slice_get xs k ≡ Some x → P x
each-all P xs items n same all first k x at =
    let here : slice_get items k ≡ Some x = ap (λ ys. slice_get ys k) same ∙ at in
    first k x (omega (arith, all, slice_get_within items k x here)) here

-- and what holds of each holds of the first
pub all-each : {X : Type 0} (P : X → Type 0) (xs items : List X) (n : ℕ) → items ≡ xs →
    ((k : ℕ) (x : X) → slice_get xs k ≡ Some x → P x) → EachOfFirst P n items
all-each P xs items n same each = λ k x below at. each k x (ap (λ ys. slice_get ys k) (sym same) ∙ at)
