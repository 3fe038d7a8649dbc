-- Things of which none is the same as an earlier one.
use Rattle.std.proofs.Common.{◌≡◌, ℕ, Bool, true, false, List, [], ◌∷◌, ◌++◌, length, map, drop, zero, suc, ◌≤◌, refl, arith}
use Rattle.std.specs.List.{AllByRecursion, list_any}
use Rattle.std.proofs.lemmas.Bool.{or_parts}
use Rattle.tdl_lines.specs.declared.said.Said.{Said}
use Rattle.tdl_lines.specs.Faults.{fault_if}
use Rattle.tdl_place.specs.PlacementRules.{repeated_after}
use Rattle.tdl_place.specs.SaidPlaces.{without_lines}

-- two lists that are nothing together
pub none_both : {A : Type 0} (xs ys : List A) → xs ++ ys ≡ [] → (xs ≡ []) × (ys ≡ [])
none_both [] ys e = (refl, e)
none_both (x ∷ xs) ys e = absurd cc

-- a rule that is not broken
pub unbroken : (b : Bool) (line rule : ℕ) → fault_if b line rule ≡ [] → b ≡ false
unbroken true line rule e = absurd cc
unbroken false line rule e = refl

-- where nothing is beyond so many there are no more
pub at_most : {A B : Type 0} (f : A → B) (n : ℕ) (xs : List A) → map f (drop n xs) ≡ [] → length xs ≤ n
at_most f n [] e = omega arith
at_most f zero (x ∷ xs) e = absurd cc
at_most f (suc n) (x ∷ xs) e = let less = at_most f n xs e in omega (arith, less)

-- no two of a list are the same
abbrev pub Apart : {X : Type 0} → (X → X → Bool) → List X → Type 0
Apart same [] = Unit {0}
Apart same (x ∷ xs) = AllByRecursion (λ y. same y x ≡ false) xs × Apart same xs

-- what is none of those before
later : {X : Type 0} (same : X → X → Bool) (rule : ℕ) (x : X) (before : List X) (said : List (Said X)) →
    ((y : X) → list_any (same y) before ≡ false → same y x ≡ false) → repeated_after same rule before said ≡ [] →
    AllByRecursion (λ y. same y x ≡ false) (without_lines said)
later same rule x before [] among none = tt
later same rule x before (z ∷ zs) among none =
    let both =
    none_both (fault_if (list_any (same z.what) before) z.line rule) (repeated_after same rule (z.what ∷ before) zs)
    none in (
      among z.what (unbroken (list_any (same z.what) before) z.line rule both.0),
      later same rule x (z.what ∷ before) zs
          (λ y e. among y (or_parts (same y z.what) (list_any (same y) before) e).1) both.1,
    )

-- things of which none is repeated
pub are_apart : {X : Type 0} (same : X → X → Bool) (rule : ℕ) (before : List X) (said : List (Said X)) →
    repeated_after same rule before said ≡ [] → Apart same (without_lines said)
are_apart same rule before [] none = tt
are_apart same rule before (x ∷ xs) none =
    let both =
    none_both (fault_if (list_any (same x.what) before) x.line rule) (repeated_after same rule (x.what ∷ before) xs)
    none in (
      later same rule x.what (x.what ∷ before) xs (λ y e. (or_parts (same y x.what) (list_any (same y) before) e).0)
          both.1,
      are_apart same rule (x.what ∷ before) xs both.1,
    )
