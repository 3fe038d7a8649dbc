-- What holds of each item of a list.
use Rattle.std.proofs.Common.{◌≡◌, ℕ, zero, suc, List, [], ◌∷◌, ◌++◌, Bool, true, false, Some, filter, refl, ap, subst}
use Rattle.std.specs.Prelude.{slice_get, unwrap_or, if◌then◌else◌}
use Rattle.tdl_meaning.specs.AllItems.{Every}

-- what holds of all items holds of the one at a place
pub all-at : {A : Type 0} (P : A → Type 0) (xs : List A) → Every P xs → (n : ℕ) (a : A) → slice_get xs n ≡ Some a → P a
all-at P [] all n a at = absurd (cc at)
all-at P (x ∷ xs) all zero a at = subst P (ap (λ o. unwrap_or o x) at) all.0
all-at P (x ∷ xs) all (suc n) a at = all-at P xs all.1 n a at

-- what holds of all of two lists holds of all of both
pub all-append : {A : Type 0} (P : A → Type 0) (xs ys : List A) → Every P xs → Every P ys → Every P (xs ++ ys)
all-append P [] ys of_xs of_ys = of_ys
all-append P (x ∷ xs) ys of_xs of_ys = (of_xs.0, all-append P xs ys of_xs.1 of_ys)

-- what holds at each place holds of all
pub all-of : {A : Type 0} (P : A → Type 0) (xs : List A) →
    ((n : ℕ) (a : A) → slice_get xs n ≡ Some a → P a) → Every P xs
all-of P [] h = tt
all-of P (x ∷ xs) h = (h 0 x refl, all-of P xs (λ n. h (suc n)))

-- what holds at each place of two lists holds of all of the first
pub of-front : {A : Type 0} (P : A → Type 0) (xs ys : List A) →
    ((n : ℕ) (a : A) → slice_get (xs ++ ys) n ≡ Some a → P a) → Every P xs
of-front P [] ys h = tt
of-front P (x ∷ xs) ys h = (h 0 x refl, of-front P xs ys (λ n. h (suc n)))

-- and at each place of the second
pub of-back : {A : Type 0} (P : A → Type 0) (xs ys : List A) →
    ((n : ℕ) (a : A) → slice_get (xs ++ ys) n ≡ Some a → P a) → (n : ℕ) (a : A) → slice_get ys n ≡ Some a → P a
of-back P [] ys h = h
of-back P (x ∷ xs) ys h = of-back P xs ys (λ n. h (suc n))

-- what holds of each item that passes holds of all that are left
pub every-filtered : {A : Type 0} (P : A → Type 0) (p : A → Bool) (xs : List A) →
    ((n : ℕ) (a : A) → slice_get xs n ≡ Some a → p a ≡ true → P a) → Every P (filter p xs)
every-filtered P p [] h = tt
every-filtered P p (x ∷ xs) h = by_test (every-filtered P p xs (λ n a at. h (suc n) a at)) (p x) refl
  where
    by_test : Every P (filter p xs) → (t : Bool) → p x ≡ t → Every P (if t then x ∷ filter p xs else filter p xs)
    by_test rest true e = (h 0 x refl e, rest)
    by_test rest false e = rest
