-- What is found in a list.
use Rattle.std.proofs.Common.{◌≡◌, ℕ, zero, suc, List, [], ◌∷◌, Bool, true, false, ◌&&◌, ◌||◌, Some, filter, refl, ap, ap₂, sym, ◌∙◌}
use Rattle.std.specs.Prelude.{slice_get, if◌then◌else◌, find}
use Rattle.std.specs.List.{list_any}
use Rattle.std.proofs.lemmas.Bool.{or_left, or_right}
use Rattle.std.proofs.lemmas.Option.{same_Some}

-- to find by two tests is to filter by the first and to find by the second
pub find-filter : {A : Type 0} (q r : A → Bool) (xs : List A) → find (λ a. q a && r a) xs ≡ find r (filter q xs)
find-filter q r [] = refl
find-filter q r (x ∷ xs) = by_test (find-filter q r xs) (q x)
  where
    by_test : find (λ a. q a && r a) xs ≡ find r (filter q xs) → (t : Bool) →
        (if t && r x then Some x else find (λ a. q a && r a) xs) ≡ find r (if t then x ∷ filter q xs else filter q xs)
    by_test rest true = ap (λ o. if r x then Some x else o) rest
    by_test rest false = rest

-- two tests that answer alike find the same item
pub find-same : {A : Type 0} (q r : A → Bool) → ((a : A) → q a ≡ r a) → (xs : List A) → find q xs ≡ find r xs
find-same q r e [] = refl
find-same q r e (x ∷ xs) = ap₂ (λ t o. if t then Some x else o) (e x) (find-same q r e xs)

-- an item of the list that passes the test, with its place
pub record Passing {A : Type 0} (p : A → Bool) (xs : List A) : Type 0 where
  pub place : ℕ
  pub item : A
  pub at : slice_get xs place ≡ Some item
  pub passes : p item ≡ true

-- where some item passes there is one with its place
pub any-passing : {A : Type 0} (p : A → Bool) (xs : List A) → list_any p xs ≡ true → Passing p xs
any-passing p [] h = absurd (cc h)
any-passing p (x ∷ xs) h = by_test (any-passing p xs) (p x) refl
  where
    by_test : (list_any p xs ≡ true → Passing p xs) → (t : Bool) → p x ≡ t → Passing p (x ∷ xs)
    by_test rest true e = record { place = 0; item = x; at = refl; passes = e }
    by_test rest false e =
        let more = rest (sym (ap (λ t. t || list_any p xs) e) ∙ h) in
        record { place = suc more.place; item = more.item; at = more.at; passes = more.passes }

-- where the item of a place passes, some item passes
pub passing-any : {A : Type 0} (p : A → Bool) (xs : List A) (n : ℕ) (a : A) →
    slice_get xs n ≡ Some a → p a ≡ true → list_any p xs ≡ true
passing-any p [] n a at h = absurd (cc at)
passing-any p (x ∷ xs) zero a at h = or_left (p x) (list_any p xs) (ap p (same_Some x a at) ∙ h)
passing-any p (x ∷ xs) (suc n) a at h = or_right (p x) (list_any p xs) (passing-any p xs n a at h)

-- what is found passes, and stands at a place
pub record FoundBy {A : Type 0} (p : A → Bool) (xs : List A) (a : A) : Type 0 where
  pub place : ℕ
  pub at : slice_get xs place ≡ Some a
  pub passes : p a ≡ true

-- so it does
pub found_by : {A : Type 0} (p : A → Bool) (xs : List A) (a : A) → find p xs ≡ Some a → FoundBy p xs a
found_by p [] a is = absurd (cc is)
found_by p (x ∷ xs) a is = by_test (found_by p xs a) (p x) refl is
  where
    by_test : (find p xs ≡ Some a → FoundBy p xs a) → (t : Bool) → p x ≡ t →
        (if t then Some x else find p xs) ≡ Some a → FoundBy p (x ∷ xs) a
    by_test rest true e is = record { place = 0; at = is; passes = ap p (sym (same_Some x a is)) ∙ e }
    by_test rest false e is =
        let more = rest is in record { place = suc more.place; at = more.at; passes = more.passes }
