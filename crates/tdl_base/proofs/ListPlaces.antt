-- That an item stands in a list: in filtered and joined lists, and in lists of at most one item.
use Rattle.std.proofs.Common.{◌≡◌, ℕ, zero, suc, ◌<◌, ◌≤◌, List, [], ◌∷◌, ◌++◌, filter, length, Bool, true, false, Some, refl, ap, sym, ◌∙◌, subst, arith}
use Rattle.std.specs.Prelude.{slice_get, if◌then◌else◌, flat_map}
use Rattle.std.proofs.lemmas.List.{length-append}
use Rattle.std.proofs.lemmas.Option.{same_Some}

-- an item stands in a list, at a place
pub record In {A : Type 0} (a : A) (xs : List A) : Type 0 where
  pub place : ℕ
  pub at : slice_get xs place ≡ Some a

-- what stands in a list stands in it before any other list
pub in-front : {A : Type 0} (a : A) (xs ys : List A) → In a xs → In a (xs ++ ys)
in-front a xs ys i = from xs i.place i.at
  where
    from : (xs : List _) (n : ℕ) → slice_get xs n ≡ Some a → In a (xs ++ ys)
    from [] n at = absurd (cc at)
    from (x ∷ xs) zero at = record { place = 0; at = at }
    from (x ∷ xs) (suc n) at = let r = from xs n at in record { place = suc r.place; at = r.at }

-- what stands in a list stands in it after any other list
pub in-back : {A : Type 0} (a : A) (xs ys : List A) → In a ys → In a (xs ++ ys)
in-back a [] ys i = i
in-back a (x ∷ xs) ys i = let r = in-back a xs ys i in record { place = suc r.place; at = r.at }

-- an item that passes the test stands in what the filter keeps
pub in-filter : {A : Type 0} (q : A → Bool) (xs : List A) (n : ℕ) (a : A) →
    slice_get xs n ≡ Some a → q a ≡ true → In a (filter q xs)
in-filter q [] n a at e = absurd (cc at)
in-filter q (x ∷ xs) zero a at e =
    let passes : q x ≡ true = ap q (same_Some x a at) ∙ e in
    subst (λ b. In a (if b then x ∷ filter q xs else filter q xs)) (sym passes) (record { place = 0; at = at })
in-filter q (x ∷ xs) (suc n) a at e = by_test (in-filter q xs n a at e) (q x)
  where
    by_test : In a (filter q xs) → (b : Bool) → In a (if b then x ∷ filter q xs else filter q xs)
    by_test i true = record { place = suc i.place; at = i.at }
    by_test i false = i

-- what stands in the list of one item stands in the joined lists of all
pub in-flat : {A B : Type 0} (f : A → List B) (xs : List A) (n : ℕ) (a : A) (b : B) →
    slice_get xs n ≡ Some a → In b (f a) → In b (flat_map f xs)
in-flat f [] n a b at i = absurd (cc at)
in-flat f (x ∷ xs) zero a b at i =
    in-front b (f x) (flat_map f xs) (subst (λ y. In b (f y)) (sym (same_Some x a at)) i)
in-flat f (x ∷ xs) (suc n) a b at i = in-back b (f x) (flat_map f xs) (in-flat f xs n a b at i)

-- a list of at most one item in which a stands is the list of a alone
pub only-one : {A : Type 0} (a : A) (xs : List A) → length xs ≤ 1 → In a xs → xs ≡ a ∷ []
only-one a [] le i = absurd (cc i.at)
only-one a (x ∷ []) le i = by_place i.place i.at
  where
    by_place : (n : ℕ) → slice_get (x ∷ []) n ≡ Some a → x ∷ [] ≡ a ∷ []
    by_place zero at = ap (λ y. y ∷ []) (same_Some x a at)
    by_place (suc n) at = absurd (cc at)
only-one a (x ∷ y ∷ xs) le i = absurd (omega (arith, le))

-- nothing stands in a list of length 0
pub none-in : {A : Type 0} (a : A) (xs : List A) → length xs ≡ 0 → In a xs → ⊥
none-in a [] e i = cc i.at
none-in a (x ∷ xs) e i = omega (arith, e)

-- an item whose own list is not empty, with its place
pub record SomeFlat {A B : Type 0} (f : A → List B) (xs : List A) : Type 0 where
  pub place : ℕ
  pub item : A
  pub at : slice_get xs place ≡ Some item
  pub some : 0 < length (f item)

-- where the joined lists of all items are not empty, some item's list is not
pub some-flat : {A B : Type 0} (f : A → List B) (xs : List A) → 0 < length (flat_map f xs) → SomeFlat f xs
some-flat f [] lt = absurd (omega (arith, lt))
some-flat f (x ∷ xs) lt = by_count (some-flat f xs) (length (f x)) refl
  where
    by_count : (0 < length (flat_map f xs) → SomeFlat f xs) → (n : ℕ) → length (f x) ≡ n → SomeFlat f (x ∷ xs)
    by_count rest (suc n) e = record { place = 0; item = x; at = refl; some = omega (arith, e) }
    by_count rest zero e =
        let sum = length-append (f x) (flat_map f xs) in
        let r = rest (omega (arith, e, lt, sum)) in
        record { place = suc r.place; item = r.item; at = r.at; some = r.some }
