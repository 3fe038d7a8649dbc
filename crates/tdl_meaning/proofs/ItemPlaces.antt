-- Items of lists at their places: what is found, what numbered and joined lists hold.
use Rattle.std.proofs.Common.{◌≡◌, ℕ, zero, suc, ◌+◌, ◌<◌, List, [], ◌∷◌, ◌++◌, length, Bool, true, false, ◌||◌, Some, refl, ap, ap₂, sym, ◌∙◌, subst, arith, ◌&&◌, filter}
use Rattle.std.specs.Prelude.{slice_get, unwrap_or, flat_map, find}
use Rattle.std.specs.List.{list_any}
use Rattle.tdl_base.specs.Lists.{joined, numbered}
use Rattle.tdl_base.proofs.ListPlaces.{In, in-front, in-back}
use Rattle.std.proofs.lemmas.Bool.{or_left, or_right, and_parts}
use Rattle.std.proofs.lemmas.Option.{same_Some}
use Rattle.tdl_base.proofs.Among.{Found, any-found}
use Rattle.tdl_base.proofs.Finding.{passing-any, find-filter, FoundBy, found_by}

-- an item of a list
pub record ItemAt {A : Type 0} (xs : List A) (n : ℕ) : Type 0 where
  pub item : A
  pub at : slice_get xs n ≡ Some item

-- each number below the length has one
pub item_at : {A : Type 0} (xs : List A) (n : ℕ) → n < length xs → ItemAt xs n
item_at [] n lt = absurd (omega (arith, lt))
item_at (x ∷ xs) zero lt = record { item = x; at = refl }
item_at (x ∷ xs) (suc n) lt = let r = item_at xs n (omega (arith, lt)) in record { item = r.item; at = r.at }

-- what an item gives is at its place
pub numbered-at : {A B : Type 0} (f : ℕ → A → B) (n : ℕ) (xs : List A) (i : ℕ) (a : A) → slice_get xs i ≡ Some a →
    slice_get (numbered n f xs) i ≡ Some (f (n + i) a)
numbered-at f n [] i a at = absurd (cc at)
numbered-at f n (x ∷ xs) zero a at =
    let z : n ≡ n + 0 = omega arith in ap₂ (λ j o. Some (f j (unwrap_or o x))) z at
numbered-at f n (x ∷ xs) (suc i) a at =
    let z : suc n + i ≡ n + suc i = omega arith in numbered-at f (suc n) xs i a at ∙ ap (λ j. Some (f j a)) z

-- what an item gives is among what all give
pub in-joined-at : {A B : Type 0} (f : ℕ → A → List B) (n : ℕ) (xs : List A) (i : ℕ) (a : A) (b : B) →
    slice_get xs i ≡ Some a → In b (f (n + i) a) → In b (joined (numbered n f xs))
in-joined-at f n [] i a b at w = absurd (cc at)
in-joined-at f n (x ∷ xs) zero a b at w =
    let z : n + 0 ≡ n = omega arith in
    in-front b (f n x) (joined (numbered (suc n) f xs))
    (subst (λ k. In b (f k x)) z (subst (λ c. In b (f (n + 0) c)) (sym (same_Some x a at)) w))
in-joined-at f n (x ∷ xs) (suc i) a b at w =
    let z : n + suc i ≡ suc n + i = omega arith in
    in-back b (f n x) (joined (numbered (suc n) f xs))
    (in-joined-at f (suc n) xs i a b at (subst (λ k. In b (f k a)) z w))

-- where each item gives nothing, all give nothing
pub flat-none : {A B : Type 0} (f : A → List B) (xs : List A) →
    ((n : ℕ) (a : A) → slice_get xs n ≡ Some a → f a ≡ []) → flat_map f xs ≡ []
flat-none f [] h = refl
flat-none f (x ∷ xs) h = ap₂ (λ a b. a ++ b) (h 0 x refl) (flat-none f xs (λ n a at. h (suc n) a at))

-- where r holds of all of which q does, and q of one of them, r holds of one of them
pub any-weak : {A : Type 0} (q r : A → Bool) → ((a : A) → q a ≡ true → r a ≡ true) → (xs : List A) →
    list_any q xs ≡ true → list_any r xs ≡ true
any-weak q r f [] h = absurd (cc h)
any-weak q r f (x ∷ xs) h = by_test (any-weak q r f xs) (q x) refl h
  where
    by_test : (list_any q xs ≡ true → list_any r xs ≡ true) → (b : Bool) → q x ≡ b → (b || list_any q xs) ≡ true →
        (r x || list_any r xs) ≡ true
    by_test rest true e h = or_left (r x) (list_any r xs) (f x e)
    by_test rest false e h = or_right (r x) (list_any r xs) (rest h)

-- where an item passes, one is found
pub found_from : {A : Type 0} (p : A → Bool) (xs : List A) (n : ℕ) (a : A) → slice_get xs n ≡ Some a → p a ≡ true →
    Found p xs
found_from p xs n a at passes = any-found p xs (passing-any p xs n a at passes)

-- what is found among the items that pass p stands in the list and passes p
pub found_at : {A : Type 0} (q p : A → Bool) (xs : List A) (v : A) → find q (filter p xs) ≡ Some v → FoundBy p xs v
found_at q p xs v h =
    let f = found_by (λ a. p a && q a) xs v (find-filter p q xs ∙ h) in
    record { place = f.place; at = f.at; passes = (and_parts (p v) (q v) f.passes).0 }
