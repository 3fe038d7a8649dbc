-- Heights and items of a code by their places.
use Rattle.std.proofs.Common.{◌≡◌, ℕ, zero, suc, ◌+◌, ◌<◌, List, [], ◌∷◌, length, take, drop, fold, Some, None, refl, ap, arith}
use Rattle.std.specs.Prelude.{slice_get}
use Rattle.std.proofs.lemmas.Option.{same_Some}

-- an item that is there stands within the list
pub slice_get-within : {A : Type 0} (xs : List A) (p : ℕ) (x : A) → slice_get xs p ≡ Some x → p < length xs
slice_get-within [] p x at = absurd (cc at)
slice_get-within (y ∷ xs) zero x at = omega arith
slice_get-within (y ∷ xs) (suc p) x at = omega (arith, slice_get-within xs p x at)

-- an item of what is left after others
pub slice_get-drop : {A : Type 0} (xs : List A) (n p : ℕ) → slice_get (drop n xs) p ≡ slice_get xs (n + p)
slice_get-drop xs zero p = let e : 0 + p ≡ p = omega arith in rw e refl
slice_get-drop [] (suc n) p = refl
slice_get-drop (x ∷ xs) (suc n) p = let e : suc n + p ≡ suc (n + p) = omega arith in rw e (slice_get-drop xs n p)

-- what is left from an item on begins with it
pub drop-at : {A : Type 0} (xs : List A) (p : ℕ) (x : A) → slice_get xs p ≡ Some x → drop p xs ≡ x ∷ drop (suc p) xs
drop-at [] p x at = absurd (cc at)
drop-at (y ∷ xs) zero x at = ap (λ z. z ∷ xs) (same_Some y x at)
drop-at (y ∷ xs) (suc p) x at = drop-at xs p x at

-- a fold over the items up to one, and that one
pub fold-next : {A B : Type 0} (f : B → A → B) (b : B) (xs : List A) (p : ℕ) (x : A) → slice_get xs p ≡ Some x →
    fold f b (take (suc p) xs) ≡ f (fold f b (take p xs)) x
fold-next f b [] p x at = absurd (cc at)
fold-next f b (y ∷ xs) zero x at = ap (f b) (same_Some y x at)
fold-next f b (y ∷ xs) (suc p) x at = fold-next f (f b y) xs p x at

-- a fold over no more items is the same
pub fold-no_more : {A B : Type 0} (f : B → A → B) (b : B) (xs : List A) (p : ℕ) → slice_get xs p ≡ None →
    fold f b (take (suc p) xs) ≡ fold f b (take p xs)
fold-no_more f b [] zero none = refl
fold-no_more f b [] (suc p) none = refl
fold-no_more f b (y ∷ xs) zero none = absurd (cc none)
fold-no_more f b (y ∷ xs) (suc p) none = fold-no_more f (f b y) xs p none

-- a fold over two stretches, one after the other
pub fold-stretch : {A B : Type 0} (f : B → A → B) (b : B) (xs : List A) (p n : ℕ) →
    fold f b (take (p + n) xs) ≡ fold f (fold f b (take p xs)) (take n (drop p xs))
fold-stretch f b xs zero n = let e : 0 + n ≡ n = omega arith in rw e refl
fold-stretch f b [] (suc p) n = let e : suc p + n ≡ suc (p + n) = omega arith in rw e (nothing f b n)
  where
    nothing : {A B : Type 0} (f : B → A → B) (b : B) (n : ℕ) → b ≡ fold f b (take n [])
    nothing f b zero = refl
    nothing f b (suc n) = refl
fold-stretch f b (x ∷ xs) (suc p) n =
    let e : suc p + n ≡ suc (p + n) = omega arith in rw e (fold-stretch f (f b x) xs p n)
