-- Two lists side by side, place by place.
use Rattle.std.proofs.Common.{◌≡◌, ℕ, zero, suc, List, [], ◌∷◌, ◌++◌, Some, refl, subst}
use Rattle.std.specs.Prelude.{slice_get}
use Rattle.std.proofs.lemmas.Option.{same_Some}
pub use Rattle.tdl_base.specs.Lists.{Zip}

-- two such pairs of lists, one pair after the other
pub zip-append : {A B : Type 0} (R : A → B → Type 0) (xs more_xs : List A) (ys more_ys : List B) →
    Zip R xs ys → Zip R more_xs more_ys → Zip R (xs ++ more_xs) (ys ++ more_ys)
zip-append R [] more_xs [] more_ys z more = more
zip-append R [] more_xs (y ∷ ys) more_ys z more = absurd z
zip-append R (x ∷ xs) more_xs [] more_ys z more = absurd z
zip-append R (x ∷ xs) more_xs (y ∷ ys) more_ys z more = (z.0, zip-append R xs more_xs ys more_ys z.1 more)

-- the item on the left at place n, where y stands there on the right
pub record ZipLeft {A B : Type 0} (R : A → B → Type 0) (xs : List A) (n : ℕ) (y : B) : Type 0 where
  pub item : A
  pub at : slice_get xs n ≡ Some item
  pub holds : R item y

-- where an item stands on the right, one stands on the left
pub zip-left : {A B : Type 0} (R : A → B → Type 0) (xs : List A) (ys : List B) → Zip R xs ys →
    (n : ℕ) (b : B) → slice_get ys n ≡ Some b → ZipLeft R xs n b
zip-left R [] [] z n b at = absurd (cc at)
zip-left R [] (y ∷ ys) z n b at = absurd z
zip-left R (x ∷ xs) [] z n b at = absurd z
zip-left R (x ∷ xs) (y ∷ ys) z zero b at =
    record { item = x; at = refl; holds = subst (R x) (same_Some y b at) z.0 }
zip-left R (x ∷ xs) (y ∷ ys) z (suc n) b at =
    let r = zip-left R xs ys z.1 n b at in record { item = r.item; at = r.at; holds = r.holds }

-- the item on the right at place n, where x stands there on the left
pub record ZipRight {A B : Type 0} (R : A → B → Type 0) (ys : List B) (n : ℕ) (x : A) : Type 0 where
  pub item : B
  pub at : slice_get ys n ≡ Some item
  pub holds : R x item

-- where an item stands on the left, one stands on the right
pub zip-right : {A B : Type 0} (R : A → B → Type 0) (xs : List A) (ys : List B) → Zip R xs ys →
    (n : ℕ) (a : A) → slice_get xs n ≡ Some a → ZipRight R ys n a
zip-right R [] [] z n a at = absurd (cc at)
zip-right R [] (y ∷ ys) z n a at = absurd z
zip-right R (x ∷ xs) [] z n a at = absurd z
zip-right R (x ∷ xs) (y ∷ ys) z zero a at =
    record { item = y; at = refl; holds = subst (λ c. R c y) (same_Some x a at) z.0 }
zip-right R (x ∷ xs) (y ∷ ys) z (suc n) a at =
    let r = zip-right R xs ys z.1 n a at in record { item = r.item; at = r.at; holds = r.holds }
