-- The items of joined lists: where each comes from, and what pairs them.
use Rattle.std.proofs.Common.{◌≡◌, ◌⊎◌, inl, inr, ℕ, zero, suc, ◌+◌, List, [], ◌∷◌, ◌++◌, map, Some, refl, ap, sym, ◌∙◌, subst, arith}
use Rattle.std.specs.Prelude.{slice_get}
use Rattle.tdl_base.specs.Lists.{numbered, joined}
use Rattle.tdl_base.proofs.ListPlaces.{In}
use Rattle.tdl_base.proofs.SideBySide.{Zip, zip-append}
use Rattle.tdl_rules.specs.Lists.{each}

-- what stands in two lists stands in the one or the other
pub in-parts : {A : Type 0} (a : A) (xs ys : List A) (n : ℕ) → slice_get (xs ++ ys) n ≡ Some a → In a xs ⊎ In a ys
in-parts a [] ys n at = inr (record { place = n; at = at })
in-parts a (x ∷ xs) ys zero at = inl (record { place = 0; at = at })
in-parts a (x ∷ xs) ys (suc n) at =
    elim (in-parts a xs ys n at) [
      | inl i ↦ inl (record { place = suc i.place; at = i.at })
      | inr i ↦ inr i
    ]

-- what is made of an item of the list, with the item's place
pub record MadeOf {A B : Type 0} (f : A → List B) (xs : List A) (b : B) : Type 0 where
  pub place : ℕ
  pub item : A
  pub at : slice_get xs place ≡ Some item
  pub own : In b (f item)

-- what stands in what is made of all items is made of one
pub each-from : {A B : Type 0} (f : A → List B) (xs : List A) (n : ℕ) (b : B) →
    slice_get (each f xs) n ≡ Some b → MadeOf f xs b
each-from f [] n b at = absurd (cc at)
each-from f (x ∷ xs) n b at =
    elim (in-parts b (f x) (each f xs) n at) [
      | inl i ↦ record { place = 0; item = x; at = refl; own = i }
      | inr i ↦
          let r = each-from f xs i.place b i.at in
          record { place = suc r.place; item = r.item; at = r.at; own = r.own }
    ]

-- the same with the item's number, counted from k
pub record MadeAt {A B : Type 0} (f : ℕ → A → List B) (k : ℕ) (xs : List A) (b : B) : Type 0 where
  pub place : ℕ
  pub item : A
  pub at : slice_get xs place ≡ Some item
  pub own : In b (f (k + place) item)

-- what stands in the joined lists is made of one item
pub joined-from : {A B : Type 0} (f : ℕ → A → List B) (k : ℕ) (xs : List A) (n : ℕ) (b : B) →
    slice_get (joined (numbered k f xs)) n ≡ Some b → MadeAt f k xs b
joined-from f k [] n b at = absurd (cc at)
joined-from f k (x ∷ xs) n b at =
    elim (in-parts b (f k x) (joined (numbered (suc k) f xs)) n at) [
      | inl i ↦
          let first : k ≡ k + 0 = omega arith in
          record { place = 0; item = x; at = refl; own = subst (λ m. In b (f m x)) first i }
      | inr i ↦
          let r = joined-from f (suc k) xs i.place b i.at in
          let next : suc k + r.place ≡ k + suc r.place = omega arith in
          record { place = suc r.place; item = r.item; at = r.at; own = subst (λ m. In b (f m r.item)) next r.own }
    ]

-- two lists made of the same items pair place by place
pub zip-map : {A B C : Type 0} (R : B → C → Type 0) (f : A → B) (g : A → C) → ((x : A) → R (f x) (g x)) →
    (xs : List A) → Zip R (map f xs) (map g xs)
zip-map R f g pairs [] = tt
zip-map R f g pairs (x ∷ xs) = (pairs x, zip-map R f g pairs xs)

-- joined lists pair where those of each item do
pub zip-joined : {A B C : Type 0} (R : B → C → Type 0) (f : ℕ → A → List B) (g : A → List C) (k : ℕ) (xs : List A) →
    ((n : ℕ) (x : A) → slice_get xs n ≡ Some x → Zip R (f (k + n) x) (g x)) →
    Zip R (joined (numbered k f xs)) (each g xs)
zip-joined R f g k [] pairs = tt
zip-joined R f g k (x ∷ xs) pairs =
    let first : k + 0 ≡ k = omega arith in
    zip-append R (f k x) (joined (numbered (suc k) f xs)) (g x) (each g xs)
    (subst (λ m. Zip R (f m x) (g x)) first (pairs 0 x refl))
    (zip-joined R f g (suc k) xs (λ n y at.
    let next : k + suc n ≡ suc k + n = omega arith in
    subst (λ m. Zip R (f m y) (g y)) next (pairs (suc n) y at)))
