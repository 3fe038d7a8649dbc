-- Where a list made of others is empty, each of those is.
use Rattle.std.proofs.Common.{◌≡◌, ℕ, zero, suc, ◌+◌, List, [], ◌∷◌, ◌++◌, map, Some, refl, ap, sym, ◌∙◌, subst, arith}
use Rattle.std.specs.Prelude.{slice_get}
use Rattle.std.proofs.lemmas.Option.{same_Some}
use Rattle.tdl_base.specs.Lists.{numbered}
use Rattle.tdl_rules.specs.Lists.{each}

-- the two parts of an empty list
pub empty-parts : {A : Type 0} (xs ys : List A) → xs ++ ys ≡ [] → (xs ≡ []) × (ys ≡ [])
empty-parts [] ys e = (refl, e)
empty-parts (x ∷ xs) ys e = absurd (cc e)

-- where nothing is made of items, there are none
pub empty-map : {A B : Type 0} (f : A → B) (xs : List A) → map f xs ≡ [] → xs ≡ []
empty-map f [] e = refl
empty-map f (x ∷ xs) e = absurd (cc e)

-- nothing is made of the item of each place
pub empty-at : {A B : Type 0} (f : A → List B) (xs : List A) (n : ℕ) (x : A) →
    each f xs ≡ [] → slice_get xs n ≡ Some x → f x ≡ []
empty-at f [] n x e at = absurd (cc at)
empty-at f (y ∷ ys) zero x e at =
    subst (λ z. f z ≡ []) (same_Some y x at) (empty-parts (f y) (each f ys) e).0
empty-at f (y ∷ ys) (suc n) x e at = empty-at f ys n x (empty-parts (f y) (each f ys) e).1 at

-- the item of a numbered list, by its place
pub numbered-at : {A B : Type 0} (f : ℕ → A → B) (k n : ℕ) (xs : List A) (x : A) →
    slice_get xs n ≡ Some x → slice_get (numbered k f xs) n ≡ Some (f (k + n) x)
numbered-at f k n [] x at = absurd (cc at)
numbered-at f k zero (y ∷ ys) x at =
    let first : k ≡ k + 0 = omega arith in
    ap (λ i. Some (f i y)) first ∙ ap (λ z. Some (f (k + 0) z)) (same_Some y x at)
numbered-at f k (suc n) (y ∷ ys) x at =
    let next : suc k + n ≡ k + suc n = omega arith in
    numbered-at f (suc k) n ys x at ∙ ap (λ i. Some (f i x)) next

-- an item of a numbered list comes from that of its place
pub record NumberedFrom {A B : Type 0} (f : ℕ → A → B) (k n : ℕ) (xs : List A) (y : B) : Type 0 where
  pub item : A
  pub at : slice_get xs n ≡ Some item
  pub is : f (k + n) item ≡ y

-- so it does
pub numbered-from : {A B : Type 0} (f : ℕ → A → B) (k n : ℕ) (xs : List A) (y : B) →
    slice_get (numbered k f xs) n ≡ Some y → NumberedFrom f k n xs y
numbered-from f k n [] y at = absurd (cc at)
numbered-from f k zero (x ∷ xs) y at =
    let first : k + 0 ≡ k = omega arith in
    record { item = x; at = refl; is = ap (λ i. f i x) first ∙ same_Some (f k x) y at }
numbered-from f k (suc n) (x ∷ xs) y at =
    let r = numbered-from f (suc k) n xs y at in
    let next : k + suc n ≡ suc k + n = omega arith in
    record { item = r.item; at = r.at; is = ap (λ i. f i r.item) next ∙ r.is }

-- an item of a mapped list comes from that of its place
pub record MappedFrom {A B : Type 0} (f : A → B) (n : ℕ) (xs : List A) (y : B) : Type 0 where
  pub item : A
  pub at : slice_get xs n ≡ Some item
  pub is : f item ≡ y

-- so it does
pub map-from : {A B : Type 0} (f : A → B) (n : ℕ) (xs : List A) (y : B) →
    slice_get (map f xs) n ≡ Some y → MappedFrom f n xs y
map-from f n [] y at = absurd (cc at)
map-from f zero (x ∷ xs) y at = record { item = x; at = refl; is = same_Some (f x) y at }
map-from f (suc n) (x ∷ xs) y at =
    let r = map-from f n xs y at in record { item = r.item; at = r.at; is = r.is }
