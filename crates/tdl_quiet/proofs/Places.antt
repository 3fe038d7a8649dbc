-- Numbered and joined lists, place by place.
use Rattle.std.proofs.Common.{◌≡◌, ℕ, zero, suc, ◌+◌, ◌<◌, List, [], ◌∷◌, ◌++◌, map, length, Some, refl, ap, ap₂, ◌∙◌, arith}
use Rattle.std.specs.Prelude.{slice_get}
use Rattle.std.proofs.lemmas.Option.{same_Some}
use Rattle.tdl_base.specs.Lists.{joined, numbered}

-- an item of a list
pub record ItemAt {A : Type 0} (xs : List A) (n : ℕ) : Type 0 where
  pub item : A
  pub at : slice_get xs n ≡ Some item

-- each number below the length has one
pub item_at : {A : Type 0} (xs : List A) (n : ℕ) → n < length xs → ItemAt xs n
item_at [] n lt = absurd (omega (arith, lt))
item_at (x ∷ xs) zero lt = record { item = x; at = refl }
item_at (x ∷ xs) (suc n) lt = let r = item_at xs n (omega (arith, lt)) in record { item = r.item; at = r.at }

-- an item of a numbered list comes from that of its place
pub record NumberedFrom {A B : Type 0} (f : ℕ → A → B) (k n : ℕ) (xs : List A) (y : B) : Type 0 where
  pub item : A
  pub at : slice_get xs n ≡ Some item
  pub is : f (k + n) item ≡ y

-- so it does
pub numbered-from : {A B : Type 0} (f : ℕ → A → B) (k n : ℕ) (xs : List A) (y : B) →
    slice_get (numbered k f xs) n ≡ Some y → NumberedFrom f k n xs y
numbered-from f k n [] y at = absurd (cc at)
numbered-from f k zero (x ∷ xs) y at =
    let first : k + 0 ≡ k = omega arith in
    record { item = x; at = refl; is = ap (λ i. f i x) first ∙ same_Some (f k x) y at }
numbered-from f k (suc n) (x ∷ xs) y at =
    let r = numbered-from f (suc k) n xs y at in
    let next : k + suc n ≡ suc k + n = omega arith in
    record { item = r.item; at = r.at; is = ap (λ i. f i r.item) next ∙ r.is }

-- an item of a mapped list comes from that of its place
pub record MappedFrom {A B : Type 0} (f : A → B) (n : ℕ) (xs : List A) (y : B) : Type 0 where
  pub item : A
  pub at : slice_get xs n ≡ Some item
  pub is : f item ≡ y

-- so it does
pub mapped-from : {A B : Type 0} (f : A → B) (n : ℕ) (xs : List A) (y : B) →
    slice_get (map f xs) n ≡ Some y → MappedFrom f n xs y
mapped-from f n [] y at = absurd (cc at)
mapped-from f zero (x ∷ xs) y at = record { item = x; at = refl; is = same_Some (f x) y at }
mapped-from f (suc n) (x ∷ xs) y at =
    let r = mapped-from f n xs y at in record { item = r.item; at = r.at; is = r.is }

-- what each item keeps, all keep
pub numbered-kept : {A B : Type 0} (g : A → B) (f : ℕ → A → A) → ((k : ℕ) (x : A) → g (f k x) ≡ g x) →
    (k : ℕ) (xs : List A) → map g (numbered k f xs) ≡ map g xs
numbered-kept g f keeps k [] = refl
numbered-kept g f keeps k (x ∷ xs) = ap₂ (λ y ys. y ∷ ys) (keeps k x) (numbered-kept g f keeps (suc k) xs)

-- where each item stays, the list does
pub numbered-rests : {A : Type 0} (f : ℕ → A → A) (k : ℕ) (xs : List A) →
    ((i n : ℕ) (x : A) → slice_get xs n ≡ Some x → f i x ≡ x) → numbered k f xs ≡ xs
numbered-rests f k [] rests = refl
numbered-rests f k (x ∷ xs) rests =
    ap₂ (λ y ys. y ∷ ys) (rests k 0 x refl) (numbered-rests f (suc k) xs (λ i n y at. rests i (suc n) y at))

-- where nothing is made of each item, nothing is made of all
pub joined-none : {A B : Type 0} (f : ℕ → A → List B) (k : ℕ) (xs : List A) →
    ((i n : ℕ) (x : A) → slice_get xs n ≡ Some x → f i x ≡ []) → joined (numbered k f xs) ≡ []
joined-none f k [] none = refl
joined-none f k (x ∷ xs) none =
    ap₂ (λ ys rest. ys ++ rest) (none k 0 x refl) (joined-none f (suc k) xs (λ i n y at. none i (suc n) y at))

-- the same of a mapped list
pub map-rests : {A : Type 0} (f : A → A) (xs : List A) →
    ((n : ℕ) (x : A) → slice_get xs n ≡ Some x → f x ≡ x) → map f xs ≡ xs
map-rests f [] rests = refl
map-rests f (x ∷ xs) rests = ap₂ (λ y ys. y ∷ ys) (rests 0 x refl) (map-rests f xs (λ n y at. rests (suc n) y at))
