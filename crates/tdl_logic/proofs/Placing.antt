-- An item at its place in a list, and a list of which one item has changed.
use Rattle.std.proofs.Common.{◌≡◌, ℕ, zero, suc, ◌<◌, ◌≤◌, List, [], ◌∷◌, length, map, drop, set, get_or, slice_get, Some, None, refl, ap, sym, ◌∙◌, arith}
use Rattle.std.specs.Prelude.{option_map, unwrap_or}
use Rattle.std.proofs.lemmas.Option.{slice_get-get_or}
use Rattle.tdl_base.specs.Lists.{changed_at}

-- a place within a list has its item
pub there : {A : Type 0} (xs : List A) (k : ℕ) (x : A) → k < length xs → x ≡ get_or xs k x → slice_get xs k ≡ Some x
there xs k x lt is = slice_get-get_or xs k x lt ∙ ap (λ z. Some z) (sym is)

-- a changed item stands in its place
pub changed_at-set : {A : Type 0} (k : ℕ) (f : A → A) (u : A) (xs : List A) → slice_get xs k ≡ Some u →
    changed_at k f xs ≡ set xs k (f u)
changed_at-set k f u [] e = refl
changed_at-set zero f u (x ∷ xs) e = let same : x ≡ u = cc in ap (λ z. f z ∷ xs) same
changed_at-set (suc k) f u (x ∷ xs) e = ap (λ z. x ∷ z) (changed_at-set k f u xs e)

-- nothing changes past the end
pub changed_at-past : {A : Type 0} (k : ℕ) (f : A → A) (xs : List A) → length xs ≤ k → changed_at k f xs ≡ xs
changed_at-past k f [] le = refl
changed_at-past zero f (x ∷ xs) le = absurd (omega arith)
changed_at-past (suc k) f (x ∷ xs) le = ap (λ z. x ∷ z) (changed_at-past k f xs (omega arith))

-- nor where there is no item
pub changed_at-none : {A : Type 0} (k : ℕ) (f : A → A) (xs : List A) → slice_get xs k ≡ None → changed_at k f xs ≡ xs
changed_at-none k f [] none = refl
changed_at-none zero f (x ∷ xs) none = absurd cc
changed_at-none (suc k) f (x ∷ xs) none = ap (λ ys. x ∷ ys) (changed_at-none k f xs none)

-- two changes that agree on the item of the place
pub changed_at-agree : {A : Type 0} (k : ℕ) (f g : A → A) (xs : List A) →
    ((x : A) → slice_get xs k ≡ Some x → f x ≡ g x) → changed_at k f xs ≡ changed_at k g xs
changed_at-agree k f g [] same = refl
changed_at-agree zero f g (x ∷ xs) same = ap (λ y. y ∷ xs) (same x refl)
changed_at-agree (suc k) f g (x ∷ xs) same = ap (λ ys. x ∷ ys) (changed_at-agree k f g xs same)

-- a change that leaves the item of the place
pub changed_at-kept : {A : Type 0} (k : ℕ) (f : A → A) (xs : List A) →
    ((x : A) → slice_get xs k ≡ Some x → f x ≡ x) → changed_at k f xs ≡ xs
changed_at-kept k f [] same = refl
changed_at-kept zero f (x ∷ xs) same = ap (λ y. y ∷ xs) (same x refl)
changed_at-kept (suc k) f (x ∷ xs) same = ap (λ ys. x ∷ ys) (changed_at-kept k f xs same)

-- one change after the other
pub changed_at-twice : {A : Type 0} (k : ℕ) (f g : A → A) (xs : List A) →
    changed_at k g (changed_at k f xs) ≡ changed_at k (λ x. g (f x)) xs
changed_at-twice k f g [] = refl
changed_at-twice zero f g (x ∷ xs) = refl
changed_at-twice (suc k) f g (x ∷ xs) = ap (λ ys. x ∷ ys) (changed_at-twice k f g xs)

-- what a change leaves of each item
pub map-changed : {A B : Type 0} (f : A → B) (h : A → A) (k : ℕ) (xs : List A) → ((x : A) → f (h x) ≡ f x) →
    map f (changed_at k h xs) ≡ map f xs
map-changed f h k [] kept = refl
map-changed f h zero (x ∷ xs) kept = ap (λ y. y ∷ map f xs) (kept x)
map-changed f h (suc k) (x ∷ xs) kept = ap (λ ys. f x ∷ ys) (map-changed f h k xs kept)

-- what is made of the item of a place
pub mapped-there : {A B : Type 0} (f : A → B) (xs : List A) (k : ℕ) (x : A) → slice_get xs k ≡ Some x →
    slice_get (map f xs) k ≡ Some (f x)
mapped-there f [] k x e = absurd cc
mapped-there f (y ∷ ys) zero x e = let same : y ≡ x = cc in ap (λ z. Some (f z)) same
mapped-there f (y ∷ ys) (suc k) x e = mapped-there f ys k x e

-- what is made of an item of a changed list
pub made-changed : {A B : Type 0} (f : A → B) (h : A → A) (k i : ℕ) (xs : List A) → ((x : A) → f (h x) ≡ f x) →
    option_map f (slice_get (changed_at k h xs) i) ≡ option_map f (slice_get xs i)
made-changed f h k i [] kept = refl
made-changed f h zero zero (x ∷ xs) kept = ap (λ y. Some y) (kept x)
made-changed f h zero (suc i) (x ∷ xs) kept = refl
made-changed f h (suc k) zero (x ∷ xs) kept = refl
made-changed f h (suc k) (suc i) (x ∷ xs) kept = made-changed f h k i xs kept

-- the item of a place and what follows it
pub drop-at : {A : Type 0} (xs : List A) (i : ℕ) (x : A) → slice_get xs i ≡ Some x → drop i xs ≡ x ∷ drop (suc i) xs
drop-at [] i x e = absurd cc
drop-at (y ∷ ys) zero x e = let same : y ≡ x = cc in ap (λ z. z ∷ ys) same
drop-at (y ∷ ys) (suc i) x e = drop-at ys i x e

-- nothing follows the end
pub drop-past : {A : Type 0} (xs : List A) (i : ℕ) → length xs ≤ i → drop i xs ≡ []
drop-past [] zero le = refl
drop-past [] (suc i) le = refl
drop-past (x ∷ xs) zero le = absurd (omega (arith, le))
drop-past (x ∷ xs) (suc i) le = drop-past xs i (omega (arith, le))

-- a place within a list has the item that it has
pub there-or : {A : Type 0} (xs : List A) (k : ℕ) (d : A) → k < length xs →
    slice_get xs k ≡ Some (unwrap_or (slice_get xs k) d)
there-or [] k d lt = absurd (omega (arith, lt))
there-or (x ∷ xs) zero d lt = refl
there-or (x ∷ xs) (suc k) d lt = there-or xs k d (omega (arith, lt))
