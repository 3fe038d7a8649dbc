-- An item at its place in a list, and a list of which one item has changed.
use Rattle.std.proofs.Common.{◌≡◌, ℕ, zero, suc, ◌<◌, ◌≤◌, List, [], ◌∷◌, ◌++◌, length, map, take, drop, drop-cons, add-one, ◌+◌, set, get_or, slice_get, Some, None, refl, ap, sym, ◌∙◌, arith}
use Rattle.std.proofs.lemmas.List.{map-set}
use Rattle.std.proofs.Math.Seq.{take-append_seam}
use Rattle.std.proofs.lemmas.Option.{slice_get-get_or}
use Rattle.tdl_base.specs.Lists.{changed_at}

-- a place within a list has its item
pub there : {A : Type 0} (xs : List A) (k : ℕ) (x : A) → k < length xs → x ≡ get_or xs k x → slice_get xs k ≡ Some x
there xs k x lt is = slice_get-get_or xs k x lt ∙ ap (λ z. Some z) (sym is)

-- the items from a place on begin with its item
pub front-dropped : {A : Type 0} (xs : List A) (k : ℕ) (x : A) → k < length xs → x ≡ get_or xs k x →
    drop k xs ≡ x ∷ drop (k + 1) xs
front-dropped xs k x lt is =
    drop-cons xs k x lt ∙ ap (λ z. z ∷ drop (suc k) xs) (sym is) ∙ ap (λ n. x ∷ drop n xs) (sym (add-one k))

-- a place past the end has none
pub none-past : {A : Type 0} (xs : List A) (k : ℕ) → length xs ≤ k → slice_get xs k ≡ None
none-past [] k le = refl
none-past (x ∷ xs) zero le = absurd (omega arith)
none-past (x ∷ xs) (suc k) le = none-past xs k (omega arith)

-- what is made of an item stands in its place
pub mapped-there : {A B : Type 0} (f : A → B) (xs : List A) (k : ℕ) (x : A) → slice_get xs k ≡ Some x →
    slice_get (map f xs) k ≡ Some (f x)
mapped-there f [] k x e = absurd cc
mapped-there f (y ∷ ys) zero x e = let same : y ≡ x = cc in ap (λ z. Some (f z)) same
mapped-there f (y ∷ ys) (suc k) x e = mapped-there f ys k x e

-- what a slice of a whole list leaves of it
pub written-back : {A : Type 0} (n : ℕ) (xs ys : List A) → n ≡ length xs → take n (xs ++ ys) ≡ xs
written-back n xs ys e = ap (λ k. take k (xs ++ ys)) e ∙ take-append_seam xs ys

-- an item that is put in its own place
pub set-same : {A : Type 0} (xs : List A) (k : ℕ) (x : A) → slice_get xs k ≡ Some x → set xs k x ≡ xs
set-same [] k x e = absurd cc
set-same (y ∷ ys) zero x e = let same : y ≡ x = cc in ap (λ z. z ∷ ys) (sym same)
set-same (y ∷ ys) (suc k) x e = ap (λ z. y ∷ z) (set-same ys k x e)

-- what is made of the items stays, where it stays of the one that is put
pub mapped-kept : {A B : Type 0} (f : A → B) (xs : List A) (k : ℕ) (x y : A) → slice_get xs k ≡ Some x → f y ≡ f x →
    map f (set xs k y) ≡ map f xs
mapped-kept f xs k x y e same =
    map-set f xs k y ∙ ap (λ z. set (map f xs) k z) same ∙ set-same (map f xs) k (f x) (mapped-there f xs k x e)

-- an item that is put in its place, whatever was there
pub changed_at-put : {A : Type 0} (k : ℕ) (v : A) (xs : List A) → changed_at k (λ _. v) xs ≡ set xs k v
changed_at-put k v [] = refl
changed_at-put zero v (x ∷ xs) = refl
changed_at-put (suc k) v (x ∷ xs) = ap (λ z. x ∷ z) (changed_at-put k v xs)

-- a changed item stands in its place
pub changed_at-set : {A : Type 0} (k : ℕ) (f : A → A) (u : A) (xs : List A) → slice_get xs k ≡ Some u →
    changed_at k f xs ≡ set xs k (f u)
changed_at-set k f u [] e = refl
changed_at-set zero f u (x ∷ xs) e = let same : x ≡ u = cc in ap (λ z. f z ∷ xs) same
changed_at-set (suc k) f u (x ∷ xs) e = ap (λ z. x ∷ z) (changed_at-set k f u xs e)

-- nothing changes past the end
pub changed_at-past : {A : Type 0} (k : ℕ) (f : A → A) (xs : List A) → length xs ≤ k → changed_at k f xs ≡ xs
changed_at-past k f [] le = refl
changed_at-past zero f (x ∷ xs) le = absurd (omega arith)
changed_at-past (suc k) f (x ∷ xs) le = ap (λ z. x ∷ z) (changed_at-past k f xs (omega arith))

-- what is made of the items changes with the one that is put
pub mapped-changed : {A B : Type 0} (f : A → B) (g : B → B) (xs : List A) (k : ℕ) (x y : A) → slice_get xs k ≡ Some x →
    f y ≡ g (f x) → map f (set xs k y) ≡ changed_at k g (map f xs)
mapped-changed f g xs k x y e now =
    map-set f xs k y ∙ ap (λ z. set (map f xs) k z) now
    ∙ sym (changed_at-set k g (f x) (map f xs) (mapped-there f xs k x e))
