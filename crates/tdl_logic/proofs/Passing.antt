-- A list that is changed item by item.
use Rattle.std.proofs.Common.{◌≡◌, ℕ, zero, suc, ◌+◌, ◌≤◌, List, [], ◌∷◌, length, map, set, refl, ap, sym, ◌∙◌, add-one, arith}
use Rattle.tdl_base.specs.Lists.{changed_at, numbered}

-- the first so many items changed, each by its number
abbrev pub done_to : {A : Type 0} → ℕ → (ℕ → A → A) → List A → List A
done_to zero f xs = xs
done_to (suc n) f xs = changed_at n (f n) (done_to n f xs)

-- nothing changes in no list
done_to-nil : {A : Type 0} (n : ℕ) (f : ℕ → A → A) → done_to n f [] ≡ []
done_to-nil zero f = refl
done_to-nil (suc n) f = ap (changed_at n (f n)) (done_to-nil n f)

-- the first item and the others
done_to-cons : {A : Type 0} (n : ℕ) (f : ℕ → A → A) (x : A) (xs : List A) →
    done_to (suc n) f (x ∷ xs) ≡ f 0 x ∷ done_to n (λ k. f (suc k)) xs
done_to-cons zero f x xs = refl
done_to-cons (suc n) f x xs = ap (changed_at (suc n) (f (suc n))) (done_to-cons n f x xs)

-- numbers from one more
pub numbered-suc : {A B : Type 0} (f : ℕ → A → B) (k : ℕ) (xs : List A) →
    numbered (suc k) f xs ≡ numbered k (λ n. f (suc n)) xs
numbered-suc f k [] = refl
numbered-suc f k (x ∷ xs) = ap (λ ys. f (suc k) x ∷ ys) (numbered-suc f (suc k) xs)

-- all items changed
pub done-all : {A : Type 0} (n : ℕ) (f : ℕ → A → A) (xs : List A) → length xs ≤ n → done_to n f xs ≡ numbered 0 f xs
done-all n f [] le = done_to-nil n f
done-all zero f (x ∷ xs) le = absurd (omega (arith, le))
done-all (suc n) f (x ∷ xs) le =
    let less : length xs ≤ n = omega (arith, le) in
    done_to-cons n f x xs
    ∙ ap (λ ys. f 0 x ∷ ys) (done-all n (λ k. f (suc k)) xs less ∙ sym (numbered-suc f 0 xs))

-- one item more
pub done-more : {A : Type 0} (n : ℕ) (f : ℕ → A → A) (xs ys zs : List A) → ys ≡ done_to n f xs →
    zs ≡ changed_at n (f n) ys → zs ≡ done_to (n + 1) f xs
done-more n f xs ys zs before now =
    now ∙ ap (changed_at n (f n)) before ∙ ap (λ k. done_to k f xs) (sym (add-one n))

-- changes leave the length
pub length-changed : {A : Type 0} (k : ℕ) (f : A → A) (xs : List A) → length (changed_at k f xs) ≡ length xs
length-changed k f [] = refl
length-changed zero f (x ∷ xs) = refl
length-changed (suc k) f (x ∷ xs) = ap suc (length-changed k f xs)

pub length-done : {A : Type 0} (n : ℕ) (f : ℕ → A → A) (xs : List A) → length (done_to n f xs) ≡ length xs
length-done zero f xs = refl
length-done (suc n) f xs = length-changed n (f n) (done_to n f xs) ∙ length-done n f xs

-- an item that is changed to itself
pub changed_at-same : {A : Type 0} (k : ℕ) (f : A → A) (xs : List A) → ((x : A) → f x ≡ x) → changed_at k f xs ≡ xs
changed_at-same k f [] same = refl
changed_at-same zero f (x ∷ xs) same = ap (λ y. y ∷ xs) (same x)
changed_at-same (suc k) f (x ∷ xs) same = ap (λ ys. x ∷ ys) (changed_at-same k f xs same)

-- an item that takes a value, whatever it was
pub set-changed : {A : Type 0} (k : ℕ) (f : A → A) (v : A) (xs : List A) → ((x : A) → f x ≡ v) →
    set xs k v ≡ changed_at k f xs
set-changed k f v [] is = refl
set-changed zero f v (x ∷ xs) is = ap (λ y. y ∷ xs) (sym (is x))
set-changed (suc k) f v (x ∷ xs) is = ap (λ ys. x ∷ ys) (set-changed k f v xs is)

-- numbers that do not count
pub numbered-map-all : {A B : Type 0} (f : A → B) (k : ℕ) (xs : List A) → numbered k (λ _. f) xs ≡ map f xs
numbered-map-all f k [] = refl
numbered-map-all f k (x ∷ xs) = ap (λ ys. f x ∷ ys) (numbered-map-all f (suc k) xs)
