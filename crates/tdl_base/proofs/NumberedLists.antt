-- Lists by number, passed one after another.
use Rattle.std.proofs.Common.{◌≡◌, ℕ, suc, List, [], ◌∷◌, map, refl, ap, ap₂}
use Rattle.tdl_base.specs.Lists.{numbered}

-- one numbered pass after another is one pass of both
pub numbered-numbered : {A B C : Type 0} (f : ℕ → B → C) (g : ℕ → A → B) (n : ℕ) (xs : List A) →
    numbered n f (numbered n g xs) ≡ numbered n (λ k x. f k (g k x)) xs
numbered-numbered f g n [] = refl
numbered-numbered f g n (x ∷ xs) = ap (λ ys. f n (g n x) ∷ ys) (numbered-numbered f g (suc n) xs)

-- a numbered pass after a plain one is one numbered pass of both
pub numbered-map : {A B C : Type 0} (f : ℕ → B → C) (g : A → B) (n : ℕ) (xs : List A) →
    numbered n f (map g xs) ≡ numbered n (λ k x. f k (g x)) xs
numbered-map f g n [] = refl
numbered-map f g n (x ∷ xs) = ap (λ ys. f n (g x) ∷ ys) (numbered-map f g (suc n) xs)

-- two functions that agree at each number and item give one list
pub numbered-same : {A B : Type 0} (f g : ℕ → A → B) → ((k : ℕ) (x : A) → f k x ≡ g k x) →
    (n : ℕ) (xs : List A) → numbered n f xs ≡ numbered n g xs
numbered-same f g e n [] = refl
numbered-same f g e n (x ∷ xs) = ap₂ (λ y ys. y ∷ ys) (e n x) (numbered-same f g e (suc n) xs)
