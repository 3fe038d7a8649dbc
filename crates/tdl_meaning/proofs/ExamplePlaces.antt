-- What is shown for each item of a written list, or for each two of its items, holds by place.
use Rattle.std.proofs.Common.{◌≡◌, ℕ, zero, suc, ◌<◌, List, [], ◌∷◌, Some, ap, subst, arith}
use Rattle.std.specs.Prelude.{slice_get, unwrap_or}
use Rattle.tdl_mode.specs.declared.program.Invocation.{Invocation}
use Rattle.tdl_mode.specs.States.{invocation_of}

-- P of each item with its place
abbrev pub Each : {A : Type 0} → (ℕ → A → Type 0) → List A → Type 0
Each P [] = Unit {0}
Each P (x ∷ xs) = P 0 x × Each (λ n. P (suc n)) xs

infixr 5 ◌▸◌
-- what holds of an item, and what holds of those after it
abbrev pub ◌▸◌ : {A B : Type 0} → A → B → A × B
a ▸ b = (a, b)

-- R of each item and each item after it
abbrev pub EachTwo : {A : Type 0} → (A → A → Type 0) → List A → Type 0
EachTwo R [] = Unit {0}
EachTwo R (x ∷ xs) = Each (λ n. R x) xs × EachTwo R xs

-- what holds of each item holds by place
pub from_each : {A : Type 0} (P : ℕ → A → Type 0) (xs : List A) → Each P xs →
    (n : ℕ) (a : A) → slice_get xs n ≡ Some a → P n a
from_each P [] all n a at = absurd (cc at)
from_each P (x ∷ xs) all zero a at = subst (P 0) (ap (λ o. unwrap_or o x) at) all.0
from_each P (x ∷ xs) all (suc n) a at = from_each (λ j. P (suc j)) xs all.1 n a at

-- the same of invocations, which are numbered from 1
pub from_each_number : (P : ℕ → Invocation → Type 0) (xs : List Invocation) → Each (λ n. P (suc n)) xs →
    (n : ℕ) (i : Invocation) → invocation_of xs n ≡ Some i → P n i
from_each_number P xs all zero i at = absurd (cc at)
from_each_number P xs all (suc n) i at = from_each (λ j. P (suc j)) xs all n i at

-- what holds of each two items holds by their places
pub from_each_two : {A : Type 0} (R : A → A → Type 0) (xs : List A) → EachTwo R xs →
    (q r : ℕ) (v w : A) → q < r → slice_get xs q ≡ Some v → slice_get xs r ≡ Some w → R v w
from_each_two R [] all q r v w lt at bt = absurd (cc at)
from_each_two R (x ∷ xs) all zero zero v w lt at bt = absurd (omega (arith, lt))
from_each_two R (x ∷ xs) all zero (suc r) v w lt at bt =
    subst (λ y. R y w) (ap (λ o. unwrap_or o x) at) (from_each (λ n. R x) xs all.0 r w bt)
from_each_two R (x ∷ xs) all (suc q) zero v w lt at bt = absurd (omega (arith, lt))
from_each_two R (x ∷ xs) all (suc q) (suc r) v w lt at bt = from_each_two R xs all.1 q r v w (omega (arith, lt)) at bt
