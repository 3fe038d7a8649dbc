-- Lists by number, one after the other, and in order.
use Rattle.std.specs.Prelude.{ℕ, zero, suc, Bool, List, [], ◌∷◌, ◌++◌, if◌then◌else◌, Option, None, Some}

-- f of each item with its number, the first being k
abbrev pub numbered : {A B : Type 0} → ℕ → (ℕ → A → B) → List A → List B
numbered k f [] = []
numbered k f (x ∷ xs) = f k x ∷ numbered (suc k) f xs

-- the list with f of its item k in that item's place
abbrev pub changed_at : {A : Type 0} → ℕ → (A → A) → List A → List A
changed_at k f [] = []
changed_at zero f (x ∷ xs) = f x ∷ xs
changed_at (suc k) f (x ∷ xs) = x ∷ changed_at k f xs

-- the items of lists, one list after the other
abbrev pub joined : {A : Type 0} → List (List A) → List A
joined [] = []
joined (xs ∷ more) = xs ++ joined more

-- the first item, where there is one
abbrev pub first_of : {A : Type 0} → List A → Option A
first_of [] = None
first_of (x ∷ xs) = Some x

-- an item in its place among items in order, after those that it does not come before
abbrev pub inserted : {A : Type 0} → (A → A → Bool) → A → List A → List A
inserted is_before x [] = x ∷ []
inserted is_before x (y ∷ ys) = if is_before x y then x ∷ y ∷ ys else y ∷ inserted is_before x ys

-- the lists have one length, and R holds of the two items of each place
abbrev pub Zip : {A B : Type 0} → (A → B → Type 0) → List A → List B → Type 0
Zip R [] [] = Unit {0}
Zip R (x ∷ xs) (y ∷ ys) = R x y × Zip R xs ys
Zip R xs ys = ⊥
