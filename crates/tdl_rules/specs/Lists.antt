-- Lists of faults by item, first places among names, and items that clash with earlier ones.
use Rattle.std.specs.List.{list_any}
use Rattle.std.specs.Prelude.{ℕ, suc, Bool, List, [], ◌∷◌, Option, Some, None, option_map, map, slice_get, bytes_eq, if◌then◌else◌, ◌+◌, ◌++◌}
pub use Rattle.std.specs.Prelude.{is_some}

-- what f gives of each item, one after the other
abbrev pub each : {A B : Type 0} → (A → List B) → List A → List B
each f [] = []
each f (x ∷ xs) = f x ++ each f xs

-- the sum of numbers
abbrev pub total : List ℕ → ℕ
total [] = 0
total (n ∷ ns) = n + total ns

-- the place of the first item that passes
abbrev pub first_place : {A : Type 0} → (A → Bool) → List A → Option ℕ
first_place passes [] = None
first_place passes (x ∷ xs) = if passes x then Some 0 else option_map (λ k. suc k) (first_place passes xs)

-- the first place of a name among names
abbrev pub place_of : List ℕ → List (List ℕ) → Option ℕ
place_of name names = first_place (bytes_eq name) names

-- an item by its number, with the number
abbrev pub with_number : {A : Type 0} → List A → Option ℕ → Option (ℕ × A)
with_number xs None = None
with_number xs (Some k) = option_map (λ x. (k, x)) (slice_get xs k)

-- the first item that has a name, with its number
abbrev pub first_named : {A : Type 0} → (A → List ℕ) → List ℕ → List A → Option (ℕ × A)
first_named name_of name xs = with_number xs (place_of name (map name_of xs))

-- the items of a list that clash with one before them, where others stand before the list
abbrev pub clashes_after : {A : Type 0} → (A → A → Bool) → List A → List A → List A
clashes_after clash before [] = []
clashes_after clash before (x ∷ xs) =
    if list_any (λ y. clash y x) before
    then x ∷ clashes_after clash (before ++ x ∷ []) xs
    else clashes_after clash (before ++ x ∷ []) xs

-- the items that clash with one before them
abbrev pub clashes : {A : Type 0} → (A → A → Bool) → List A → List A
clashes clash xs = clashes_after clash [] xs
