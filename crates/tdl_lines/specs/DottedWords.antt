-- Words with dots: names of several parts.
use Rattle.std.specs.Prelude.{ℕ, ◌==◌, List, [], ◌∷◌, ◌++◌, Option, Some, None, if◌then◌else◌}

-- the parts where `front` is what has been read of the first: a dot ends a part, and a part may be empty
abbrev pub parts_from : List ℕ → List ℕ → List (List ℕ)
parts_from front [] = front ∷ []
parts_from front (b ∷ bs) = if b == 46 then front ∷ parts_from [] bs else parts_from (front ++ b ∷ []) bs

-- the parts of a word: one more than it has dots
abbrev pub parts_of : List ℕ → List (List ℕ)
parts_of word = parts_from [] word

-- the two parts, where there are two
abbrev pub pair_in : List (List ℕ) → Option (List ℕ × List ℕ)
pair_in (a ∷ b ∷ []) = Some (a, b)
pair_in parts = None

-- the three parts, where there are three
abbrev pub triple_in : List (List ℕ) → Option (List ℕ × List ℕ × List ℕ)
triple_in (a ∷ b ∷ c ∷ []) = Some (a, b, c)
triple_in parts = None
