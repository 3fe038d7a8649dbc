-- Bytes that go from a reader into a vector.
use Rattle.std.specs.Prelude.{◌≡◌, ℕ, List, ◌++◌, ⊤, None, Some}
use Rattle.std.specs.declared.option.Option.{Option}

-- what a reader that tells has left and what was read before it make up the same bytes before and now
abbrev pub Moves : Option (List ℕ) → Option (List ℕ) → List ℕ → List ℕ → Type 0
Moves None left read into = ⊤
Moves (Some all) None read into = ⊥
Moves (Some all) (Some left) read into = read ++ all ≡ into ++ left
