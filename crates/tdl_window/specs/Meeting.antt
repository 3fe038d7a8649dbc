-- Windows that meet, found by going through their microseconds.
use Rattle.std.specs.Prelude.{ℕ, zero, suc, ◌%◌, ◌==◌, Bool, List, [], ◌∷◌}
use Rattle.std.specs.List.{list_any}
use Rattle.tdl_deploy.specs.declared.schedule.Window.{Window}

-- the n microseconds from o on
abbrev pub microseconds : ℕ → ℕ → List ℕ
microseconds o zero = []
microseconds o (suc n) = o ∷ microseconds (suc o) n

-- some microsecond of a window is congruent to y modulo d
abbrev pub has_congruent : ℕ → ℕ → Window → Bool
has_congruent d y w = list_any (λ z. y % d == z % d) (microseconds w.offset w.length)

-- two windows meet modulo d
unfoldable pub meet : ℕ → Window → Window → Bool
meet d v w = list_any (λ y. has_congruent d y w) (microseconds v.offset v.length)
