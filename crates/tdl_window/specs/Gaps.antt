-- How far it is from an offset to one that is congruent to another.
use Rattle.std.specs.Prelude.{◌≡◌, ℕ, ◌+◌, ◌≤◌, ◌%◌, Option, Some, None}

-- g microseconds after `from` it is congruent to `to` modulo d, and no sooner; where there is no g it never is
abbrev pub IsGap : ℕ → ℕ → ℕ → Option ℕ → Type 0
IsGap d from to None = (h : ℕ) → (from + h) % d ≡ to % d → ⊥
IsGap d from to (Some g) = ((from + g) % d ≡ to % d) × ((h : ℕ) → (from + h) % d ≡ to % d → g ≤ h)
