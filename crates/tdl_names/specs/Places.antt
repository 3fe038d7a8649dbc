-- The place that a name has in a table once one more is there.
use Rattle.std.specs.Prelude.{ℕ, Bool, Option, Some, None, if◌then◌else◌}

-- what is there, or else k where the test holds
abbrev pub or_here : Option ℕ → Bool → ℕ → Option ℕ
or_here (Some j) b k = Some j
or_here None b k = if b then Some k else None
