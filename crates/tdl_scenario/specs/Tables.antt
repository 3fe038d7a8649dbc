-- Numbers by module and place.
use Rattle.std.specs.Prelude.{ℕ, ◌==◌, ◌&&◌, nat_eq, Bool, Option, Some, None, if◌then◌else◌}
use Rattle.std.specs.HashMap.{get}
use Rattle.tdl_scenario.specs.declared.table.Table.{Table}

-- no numbers
abbrev pub nowhere : ℕ → ℕ → Option ℕ
nowhere m k = None

-- the same numbers but for one, at a module and place
abbrev pub put_at : (ℕ → ℕ → Option ℕ) → ℕ → ℕ → ℕ → ℕ → ℕ → Option ℕ
put_at old m k number q j = if m == q && k == j then Some number else old q j

-- two pairs are equal
abbrev pub same_pair : ℕ × ℕ → ℕ × ℕ → Bool
same_pair p q = nat_eq p.0 q.0 && nat_eq p.1 q.1

-- the numbers that a table holds
abbrev pub numbers_in : Table → ℕ → ℕ → Option ℕ
numbers_in t m k = get same_pair t.numbers (m, k)
