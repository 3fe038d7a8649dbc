-- Greatest common divisors by search, and the grain of a module as a number.
use Rattle.std.specs.Prelude.{ℕ, zero, suc, ◌+◌, ◌%◌, ◌==◌, ◌&&◌, Bool, List, [], ◌∷◌, map, flat_map, if◌then◌else◌}
use Rattle.tdl_mode.specs.declared.program.Program.{Program}
use Rattle.tdl_mode.specs.declared.program.Module.{Module}
use Rattle.tdl_mode.specs.declared.program.Mode.{Mode}

-- n divides both
abbrev pub divides_both : ℕ → ℕ → ℕ → Bool
divides_both a b n = a % n == 0 && b % n == 0

-- the greatest number from n down that divides both; 0 where there is none
unfoldable pub greatest_from : ℕ → ℕ → ℕ → ℕ
greatest_from a b zero = 0
greatest_from a b (suc n) = if divides_both a b (suc n) then suc n else greatest_from a b n

-- the greatest common divisor; that of 0 and 0 is 0
unfoldable pub gcd : ℕ → ℕ → ℕ
gcd a b = greatest_from a b (a + b)

-- that of all numbers of a list
unfoldable pub gcd_of : List ℕ → ℕ
gcd_of [] = 0
gcd_of (n ∷ ns) = gcd n (gcd_of ns)

-- the period of a mode, and its switch offsets
abbrev pub turns_of : Mode → List ℕ
turns_of mode = mode.period.0 ∷ map (λ w. w.at.0) mode.switches

-- the grain of a module: the greatest common divisor of the periods and switch offsets of all its modes
unfoldable pub grain_of : Module → ℕ
grain_of m = gcd_of (flat_map turns_of m.modes)

-- the grains of all modules, in order
abbrev pub grains_of : Program → List ℕ
grains_of program = map grain_of program.modules
