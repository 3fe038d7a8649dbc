-- Names that are looked up: of several things with one name the first by number is meant.
use Rattle.std.specs.Prelude.{ℕ, ◌+◌, Bool, nat_le, List, [], ◌∷◌, Option, Some, None, option_map, option_and_then, if◌then◌else◌, bytes_eq}
use Rattle.tdl_mode.specs.declared.program.Program.{Program}
use Rattle.tdl_mode.specs.declared.program.Module.{Module}
use Rattle.tdl_mode.specs.declared.program.Mode.{Mode}
use Rattle.tdl_mode.specs.declared.program.Invocation.{Invocation}
use Rattle.tdl_mode.specs.States.{invocation_of}
use Rattle.tdl_sched.specs.declared.entry.Called.{Called}

-- a number of 16 bits; things with greater numbers are not found
abbrev pub short : ℕ → Option ℕ
short number = if nat_le number 65535 then Some number else None

-- the first thing that passes, with its number; the first of all has the number k
abbrev pub first_from : {A : Type 0} → (A → Bool) → ℕ → List A → Option (ℕ × A)
first_from passes k [] = None
first_from passes k (x ∷ xs) =
    if passes x then option_map (λ number. (number, x)) (short k) else first_from passes (k + 1) xs

-- the module of a name
abbrev pub module_named : List Module → List ℕ → Option (ℕ × Module)
module_named modules name = first_from (λ (m : Module). bytes_eq m.name name) 0 modules

-- the mode of a name
abbrev pub mode_named : List Mode → List ℕ → Option (ℕ × Mode)
mode_named modes name = first_from (λ (m : Mode). bytes_eq m.name name) 0 modes

-- a number of 16 bits that an invocation has, from 1
abbrev pub numbered_in : List Invocation → ℕ → Option ℕ
numbered_in invocations n =
    option_and_then (λ number. option_map (λ i. number) (invocation_of invocations number)) (short n)

-- the invocation of a number of a mode of a module, by their names
abbrev pub called : Program → List ℕ → List ℕ → ℕ → Option Called
called program module_name mode_name n =
    option_and_then (λ (m : ℕ × Module). option_and_then (λ (k : ℕ × Mode). option_map (λ number. record {
      «module» = record { 0 = m.0 };
      mode = record { 0 = k.0 };
      invocation = number;
    }) (numbered_in k.1.invocations n)) (mode_named m.1.modes mode_name))
    (module_named program.modules module_name)
