-- What a line of a schedule says.
use Rattle.std.specs.Prelude.{ℕ, nat_le, ◌&&◌, List, [], ◌∷◌, Option, Some, None, option_map, option_and_then, unwrap_or, if◌then◌else◌, bytes_eq, codes}
use Rattle.tdl_mode.specs.declared.program.Program.{Program}
use Rattle.tdl_deploy.specs.declared.schedule.Resource.{Resource}
use Rattle.tdl_deploy.specs.declared.schedule.Resource.TheVariants.{Cpu, Bus}
use Rattle.tdl_scen.specs.Lines.{number_of}
use Rattle.tdl_sched.specs.declared.entry.Entry.{Entry}
use Rattle.tdl_sched.specs.declared.entry.Entry.TheVariants.{Formless, Reserve}
use Rattle.tdl_sched.specs.declared.entry.Span.{Span}
use Rattle.tdl_sched.specs.Looked.{called}

-- what the first word reserves
abbrev pub resource_of : List ℕ → Option Resource
resource_of word =
    if bytes_eq word (codes "cpu") then Some Cpu
    else if bytes_eq word (codes "bus") then Some Bus
    else None

-- an offset and a length of 32 bits
abbrev pub span_of : ℕ → ℕ → Option Span
span_of offset size =
    if nat_le offset 4294967295 && nat_le size 4294967295
    then Some (record { offset = offset; length = size })
    else None

-- `cpu MODULE MODE INVOCATION OFFSET LENGTH`, or `bus` with the same words
abbrev pub window_said : Program → List (List ℕ) → Option Entry
window_said program (key ∷ owner ∷ mode ∷ invocation ∷ offset ∷ size ∷ []) =
    option_and_then (λ resource. option_and_then (λ n. option_and_then (λ o. option_map (λ l.
    Reserve resource (called program owner mode n) (span_of o l))
    (number_of size)) (number_of offset)) (number_of invocation)) (resource_of key)
window_said program words = None

-- what the words of a line say
abbrev pub entry_of : Program → List (List ℕ) → Entry
entry_of program words = unwrap_or (window_said program words) Formless
