-- Worked examples of the rules on windows, counted out.
use Rattle.std.proofs.Common.{◌≡◌, ℕ, true, false, List, [], ◌∷◌, None, codes, refl}
use Rattle.tdl_deploy.specs.declared.placement.Placement.{Placement}
use Rattle.tdl_deploy.specs.declared.schedule.Schedule.{Schedule}
use Rattle.tdl_deploy.specs.declared.schedule.Window.{Window}
use Rattle.tdl_deploy.specs.declared.schedule.Resource.{Resource}
use Rattle.tdl_deploy.specs.declared.schedule.Resource.TheVariants.{Cpu, Bus}
use Rattle.tdl_deploy.specs.Passes.{deadline}
use Rattle.tdl_deploy.proofs.ExampleModuleRows.{pair, two_nodes}
use Rattle.tdl_window.specs.declared.error.Fault.{Fault}
use Rattle.tdl_window.specs.declared.error.SchedAt.{SchedAt}
use Rattle.tdl_window.specs.declared.error.SchedAt.TheVariants.{Window as Numbered, Pair, Invocation}
use Rattle.tdl_window.specs.Broken.{are_clear, overlap, meet_on_node, meet_on_bus}
use Rattle.tdl_window.specs.Faults.{pairs_breaking, sched_faults}
use Rattle.tdl_window.specs.GrainOf.{greatest_from, gcd}
use Rattle.tdl_window.specs.Meeting.{meet}

-- a window of the first invocation of mode 0 of module m
abbrev window : Resource → ℕ → ℕ → ℕ → Window
window resource m offset size = record {
  resource = resource;
  «module» = record { 0 = m };
  mode = record { 0 = 0 };
  invocation = 1;
  offset = offset;
  length = size;
}

-- ---- windows of one module

-- windows that touch do not overlap
touching : overlap (window Cpu 0 0 2) (window Cpu 0 2 3) ≡ false
unfolding are_clear
touching = refl

-- those that share a microsecond do, whichever begins first
sharing : overlap (window Cpu 0 2 3) (window Cpu 0 0 3) ≡ true
unfolding are_clear
sharing = refl

-- the processor and the bus are not one resource
two_resources : overlap (window Cpu 0 0 3) (window Bus 0 0 3) ≡ false
unfolding are_clear
two_resources = refl

-- ---- windows of two modules, with the grains 6 and 4

-- both modules on one node
abbrev together : Placement
together = record {
  nodes = record { name = codes "n1"; modules = record { 0 = 0 } ∷ record { 0 = 1 } ∷ [] } ∷ [];
  bus = None;
}

-- each on its own
abbrev apart : Placement
apart = record {
  nodes =
      record { name = codes "n1"; modules = record { 0 = 0 } ∷ [] }
      ∷ record { name = codes "n2"; modules = record { 0 = 1 } ∷ [] } ∷ [];
  bus = None;
}

-- the first microsecond of the one module, and the third of the other
abbrev first : Resource → Window
first resource = window resource 0 0 1

-- this one
abbrev third : Resource → Window
third resource = window resource 1 2 1

-- the grains have a common divisor of 2
gcd-grains : gcd 6 4 ≡ 2
unfolding gcd greatest_from
gcd-grains = refl

-- of 0 and a number that is the number, and of 0 and 0 it is 0
gcd-zero : (gcd 0 4 ≡ 4) × (gcd 0 0 ≡ 0)
unfolding gcd greatest_from
gcd-zero = (refl, refl)

-- the windows meet modulo 2, and neither modulo 4 nor modulo 6, nor where there is no modulus
meeting : (meet 2 (first Cpu) (third Cpu) ≡ true) × (meet 4 (first Cpu) (third Cpu) ≡ false)
    × (meet 6 (first Cpu) (third Cpu) ≡ false) × (meet 0 (first Cpu) (third Cpu) ≡ false)
unfolding meet
meeting = (refl, refl, refl, refl)

-- windows that touch do not meet, also around the modulus
touching-round : (meet 5 (window Cpu 0 0 2) (window Cpu 1 2 3) ≡ false)
    × (meet 5 (window Cpu 0 0 2) (window Cpu 1 2 4) ≡ true)
unfolding meet
touching-round = (refl, refl)

-- a window without a microsecond meets none
empty : meet 1 (window Cpu 0 0 0) (window Cpu 1 0 1) ≡ false
unfolding meet
empty = refl

-- processor windows meet on one node alone
on_one_node : (meet_on_node together (6 ∷ 4 ∷ []) (first Cpu) (third Cpu) ≡ true)
    × (meet_on_node apart (6 ∷ 4 ∷ []) (first Cpu) (third Cpu) ≡ false)
unfolding meet gcd greatest_from
on_one_node = (refl, refl)

-- bus windows on any, and of two modules
on_the_bus : (meet_on_bus (6 ∷ 4 ∷ []) (first Bus) (third Bus) ≡ true)
    × (meet_on_bus (6 ∷ 4 ∷ []) (first Bus) (window Bus 0 0 1) ≡ false)
unfolding meet gcd greatest_from
on_the_bus = (refl, refl)

-- ---- the deadline

-- two bus windows of the first invocation of module 0, the later one first
abbrev reserved : Schedule
reserved = record { windows = window Cpu 0 0 2 ∷ window Bus 1 1 1 ∷ window Bus 0 5 1 ∷ window Bus 0 3 1 ∷ [] }

-- it is the start of the first in order of the list, and the end of an invocation without one
deadlines : (deadline reserved 0 0 1 9 ≡ 5) × (deadline reserved 0 0 2 9 ≡ 9)
deadlines = (refl, refl)

-- ---- the order of faults

-- pairs come by the first window, and then by the second
pairs : pairs_breaking (λ v w. true) 1 (first Cpu ∷ third Cpu ∷ first Bus ∷ []) ≡ Pair 1 2 ∷ Pair 1 3 ∷ Pair 2 3 ∷ []
pairs = refl

-- the windows of P, whose only task is public, takes 1 us and is imported by C
abbrev faults : Placement → List Window → List Fault
faults placement windows = sched_faults pair placement (record { windows = windows })

-- the invocation
abbrev call : SchedAt
call = Invocation (record { 0 = 0 }) (record { 0 = 0 }) 1

-- on two nodes it is remote: a microsecond of the processor, and the bus from then on
none : faults two_nodes (window Cpu 0 0 1 ∷ window Bus 0 1 1 ∷ []) ≡ []
unfolding sched_faults
none = refl

-- with no window it lacks the processor and the bus, and on one node the processor alone
no_windows : (faults two_nodes [] ≡ record { rule = 4; at = call } ∷ record { rule = 5; at = call } ∷ [])
    × (faults together [] ≡ record { rule = 4; at = call } ∷ [])
unfolding sched_faults
no_windows = (refl, refl)

-- the faults of a rule come before those of the next, whichever window comes first
rules : faults two_nodes (window Bus 0 1 2 ∷ window Cpu 0 1 1 ∷ window Bus 0 0 0 ∷ window Cpu 0 0 1 ∷ [])
    ≡ record { rule = 2; at = Numbered 3 } ∷ record { rule = 3; at = Numbered 2 } ∷ record { rule = 5; at = call }
    ∷ record { rule = 6; at = Numbered 1 } ∷ []
unfolding sched_faults are_clear
rules = refl
