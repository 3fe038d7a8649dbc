-- Worked examples of placements: what they say, and what breaks each rule.
use Rattle.std.proofs.Common.{◌≡◌, ℕ, List, [], ◌∷◌, ◌++◌, map, flat_map, Some, codes, refl}
use Rattle.tdl_lines.specs.declared.fault.Fault.{Fault}
use Rattle.tdl_deploy.specs.declared.placement.Placement.{Placement}
use Rattle.tdl_deploy.proofs.ExampleModuleRows.{pair}
use Rattle.tdl_place.specs.PlacementRules.{lines_said, placement_faults}
use Rattle.tdl_place.specs.SaidPlaces.{placement_said}

-- ---- a program of P, whose public task is invoked, and C, which imports P

-- lines that each end with LF
abbrev file : List (List ℕ) → List ℕ
file lines = flat_map (λ (line : List ℕ). line ++ 10 ∷ []) lines

-- the faults of lines
abbrev faults : List (List ℕ) → List Fault
faults lines = placement_faults pair (file lines)

-- the faults of lines after one that places both modules
abbrev later : List (List ℕ) → List Fault
later lines = faults (codes "node n1 P C" ∷ lines)

-- a fault
abbrev at : ℕ → ℕ → Fault
at line rule = record { line = line; rule = rule }

-- both forms, a reserved word as a node's name, and a node without modules
abbrev whole : List (List ℕ)
whole =
    codes "# two modules" ∷ codes "bus 0020 1000000" ∷ codes "node mode C" ∷ codes "node n_2 P" ∷ codes "node n3" ∷ []

-- what it says
abbrev said : Placement
said = record {
  nodes =
      record { name = codes "mode"; modules = record { 0 = 1 } ∷ [] }
      ∷ record { name = codes "n_2"; modules = record { 0 = 0 } ∷ [] }
      ∷ record { name = codes "n3"; modules = [] } ∷ [];
  bus = Some (record { overhead = 20; per_byte = 1000000 });
}

-- what it says
pub whole_says : placement_said (lines_said pair (file whole)) ≡ said
whole_says = refl

-- it breaks no rule
pub whole_lawful : faults whole ≡ []
whole_lawful = refl

-- a second bus
pub second_bus : later (codes "bus 1 1" ∷ codes "bus 1 1" ∷ codes "bus 2 2" ∷ []) ≡ at 3 1 ∷ at 4 1 ∷ []
second_bus = refl

-- lines of no form, names that are no identifiers, and a cost that is too great
pub formless : later (codes "node" ∷ codes "nodes n2" ∷ codes "node _2" ∷ codes "node 2" ∷ []) ≡ at 2 1 ∷ at 3 1
    ∷ at 4 1 ∷ at 5 1 ∷ []
formless = refl

-- wrong costs of a bus
pub wrong_bus : later (codes "bus 1" ∷ codes "bus 1 1 1" ∷ codes "bus 1 1000001" ∷ codes "bus -1 1" ∷ []) ≡ at 2 1
    ∷ at 3 1 ∷ at 4 1 ∷ at 5 1 ∷ []
wrong_bus = refl

-- a word that names no module
pub unknown : later (codes "node n2 p Q" ∷ []) ≡ at 2 2 ∷ []
unknown = refl

-- a module that is placed twice on one node, and on two, where its import is remote
pub twice_on_one : faults (codes "node n1 P C P" ∷ []) ≡ at 1 3 ∷ []
twice_on_one = refl

-- on two
pub twice_on_two : later (codes "node n2 C" ∷ []) ≡ at 2 3 ∷ at 3 6 ∷ []
twice_on_two = refl

-- modules that are placed nowhere: the fault has the number after the last line, and that of a missing bus comes later
pub unplaced : faults [] ≡ at 1 4 ∷ []
unplaced = refl

-- the fault stands after the last line, also a comment
pub one_unplaced : faults (codes "node n1 C" ∷ codes "# P" ∷ []) ≡ at 3 4 ∷ at 3 6 ∷ []
one_unplaced = refl

-- a name of two nodes
pub named_twice : later (codes "node n2" ∷ codes "node n1" ∷ []) ≡ at 3 5 ∷ []
named_twice = refl

-- a seventeenth node
pub seventeen : later (map (λ (c : ℕ). codes "node " ++ c ∷ []) (codes "abcdefghijklmnop")) ≡ at 17 5 ∷ []
seventeen = refl

-- a remote invocation without a bus; on one node none is remote
pub missing_bus : faults (codes "node n1 P" ∷ codes "node n2 C" ∷ []) ≡ at 3 6 ∷ []
missing_bus = refl

-- with the bus nothing is wrong
pub no_bus : later [] ≡ []
no_bus = refl
