-- The names of a space by their places.
use Rattle.std.specs.Prelude.{ℕ, Bool, List, map, not}
use Rattle.tdl_tree.specs.declared.names.Id.{Id}
use Rattle.tdl_rules.specs.declared.fault.Fault.{Fault}
use Rattle.tdl_rules.specs.Lists.{place_of}
use Rattle.tdl_rules.specs.NameRules.{is_first_place, later_names}
use Rattle.tdl_rules.specs.Naming.{spot_of}
use Rattle.tdl_rules.specs.Parts.{broken, fault_if}

-- a name at its place is the first of its text among these
abbrev pub is_first : List Id → ℕ × Id → Bool
is_first ids place = is_first_place place.0 (place_of place.1.text (map (λ id. id.text) ids))

-- the fault of a name at its place, in source k
abbrev pub later_at : ℕ → List Id → ℕ × Id → List Fault
later_at k ids place = fault_if (not (is_first ids place)) (broken 1 k (spot_of place.1))

-- the faults of a space, in source k
abbrev pub space_faults : ℕ → List Id → List Fault
space_faults k ids = map (λ id. broken 1 k (spot_of id)) (later_names ids)
