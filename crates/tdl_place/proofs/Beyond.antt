-- The things that are beyond a place.
use Rattle.std.proofs.Common.{◌≡◌, ◌<◌, ◌≤◌, ◌+◌, ℕ, true, List, ◌∷◌, length, map, drop, get_or, Option, sym, ap, ◌∙◌}
use Rattle.std.proofs.lemmas.List.{drop_more, drop_all}
use Rattle.tdl_lines.specs.declared.fault.Fault.{Fault}
use Rattle.tdl_lines.specs.declared.said.Said.{Said}
use Rattle.tdl_lines.specs.Faults.{earliest, fault_if}
use Rattle.tdl_place.specs.PlacementRules.{beyond}
use Rattle.tdl_place.proofs.Noting.{earliest-nil, one_noted}

-- the fault of a thing
abbrev fault_of : {X : Type 0} → ℕ → Said X → Fault
fault_of rule x = record { line = x.line; rule = rule }

-- one more thing is over
pub one_more : {X : Type 0} (rule most : ℕ) (said : List (Said X)) (place : ℕ) (first best next : Option Fault)
    (x : Said X) → place < length said → x ≡ get_or said place x → next ≡ earliest best (fault_if true x.line rule) →
    earliest first (beyond most rule said) ≡ earliest best (beyond place rule said) →
    earliest first (beyond most rule said) ≡ earliest next (beyond (place + 1) rule said)
one_more {X} rule most said place first best next x inside here noted before =
    one_noted first best next (beyond most rule said) (fault_of rule x) (beyond place rule said)
    (beyond (place + 1) rule said) before
    (ap (map (fault_of rule)) (drop_more said place x inside
    ∙ ap (λ (y : Said X). y ∷ drop (place + 1) said) (sym here)))
    noted

-- all things are over
pub all_over : {X : Type 0} (rule most : ℕ) (said : List (Said X)) (place : ℕ) (first best : Option Fault) →
    length said ≤ place → earliest first (beyond most rule said) ≡ earliest best (beyond place rule said) →
    best ≡ earliest first (beyond most rule said)
all_over {X} rule most said place first best end before =
    sym (before ∙ ap (λ (xs : List (Said X)). earliest best (map (fault_of rule) xs)) (drop_all place said end)
    ∙ earliest-nil best)
