-- The walk over things of which one may be the same as an earlier one.
use Rattle.std.proofs.Common.{◌≡◌, ◌<◌, ◌≤◌, ◌+◌, ℕ, Bool, ◌||◌, true, false, List, [], ◌∷◌, ◌++◌, length, take, drop, get_or, Option, refl, sym, ap, ◌∙◌}
use Rattle.std.specs.List.{list_any}
use Rattle.std.proofs.lemmas.List.{drop_more, drop_all, take_more}
use Rattle.std.proofs.lemmas.List.Folds.{list_any-append}
use Rattle.tdl_lines.specs.declared.fault.Fault.{Fault}
use Rattle.tdl_lines.specs.declared.said.Said.{Said}
use Rattle.tdl_lines.specs.Faults.{earliest, fault_if}
use Rattle.tdl_lines.proofs.FirstFault.{earliest-append}
use Rattle.tdl_place.specs.PlacementRules.{repeated, repeated_after}
use Rattle.tdl_place.proofs.Noting.{earliest-nil}

-- some thing of these lines is the same
abbrev pub is_said : {X : Type 0} → (X → X → Bool) → X → List (Said X) → Bool
is_said same y said = list_any (λ x. same y x.what) said

-- things before a place are over: the same things are among them, and the fault that is noted is the first of theirs
abbrev pub IsOver : {X : Type 0} → (X → X → Bool) → ℕ → List (Said X) → ℕ → Option Fault → Option Fault → Type 0
IsOver {X} same rule said place first best =
    (before : List X) × ((y : X) → list_any (same y) before ≡ is_said same y (take place said))
    × (earliest first (repeated same rule said) ≡ earliest best (repeated_after same rule before (drop place said)))

-- a test before others, or after them
swapped : (a b : Bool) → (a || b) ≡ (b || (a || false))
swapped true true = refl
swapped true false = refl
swapped false true = refl
swapped false false = refl

-- one more thing is over
pub one_more : {X : Type 0} (same : X → X → Bool) (rule : ℕ) (said : List (Said X)) (place : ℕ)
    (first best next : Option Fault) (x : Said X) (found : Bool) → place < length said → x ≡ get_or said place x →
    found ≡ is_said same x.what (take place said) → next ≡ earliest best (fault_if found x.line rule) →
    IsOver same rule said place first best → IsOver same rule said (place + 1) first next
one_more {X} same rule said place first best next x found inside here test noted over =
    let rest = drop (place + 1) said in
    let before = over.0 in
    let last : take (place + 1) said ≡ take place said ++ x ∷ [] =
    take_more said place x inside ∙ ap (λ (y : Said X). take place said ++ y ∷ []) (sym here) in
    let head : drop place said ≡ x ∷ rest =
    drop_more said place x inside ∙ ap (λ (y : Said X). y ∷ rest) (sym here) in
    let same_test : found ≡ list_any (same x.what) before = test ∙ sym (over.1 x.what) in (
      x.what ∷ before,
      λ y.
          swapped (same y x.what) (list_any (same y) before)
          ∙ ap (λ (b : Bool). b || (same y x.what || false)) (over.1 y)
          ∙ sym (list_any-append (λ (z : Said X). same y z.what) (take place said) (x ∷ []))
          ∙ ap (is_said same y) (sym last),
      over.2
          ∙ ap (λ (xs : List (Said X)). earliest best (repeated_after same rule before xs)) head
          ∙ earliest-append best (fault_if (list_any (same x.what) before) x.line rule)
          (repeated_after same rule (x.what ∷ before) rest)
          ∙ ap (λ (b : Option Fault). earliest b (repeated_after same rule (x.what ∷ before) rest))
          (sym (noted ∙ ap (λ (b : Bool). earliest best (fault_if b x.line rule)) same_test)),
    )

-- all things are over
pub all_over : {X : Type 0} (same : X → X → Bool) (rule : ℕ) (said : List (Said X)) (place : ℕ)
    (first best : Option Fault) → length said ≤ place → IsOver same rule said place first best →
    best ≡ earliest first (repeated same rule said)
all_over {X} same rule said place first best end over =
    sym (over.2
    ∙ ap (λ (xs : List (Said X)). earliest best (repeated_after same rule over.0 xs)) (drop_all place said end)
    ∙ earliest-nil best)
