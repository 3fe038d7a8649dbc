-- Which node hosts a module.
use Rattle.std.proofs.Common.{◌≡◌, ℕ, zero, suc, ◌<◌, ◌==◌, Bool, true, false, ◌||◌, List, [], ◌∷◌, ◌++◌, length, map, flat_map, option_map, unwrap_or, slice_get, Option, refl, sym, ap, ap₂, ◌∙◌, arith}
use Rattle.std.specs.List.{AllByRecursion, list_any}
use Rattle.std.proofs.lemmas.Bool.{or_left, or_right}
use Rattle.std.proofs.lemmas.Bool.Decides.{nat_tests}
use Rattle.std.proofs.lemmas.List.{map-append}
use Rattle.std.proofs.lemmas.List.Folds.{list_any-append}
use Rattle.tdl_base.specs.declared.numbers.ModuleId.{ModuleId}
use Rattle.tdl_base.proofs.Finding.{any-passing}
use Rattle.tdl_lines.specs.declared.said.Said.{Said}
use Rattle.tdl_mode.specs.Imports.{is_among}
use Rattle.tdl_mode.specs.declared.program.Program.{Program}
use Rattle.tdl_deploy.specs.declared.placement.PlacedNode.{PlacedNode}
use Rattle.tdl_place.specs.PlacementRules.{same_module}
use Rattle.tdl_place.specs.SaidPlaces.{on_line, places_of, without_lines}
use Rattle.tdl_place.proofs.Apart.{Apart}
use Rattle.tdl_place.proofs.NodesSaid.{IsThere}

-- the modules of nodes, one node after the other
abbrev pub modules_of : List PlacedNode → List ModuleId
modules_of nodes = flat_map (λ (n : PlacedNode). n.modules) nodes

-- one line's places
line_places : (line : ℕ) (ms : List ModuleId) → without_lines (map (on_line line) ms) ≡ ms
line_places line [] = refl
line_places line (m ∷ ms) = ap (λ (xs : List ModuleId). m ∷ xs) (line_places line ms)

-- the places without their lines
pub places_are : (nodes : List (Said PlacedNode)) → without_lines (places_of nodes) ≡ modules_of (without_lines nodes)
places_are [] = refl
places_are (n ∷ ns) =
    map-append (λ (x : Said ModuleId). x.what) (map (on_line n.line) n.what.modules) (places_of ns)
    ∙ ap₂ (λ (xs ys : List ModuleId). xs ++ ys) (line_places n.line n.what.modules) (places_are ns)

-- the node of a number hosts module m
abbrev pub is_on : List PlacedNode → ℕ → ℕ → Bool
is_on nodes n m = is_among m (unwrap_or (option_map (λ (p : PlacedNode). p.modules) (slice_get nodes n)) [])

-- a module of no later place
not_later : (x : ModuleId) (m : ℕ) (ys : List ModuleId) → AllByRecursion (λ y. same_module y x ≡ false) ys →
    (x.0 == m) ≡ true → is_among m ys ≡ true → ⊥
not_later x m [] apart is among = absurd cc
not_later x m (y ∷ ys) apart is among = by_test (not_later x m ys apart.1 is) (y.0 == m) refl
  where
    by_test : (is_among m ys ≡ true → ⊥) → (b : Bool) → (y.0 == m) ≡ b → ⊥
    by_test none true e =
        let not_same : (x.0 == y.0) ≡ false = apart.0 in
        grind (arith, nat_tests)
    by_test none false e = none (sym (ap (λ (b : Bool). b || is_among m ys) e) ∙ among)

-- all of the second of two lists
second_all : {X : Type 0} (P : X → Type 0) (xs ys : List X) → AllByRecursion P (xs ++ ys) → AllByRecursion P ys
second_all P [] ys all = all
second_all P (x ∷ xs) ys all = second_all P xs ys all.1

-- the second of two lists that are apart
second_apart : {X : Type 0} (same : X → X → Bool) (xs ys : List X) → Apart same (xs ++ ys) → Apart same ys
second_apart same [] ys apart = apart
second_apart same (x ∷ xs) ys apart = second_apart same xs ys apart.1

-- a module is not in both of two lists that are apart
not_both : (m : ℕ) (xs ys : List ModuleId) → Apart same_module (xs ++ ys) → is_among m xs ≡ true →
    is_among m ys ≡ true → ⊥
not_both m [] ys apart one other = absurd cc
not_both m (x ∷ xs) ys apart one other = by_test (λ o. not_both m xs ys apart.1 o other) (x.0 == m) refl
  where
    by_test : (is_among m xs ≡ true → ⊥) → (b : Bool) → (x.0 == m) ≡ b → ⊥
    by_test none true e = not_later x m ys (second_all (λ y. same_module y x ≡ false) xs ys apart.0) e other
    by_test none false e = none (sym (ap (λ (b : Bool). b || is_among m xs) e) ∙ one)

-- a module on a node is among the modules of all
on_some : (nodes : List PlacedNode) (n m : ℕ) → is_on nodes n m ≡ true → is_among m (modules_of nodes) ≡ true
on_some [] n m on = absurd cc
on_some (p ∷ ps) zero m on =
    list_any-append (λ (i : ModuleId). i.0 == m) p.modules (modules_of ps) ∙ or_left (is_among m p.modules) _ on
on_some (p ∷ ps) (suc n) m on =
    list_any-append (λ (i : ModuleId). i.0 == m) p.modules (modules_of ps)
    ∙ or_right (is_among m p.modules) _ (on_some ps n m on)

-- where the modules of nodes are apart, one node at most hosts a module
pub on_one : (nodes : List PlacedNode) → Apart same_module (modules_of nodes) → (n k m : ℕ) →
    is_on nodes n m ≡ true → is_on nodes k m ≡ true → n ≡ k
on_one [] apart n k m one other = absurd cc
on_one (p ∷ ps) apart zero zero m one other = refl
on_one (p ∷ ps) apart zero (suc k) m one other =
    absurd (not_both m p.modules (modules_of ps) apart one (on_some ps k m other))
on_one (p ∷ ps) apart (suc n) zero m one other =
    absurd (not_both m p.modules (modules_of ps) apart other (on_some ps n m one))
on_one (p ∷ ps) apart (suc n) (suc k) m one other =
    ap suc (on_one ps (second_apart same_module p.modules (modules_of ps) apart) n k m one other)

-- a module that is among these is one of those below
among_below : (count m : ℕ) (ms : List ModuleId) → AllByRecursion (λ (i : ModuleId). i.0 < count) ms →
    is_among m ms ≡ true → m < count
among_below count m [] below among = absurd cc
among_below count m (i ∷ is) below among = by_test (among_below count m is below.1) (i.0 == m) refl
  where
    by_test : (is_among m is ≡ true → m < count) → (b : Bool) → (i.0 == m) ≡ b → m < count
    by_test more true e = let less : i.0 < count = below.0 in grind (arith, nat_tests)
    by_test more false e = more (sym (ap (λ (b : Bool). b || is_among m is) e) ∙ among)

-- a module that a node hosts is there
pub on_there : (program : Program) (nodes : List PlacedNode) → AllByRecursion (IsThere program) nodes → (n m : ℕ) →
    is_on nodes n m ≡ true → m < length program.modules
on_there program [] so n m on = absurd cc
on_there program (p ∷ ps) so zero m on = among_below (length program.modules) m p.modules so.0.modules on
on_there program (p ∷ ps) so (suc n) m on = on_there program ps so.1 n m on

-- a module that some node hosts has the number of one
pub on_found : (nodes : List PlacedNode) (m : ℕ) → list_any (λ (n : PlacedNode). is_among m n.modules) nodes ≡ true →
    (n : ℕ) × (is_on nodes n m ≡ true)
on_found nodes m some =
    let found = any-passing (λ (n : PlacedNode). is_among m n.modules) nodes some in (
      found.place,
      ap (λ (o : Option PlacedNode). is_among m (unwrap_or (option_map (λ (p : PlacedNode). p.modules) o) [])) found.at
          ∙ found.passes,
    )
