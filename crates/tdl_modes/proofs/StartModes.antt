-- The start modes that are left to a walk over a module's declarations.
use Rattle.std.proofs.Common.{◌≡◌, ℕ, suc, ◌<◌, ◌≤◌, ◌+◌, Bool, true, false, not, List, [], ◌∷◌, ◌++◌, length, map, drop, get_or, drop-cons, Option, Some, None, refl, sym, ap, ap₂, ◌∙◌, arith}
use Rattle.std.proofs.lemmas.List.{drop_all}
use Rattle.tdl_tree.specs.declared.declarations.Decl.{Decl}
use Rattle.tdl_tree.specs.declared.names.Id.{Id}
use Rattle.tdl_rules.specs.declared.fault.Fault.{Fault}
use Rattle.tdl_rules.specs.Earliest.{earliest}
use Rattle.tdl_rules.specs.Lists.{each}
use Rattle.tdl_rules.specs.ModeRules.{start_of, starts_broken}
use Rattle.tdl_rules.specs.Naming.{Scope, spot_of}
use Rattle.tdl_rules.specs.Parts.{broken, fault_if}
use Rattle.tdl_modes.specs.Starts.{if_any}
use Rattle.tdl_walk.proofs.Minimum.{earliest-append}

-- the faults that are left, where a start mode was met or not
abbrev pub left : Scope → Bool → List Id → List Fault
left scope true names = map (λ id. broken 12 scope.file (spot_of id)) names
left scope false names = starts_broken scope names

-- the first declaration that is left, and those after it
front : {A B : Type 0} (f : A → List B) (xs : List A) (k : ℕ) (x : A) (ys : List B) → k < length xs → x ≡ get_or xs k x → ys ≡ f x →
    each f (drop k xs) ≡ ys ++ each f (drop (k + 1) xs)
front f xs k x ys inside here is =
    let next : suc k ≡ k + 1 = omega arith in
    let rest : drop k xs ≡ x ∷ drop (k + 1) xs = drop-cons xs k x inside
    ∙ ap₂ (λ (z : _) (n : ℕ). z ∷ drop n xs) (sym here) next in
    ap (each f) rest ∙ ap (λ (z : List _). z ++ each f (drop (k + 1) xs)) (sym is)

-- a start mode is met
one_start : (scope : Scope) (started : Bool) (name : Id) (rest : List Id) (now new : Option Fault) →
    new ≡ earliest now (fault_if started (broken 12 scope.file (spot_of name))) →
    earliest new (left scope true rest) ≡ earliest now (left scope started (name ∷ rest))
unfolding earliest
one_start scope true name rest now new step =
    ap (λ (z : Option Fault). earliest z (left scope true rest)) step
    ∙ sym (earliest-append now (broken 12 scope.file (spot_of name) ∷ []) (left scope true rest))
one_start scope false name rest now new step = ap (λ (z : Option Fault). earliest z (left scope true rest)) step

-- the next declaration is a start mode
pub next_start : (scope : Scope) (started : Bool) (decls : List Decl) (k : ℕ) (decl : Decl) (name : Id) (now new : Option Fault) →
    k < length decls → decl ≡ get_or decls k decl → if_any (Some name) ≡ start_of decl →
    new ≡ earliest now (fault_if started (broken 12 scope.file (spot_of name))) →
    earliest new (left scope true (each start_of (drop (k + 1) decls))) ≡ earliest now (left scope started (each start_of (drop k decls)))
next_start scope started decls k decl name now new inside here is step =
    one_start scope started name (each start_of (drop (k + 1) decls)) now new step
    ∙ ap (λ (z : List Id). earliest now (left scope started z)) (sym (front start_of decls k decl (name ∷ []) inside here is))

-- it is none
pub no_start : (scope : Scope) (started : Bool) (decls : List Decl) (k : ℕ) (decl : Decl) (now : Option Fault) →
    k < length decls → decl ≡ get_or decls k decl → if_any None ≡ start_of decl →
    earliest now (left scope started (each start_of (drop (k + 1) decls))) ≡ earliest now (left scope started (each start_of (drop k decls)))
no_start scope started decls k decl now inside here is =
    ap (λ (z : List Id). earliest now (left scope started z)) (sym (front start_of decls k decl [] inside here is))

-- where no name is left
nothing_left : (scope : Scope) (started : Bool) → fault_if (not started) (broken 12 scope.file (spot_of scope.tree.name)) ≡ left scope started []
nothing_left scope true = refl
nothing_left scope false = refl

-- no declaration is left
pub all_met : (scope : Scope) (started : Bool) (decls : List Decl) (k : ℕ) (now new : Option Fault) → length decls ≤ k →
    new ≡ earliest now (fault_if (not started) (broken 12 scope.file (spot_of scope.tree.name))) →
    new ≡ earliest now (left scope started (each start_of (drop k decls)))
all_met scope started decls k now new past step =
    step ∙ ap (earliest now) (nothing_left scope started)
    ∙ ap (λ (z : List Decl). earliest now (left scope started (each start_of z))) (sym (drop_all k decls past))
