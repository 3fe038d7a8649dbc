-- The names of a space that are not the first of their text, place by place.
use Rattle.std.proofs.Common.{◌≡◌, ℕ, suc, ◌<◌, ◌≤◌, ◌+◌, Bool, true, false, not, if◌then◌else◌, List, [], ◌∷◌, ◌++◌, length, map, drop, get_or, drop-cons, add-one, Option, Bor, refl, sym, ap, ◌∙◌, arith}
use Rattle.std.proofs.Math.ListN.{get_or-map}
use Rattle.std.proofs.lemmas.List.{drop_all, length-map}
use Rattle.tdl_base.specs.Lists.{numbered}
use Rattle.tdl_tree.specs.declared.names.Id.{Id}
use Rattle.tdl_rules.specs.declared.fault.Fault.{Fault}
use Rattle.tdl_rules.specs.Earliest.{earliest}
use Rattle.tdl_rules.specs.Lists.{each}
use Rattle.tdl_rules.specs.Naming.{spot_of}
use Rattle.tdl_rules.specs.Parts.{broken, fault_if}
use Rattle.tdl_naming.specs.Spaces.{is_first, later_at, space_faults}
use Rattle.tdl_walk.proofs.Minimum.{earliest-append}

-- the faults of the names of a list that stand from place k on
abbrev faults_of : ℕ → List Id → ℕ → List Id → List Fault
faults_of file ids k left = each (later_at file ids) (numbered k (λ j id. (j, id)) left)

-- the faults of the names from place k on
abbrev pub faults_from : ℕ → List Id → ℕ → List Fault
faults_from file ids k = faults_of file ids k (drop k ids)

-- a name that is kept or not, before others
kept_or_not : (f : Id → Fault) (b : Bool) (id : Id) (ids : List Id) (fs : List Fault) → map f ids ≡ fs →
    map f ((if b then [] else id ∷ []) ++ ids) ≡ fault_if (not b) (f id) ++ fs
kept_or_not f true id ids fs e = e
kept_or_not f false id ids fs e = ap (λ (z : List Fault). f id ∷ z) e

-- the faults of the later names among some places
later_of : (file : ℕ) (ids : List Id) (places : List (ℕ × Id)) →
    map (λ id. broken 1 file (spot_of id))
    (each (λ (place : ℕ × Id). if is_first ids place then [] else place.1 ∷ []) places)
    ≡ each (later_at file ids) places
later_of file ids [] = refl
later_of file ids (place ∷ places) =
    kept_or_not (λ id. broken 1 file (spot_of id)) (is_first ids place) place.1 _ _ (later_of file ids places)

-- the faults of all later names are those from place 0 on
pub space_faults-from : (file : ℕ) (ids : List Id) → space_faults file ids ≡ faults_from file ids 0
space_faults-from file ids = later_of file ids (numbered 0 (λ k id. (k, id)) ids)

-- one more place
pub one_place : (file : ℕ) (ids : List Id) (k : ℕ) (id : Id) (now new : Option Fault) →
    (k < length ids) × (id ≡ get_or ids k id) → new ≡ earliest now (later_at file ids (k, id)) →
    earliest new (faults_from file ids (k + 1)) ≡ earliest now (faults_from file ids k)
one_place file ids k id now new here step =
    let left : List Id = drop (suc k) ids in
    let rest : drop k ids ≡ id ∷ left = drop-cons ids k id here.0 ∙ ap (λ (z : Id). z ∷ left) (sym here.1) in
    ap (λ (n : ℕ). earliest new (faults_from file ids n)) (add-one k)
    ∙ ap (λ (z : Option Fault). earliest z (faults_from file ids (suc k))) step
    ∙ sym (earliest-append now (later_at file ids (k, id)) (faults_from file ids (suc k)))
    ∙ ap (λ (z : List Id). earliest now (faults_of file ids k z)) (sym rest)

-- no place is left
pub no_place : (file : ℕ) (ids : List Id) (k : ℕ) (now : Option Fault) → length ids ≤ k →
    earliest now (faults_from file ids k) ≡ now
unfolding earliest
no_place file ids k now past = ap (λ (z : List Id). earliest now (faults_of file ids k z)) (drop_all k ids past)

-- names that are held by reference are as many
pub as_many : (held : List (Bor Id)) (ids : List Id) → map (λ (r : Bor Id). r.now) held ≡ ids → length held ≡ length ids
as_many held ids e = sym (length-map held (λ (r : Bor Id). r.now)) ∙ ap (λ (z : List Id). length z) e

-- a name that is held by reference, at its place
pub held_at : (held : List (Bor Id)) (ids : List Id) (k : ℕ) (r : Bor Id) → map (λ (r : Bor Id). r.now) held ≡ ids →
    k < length held → r ≡ get_or held k r → (k < length ids) × (r.now ≡ get_or ids k r.now)
held_at held ids k r e inside here = (
  omega (arith, inside, as_many held ids e),
  ap (λ (z : Bor Id). z.now) here ∙ sym (get_or-map (λ (z : Bor Id). z.now) held k r)
      ∙ ap (λ (z : List Id). get_or z k r.now) e,
)
