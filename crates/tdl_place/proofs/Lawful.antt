-- What is read without a fault is lawful.
use Rattle.std.proofs.Common.{◌≡◌, ℕ, ◌<◌, ◌&&◌, Bool, true, false, not, List, [], ◌∷◌, ◌++◌, length, map, flat_map, is_none, Option, None, refl, sym, ap, ◌∙◌, subst, arith, true≢false}
use Rattle.std.specs.List.{AllByRecursion}
use Rattle.std.proofs.lemmas.List.{length-map}
use Rattle.std.proofs.lemmas.List.Elements.{All-from_recursion}
use Rattle.std.proofs.lemmas.Slice.Eq.{bytes_eq-Decides}
use Rattle.tdl_base.specs.declared.limits.TheConstants.{NODES}
use Rattle.tdl_lines.specs.Faults.{fault_if}
use Rattle.tdl_lines.specs.SaidLines.{said_lines, number_after}
use Rattle.tdl_lines.specs.declared.said.Said.{Said}
use Rattle.tdl_mode.specs.declared.program.Program.{Program}
use Rattle.tdl_mode.specs.declared.program.Module.{Module}
use Rattle.tdl_scan.specs.Lexemes.{is_identifier}
use Rattle.tdl_deploy.specs.Passes.{WellPlaced}
use Rattle.tdl_deploy.specs.declared.placement.Placement.{Placement}
use Rattle.tdl_deploy.specs.declared.placement.PlacedNode.{PlacedNode}
use Rattle.tdl_place.specs.LawfulPlacement.{AreApart, IsLawful}
use Rattle.tdl_place.specs.PlacementRules.{line_faults, beyond, repeated, same_module, same_name, many_faults, is_hosted, has_unplaced, has_remote, whole_faults, lines_said, placement_faults}
use Rattle.tdl_place.specs.SaidPlaces.{nodes_in, costs_in, places_of, placement_said, without_lines}
use Rattle.tdl_place.proofs.Apart.{none_both, unbroken, at_most, Apart, are_apart}
use Rattle.tdl_place.proofs.Hosted.{modules_of, places_are, on_one, on_there, on_found}
use Rattle.tdl_place.proofs.Numbered.{has_item, any-place}
use Rattle.tdl_place.proofs.Near.{none_remote}
use Rattle.tdl_place.proofs.NodesSaid.{IsThere, lines_so, nodes_so, costs_so}

-- names of nodes that are apart
names_apart : (nodes : List PlacedNode) → Apart same_name nodes → AreApart (map (λ (n : PlacedNode). n.name) nodes)
names_apart [] apart = tt
names_apart (n ∷ ns) apart =
    (All-from_recursion _ (map (λ (p : PlacedNode). p.name) ns) (differ ns apart.0), names_apart ns apart.1)
  where
    differ : (ps : List PlacedNode) → AllByRecursion (λ p. same_name p n ≡ false) ps →
        AllByRecursion (λ (other : List ℕ). other ≡ n.name → ⊥) (map (λ (p : PlacedNode). p.name) ps)
    differ [] all = tt
    differ (p ∷ ps) all = (
      λ e. true≢false (sym ((bytes_eq-Decides n.name p.name).1 (sym e)) ∙ all.0),
      differ ps all.1,
    )

-- each module is on a node where none is unplaced
all_hosted : (program : Program) (placement : Placement) → has_unplaced program placement ≡ false → (m : ℕ) →
    m < length program.modules → is_hosted placement m ≡ true
all_hosted program placement none m below = by_test (is_hosted placement m) refl
  where
    by_test : (b : Bool) → is_hosted placement m ≡ b → b ≡ true
    by_test true e = refl
    by_test false e =
        let has = has_item program.modules m below in
        let some =
        any-place (λ b. b) (λ k (d : Module). not (is_hosted placement k)) m program.modules has.item has.at
        (ap not e) in
        absurd (true≢false (sym some ∙ none))

-- a placement whose nodes are there, whose places are apart, and in which no module is unplaced
placed : (program : Program) (placement : Placement) → AllByRecursion (IsThere program) placement.nodes →
    Apart same_module (modules_of placement.nodes) → has_unplaced program placement ≡ false →
    WellPlaced program placement
placed program placement so apart none = record {
  hosted = λ m below. on_found placement.nodes m (all_hosted program placement none m below);
  once = λ m n k one other. on_one placement.nodes apart n k m one other;
  there = λ m n on. on_there program placement.nodes so n m on;
}

-- no bus, and no remote invocation then
no_bus : (program : Program) (placement : Placement) (line : ℕ) →
    fault_if (is_none placement.bus && has_remote program placement) line 6 ≡ [] → placement.bus ≡ None →
    has_remote program placement ≡ false
no_bus program placement line none e =
    sym (ap (λ (o : Option _). is_none o && has_remote program placement) e)
    ∙ unbroken (is_none placement.bus && has_remote program placement) line 6 none

-- the placement of a file without a fault
pub lawful : (program : Program) (bytes : List ℕ) → placement_faults program bytes ≡ [] →
    IsLawful program (placement_said (lines_said program bytes))
lawful program bytes none =
    let lines = lines_said program bytes in
    let nodes = nodes_in lines in
    let placement = placement_said lines in
    let line = number_after bytes in
    let so = lines_so program (said_lines bytes) in
    let there = nodes_so program lines so in
    let all =
    none_both (flat_map line_faults lines ++ many_faults nodes (costs_in lines)) (whole_faults program line placement)
    none in
    let many = (none_both (flat_map line_faults lines) (many_faults nodes (costs_in lines)) all.0).1 in
    let whole =
    none_both (fault_if (has_unplaced program placement) line 4)
    (fault_if (is_none placement.bus && has_remote program placement) line 6) all.1 in
    let p4 =
    none_both (beyond 1 1 (costs_in lines) ++ repeated same_module 3 (places_of nodes) ++ repeated same_name 5 nodes)
    (beyond NODES 5 nodes) many in
    let p3 =
    none_both (beyond 1 1 (costs_in lines) ++ repeated same_module 3 (places_of nodes)) (repeated same_name 5 nodes)
    p4.0 in
    let p2 = none_both (beyond 1 1 (costs_in lines)) (repeated same_module 3 (places_of nodes)) p3.0 in
    let apart : Apart same_module (modules_of placement.nodes) =
    subst (Apart same_module) (places_are nodes) (are_apart same_module 3 [] (places_of nodes) p2.1) in
    let count = at_most _ NODES nodes p4.1 in
    let same : length (without_lines nodes) ≡ length nodes = length-map nodes (λ (x : Said PlacedNode). x.what) in
    record {
      well_placed = placed program placement there apart (unbroken (has_unplaced program placement) line 4 whole.0);
      nodes = omega (arith, count, same);
      names = All-from_recursion (λ (n : PlacedNode). is_identifier n.name ≡ true) placement.nodes
          (names_of placement.nodes there);
      apart = names_apart placement.nodes (are_apart same_name 5 [] nodes p3.1);
      costs = costs_so program lines so;
      near = λ e. none_remote program placement (no_bus program placement line whole.1 e);
    }
  where
    names_of : (ns : List PlacedNode) → AllByRecursion (IsThere program) ns →
        AllByRecursion (λ (n : PlacedNode). is_identifier n.name ≡ true) ns
    names_of [] all = tt
    names_of (n ∷ ns) all = (all.0.name, names_of ns all.1)
