-- What the reader tells of the faults of a file.
use Rattle.std.proofs.Common.{◌≡◌, ℕ, List, [], ◌++◌, flat_map, Option, Some, None, sym, ap, ap₂, ◌∙◌, append-nil}
use Rattle.tdl_lines.specs.declared.fault.Fault.{Fault}
use Rattle.tdl_lines.specs.declared.said.Said.{Said}
use Rattle.tdl_lines.specs.Faults.{earliest, IsFirst}
use Rattle.tdl_lines.specs.SaidLines.{number_after}
use Rattle.tdl_lines.proofs.FirstFault.{none_is, first_is}
use Rattle.tdl_mode.specs.declared.program.Program.{Program}
use Rattle.tdl_deploy.specs.declared.placement.Placement.{Placement}
use Rattle.tdl_place.specs.declared.entry.Entry.{Entry}
use Rattle.tdl_place.specs.declared.gather.Gathered.{Gathered as Held}
use Rattle.tdl_place.specs.Gathering.{Gathered, with_more, all_gathered}
use Rattle.tdl_place.specs.PlacementRules.{line_faults, many_faults, whole_faults, lines_said, placement_faults}
use Rattle.tdl_place.specs.SaidPlaces.{nodes_in, costs_in, placement_of, placement_said}
use Rattle.tdl_place.proofs.Noting.{earliest-nil, in_turn}

-- what is gathered of all lines, part by part
pub record IsAll (g : Held) (lines : List (Said Entry)) : Type 0 where
  pub nodes : g.nodes.items ≡ nodes_in lines
  pub costs : g.buses.items ≡ costs_in lines
  pub first : g.first ≡ earliest None (flat_map line_faults lines)

-- nothing is left
pub is_all : (g : Held) (lines : List (Said Entry)) → with_more g [] ≡ all_gathered lines → IsAll g lines
is_all g lines e = record {
  nodes = sym (append-nil g.nodes.items) ∙ ap (λ (a : Gathered). a.nodes) e;
  costs = sym (append-nil g.buses.items) ∙ ap (λ (a : Gathered). a.costs) e;
  first = sym (earliest-nil g.first) ∙ ap (λ (a : Gathered). a.first) e;
}

-- the placement is what the lines say
pub said_is : (g : Held) (lines : List (Said Entry)) (placement : Placement) → with_more g [] ≡ all_gathered lines →
    placement ≡ placement_of g.nodes.items g.buses.items → placement ≡ placement_said lines
said_is g lines placement e same =
    let all = is_all g lines e in same ∙ ap₂ placement_of all.nodes all.costs

-- the fault that is noted last is the earliest of the file's
pub earliest_is : (program : Program) (bytes : List ℕ) (g : Held) (placement : Placement) (line : ℕ)
    (many last : Option Fault) → with_more g [] ≡ all_gathered (lines_said program bytes) →
    placement ≡ placement_of g.nodes.items g.buses.items → line ≡ number_after bytes →
    many ≡ earliest g.first (many_faults g.nodes.items g.buses.items) →
    last ≡ earliest many (whole_faults program line placement) →
    earliest None (placement_faults program bytes) ≡ last
earliest_is program bytes g placement line many last e same after noted told =
    let lines = lines_said program bytes in
    let all = is_all g lines e in
    let beside = many_faults (nodes_in lines) (costs_in lines) in
    let whole = whole_faults program (number_after bytes) (placement_said lines) in
    sym (in_turn None many last (flat_map line_faults lines ++ beside) whole
    (in_turn None g.first many (flat_map line_faults lines) beside all.first
    (noted ∙ ap (earliest g.first) (ap₂ many_faults all.nodes all.costs)))
    (told ∙ ap (earliest many) (ap₂ (whole_faults program) after (said_is g lines placement e same))))

-- where none is noted there is none
pub no_fault : (program : Program) (bytes : List ℕ) (last : Option Fault) →
    earliest None (placement_faults program bytes) ≡ last → last ≡ None → placement_faults program bytes ≡ []
no_fault program bytes last e none = none_is (placement_faults program bytes) (e ∙ none)

-- where one is noted it is the first
pub first_found : (program : Program) (bytes : List ℕ) (last : Option Fault) (fault : Fault) →
    earliest None (placement_faults program bytes) ≡ last → last ≡ Some fault →
    IsFirst fault (placement_faults program bytes)
first_found program bytes last fault e is = first_is (placement_faults program bytes) fault (e ∙ is)
