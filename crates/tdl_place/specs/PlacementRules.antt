-- The rules of placements: what lines break by themselves, beside one another, and as a whole.
use Rattle.std.specs.Prelude.{ℕ, Bool, true, false, not, ◌==◌, ◌&&◌, List, [], ◌++◌, map, drop, flat_map, is_none, option_map, unwrap_or, slice_get, bytes_eq}
use Rattle.std.specs.List.{list_any}
use Rattle.tdl_base.specs.Lists.{numbered}
use Rattle.tdl_base.specs.declared.limits.TheConstants.{NODES}
use Rattle.tdl_base.specs.declared.numbers.ModuleId.{ModuleId}
use Rattle.tdl_lines.specs.declared.fault.Fault.{Fault}
use Rattle.tdl_lines.specs.declared.said.Said.{Said}
use Rattle.tdl_lines.specs.Faults.{fault_if, faults_from, IsFirst}
use Rattle.tdl_lines.specs.SaidLines.{statements, number_after}
use Rattle.tdl_mode.specs.Imports.{is_among}
use Rattle.tdl_mode.specs.declared.program.Program.{Program}
use Rattle.tdl_mode.specs.declared.program.Module.{Module}
use Rattle.tdl_mode.specs.declared.program.Mode.{Mode}
use Rattle.tdl_mode.specs.declared.program.Task.{Task}
use Rattle.tdl_mode.specs.declared.program.Invocation.{Invocation}
use Rattle.tdl_deploy.specs.Placed.{is_remote}
use Rattle.tdl_deploy.specs.declared.placement.Placement.{Placement}
use Rattle.tdl_deploy.specs.declared.placement.PlacedNode.{PlacedNode}
use Rattle.tdl_deploy.specs.declared.placement.BusCost.{BusCost}
use Rattle.tdl_place.specs.declared.entry.Entry.{Entry}
use Rattle.tdl_place.specs.declared.entry.Entry.TheVariants.{Formless, Node}
use Rattle.tdl_place.specs.declared.error.PlaceError.{PlaceError}
use Rattle.tdl_place.specs.declared.error.PlaceError.TheVariants.{BadPlacement, NoMemory}
use Rattle.tdl_place.specs.Entries.{entry_of}
use Rattle.tdl_place.specs.SaidPlaces.{nodes_in, costs_in, places_of, placement_said}

-- P1: the line is of no form
abbrev pub is_formless : Entry → Bool
is_formless Formless = true
is_formless e = false

-- P2: a word names no module
abbrev pub has_unknown : Entry → Bool
has_unknown (Node node unknown) = unknown
has_unknown e = false

-- what a line breaks by itself
abbrev pub line_faults : Said Entry → List Fault
line_faults x = fault_if (is_formless x.what) x.line 1 ++ fault_if (has_unknown x.what) x.line 2

-- each beyond the first so many breaks a rule
abbrev pub beyond : {X : Type 0} → ℕ → ℕ → List (Said X) → List Fault
beyond most rule said = map (λ x. record { line = x.line; rule = rule }) (drop most said)

-- each that is the same as one of those before breaks a rule
abbrev pub repeated_after : {X : Type 0} → (X → X → Bool) → ℕ → List X → List (Said X) → List Fault
repeated_after same rule before said =
    faults_from (λ before x. fault_if (list_any (same x.what) before) x.line rule) before said

abbrev pub repeated : {X : Type 0} → (X → X → Bool) → ℕ → List (Said X) → List Fault
repeated same rule said = repeated_after same rule [] said

-- two places are of one module
abbrev pub same_module : ModuleId → ModuleId → Bool
same_module m other = other.0 == m.0

-- two nodes have one name
abbrev pub same_name : PlacedNode → PlacedNode → Bool
same_name node other = bytes_eq other.name node.name

-- P1 of a second bus; P3 of a module's second place; P5 of a name's second node, and of a 17th node
abbrev pub many_faults : List (Said PlacedNode) → List (Said BusCost) → List Fault
many_faults nodes costs =
    beyond 1 1 costs
    ++ repeated same_module 3 (places_of nodes)
    ++ repeated same_name 5 nodes
    ++ beyond NODES 5 nodes

-- some node hosts module m
abbrev pub is_hosted : Placement → ℕ → Bool
is_hosted placement m = list_any (λ (n : PlacedNode). is_among m n.modules) placement.nodes

-- P4: some module is on no node
abbrev pub has_unplaced : Program → Placement → Bool
has_unplaced program placement =
    list_any (λ b. b) (numbered 0 (λ m (d : Module). not (is_hosted placement m)) program.modules)

-- an invocation of a module's mode is of such a task
abbrev pub mode_invokes : (Task → Bool) → Module → Mode → Bool
mode_invokes p owner mode =
    list_any (λ (i : Invocation). unwrap_or (option_map p (slice_get owner.tasks i.task.0)) false) mode.invocations

-- an invocation of a module is of such a task
abbrev pub invokes : (Task → Bool) → Module → Bool
invokes p owner = list_any (mode_invokes p owner) owner.modes

-- some invocation is remote
abbrev pub has_remote : Program → Placement → Bool
has_remote program placement =
    list_any (λ b. b) (numbered 0 (λ m owner. invokes (is_remote program placement m) owner) program.modules)

-- P4, and P6: there is no bus, and some invocation is remote
abbrev pub whole_faults : Program → ℕ → Placement → List Fault
whole_faults program after_all placement =
    fault_if (has_unplaced program placement) after_all 4
    ++ fault_if (is_none placement.bus && has_remote program placement) after_all 6

-- what the lines of a file say
abbrev pub lines_said : Program → List ℕ → List (Said Entry)
lines_said program bytes = statements (entry_of program) bytes

-- the faults of lines, after which a line would have the number after_all
abbrev pub faults_of : Program → ℕ → List (Said Entry) → List Fault
faults_of program after_all lines =
    flat_map line_faults lines
    ++ many_faults (nodes_in lines) (costs_in lines)
    ++ whole_faults program after_all (placement_said lines)

-- the faults of a file
abbrev pub placement_faults : Program → List ℕ → List Fault
placement_faults program bytes = faults_of program (number_after bytes) (lines_said program bytes)

-- the fault is the first of them; nothing where memory is wanting
abbrev pub TellsFirst : PlaceError → List Fault → Type 0
TellsFirst (BadPlacement f) faults = IsFirst f faults
TellsFirst NoMemory faults = Unit {0}
