-- What the reader tells of the faults of a file.
use Rattle.std.proofs.Common.{◌≡◌, ℕ, List, [], length, Option, Some, None, sym, ap, ◌∙◌}
use Rattle.tdl_lines.specs.declared.fault.Fault.{Fault}
use Rattle.tdl_lines.specs.declared.said.Said.{Said}
use Rattle.tdl_lines.specs.Faults.{earliest, IsFirst}
use Rattle.tdl_lines.specs.SaidLines.{number_after}
use Rattle.tdl_lines.proofs.FirstFault.{none_is, first_is}
use Rattle.tdl_trace.specs.declared.names.Names.{Names}
use Rattle.tdl_scenario.specs.declared.entry.Entry.{Entry}
use Rattle.tdl_scenario.specs.declared.plants.PlantPorts.{PlantPorts}
use Rattle.tdl_scenario.specs.Rules.{faults_of, lines_said, scenario_faults}

-- the earliest fault of the lines that were read is that of the file
earliest_is : (names : Names) (plants : List PlantPorts) (bytes : List ℕ) (lines : List (Said Entry)) (nodes line : ℕ)
    (found : Option Fault) → lines ≡ lines_said names plants bytes → nodes ≡ length names.nodes → line
    ≡ number_after bytes →
    found ≡ earliest None (faults_of nodes line lines) → earliest None (scenario_faults names plants bytes) ≡ found
earliest_is names plants bytes lines nodes line found same count after e =
    sym (e ∙ ap (λ (ls : List (Said Entry)). earliest None (faults_of nodes line ls)) same
    ∙ ap (λ (n : ℕ). earliest None (faults_of n line (lines_said names plants bytes))) count
    ∙ ap (λ (k : ℕ). earliest None (faults_of (length names.nodes) k (lines_said names plants bytes))) after)

-- where none is found there is none
pub no_fault : (names : Names) (plants : List PlantPorts) (bytes : List ℕ) (lines : List (Said Entry)) (nodes line : ℕ)
    (found : Option Fault) → lines ≡ lines_said names plants bytes → nodes ≡ length names.nodes → line
    ≡ number_after bytes →
    found ≡ earliest None (faults_of nodes line lines) → found ≡ None → scenario_faults names plants bytes ≡ []
no_fault names plants bytes lines nodes line found same count after e none =
    none_is (scenario_faults names plants bytes)
    (earliest_is names plants bytes lines nodes line found same count after e ∙ none)

-- where one is found it is the first
pub first_found : (names : Names) (plants : List PlantPorts) (bytes : List ℕ) (lines : List (Said Entry))
    (nodes line : ℕ)
    (found : Option Fault) (f : Fault) → lines ≡ lines_said names plants bytes → nodes ≡ length names.nodes →
    line ≡ number_after bytes → found ≡ earliest None (faults_of nodes line lines) → found ≡ Some f →
    IsFirst f (scenario_faults names plants bytes)
first_found names plants bytes lines nodes line found f same count after e is =
    first_is (scenario_faults names plants bytes) f
    (earliest_is names plants bytes lines nodes line found same count after e ∙ is)
