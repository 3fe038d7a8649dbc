-- What is read without a fault is lawful.
use Rattle.std.proofs.Common.{◌≡◌, ℕ, List, [], filter_map, length, arith}
use Rattle.std.proofs.lemmas.List.Elements.{All-from_recursion}
use Rattle.tdl_trace.specs.declared.names.Names.{Names}
use Rattle.tdl_lines.specs.Faults.{fault_if}
use Rattle.tdl_lines.specs.SaidLines.{said_lines, number_after}
use Rattle.std.proofs.Common.{not}
use Rattle.std.specs.List.{list_any}
use Rattle.tdl_scenario.specs.declared.plants.PlantPorts.{PlantPorts}
use Rattle.tdl_scenario.specs.LawfulScenario.{IsSensed, AreTimes, IsLawful}
use Rattle.tdl_scenario.specs.ReadScenario.{scenario_said, sense_in, times_in}
use Rattle.tdl_scenario.specs.Rules.{faults_after, is_horizon, lines_said, scenario_faults}
use Rattle.tdl_scenario.proofs.LawfulParts.{what_of, horizon_within, senses_there, times_there, order_is}
use Rattle.tdl_scenario.proofs.Quiet.{none_both, all_quiet}
use Rattle.tdl_scenario.proofs.RisingParts.{are_rising}
use Rattle.tdl_scenario.proofs.SaidForms.{lines_there}

-- the scenario of a file without a fault
pub lawful : (names : Names) (plants : List PlantPorts) (bytes : List ℕ) → scenario_faults names plants bytes ≡ [] →
    IsLawful names (scenario_said (lines_said names plants bytes))
lawful names plants bytes none =
    let lines = lines_said names plants bytes in
    let nodes = length names.nodes in
    let both =
    none_both (faults_after nodes [] lines)
    (fault_if (not (list_any is_horizon lines)) (number_after bytes) 1) none in
    let quiet = all_quiet nodes [] lines both.0 in
    let there = lines_there names plants (said_lines bytes) in
    record {
      horizon = horizon_within nodes [] lines (record { 0 = 0 }) (omega arith) quiet;
      senses = All-from_recursion (IsSensed names) (filter_map sense_in (what_of lines))
          (senses_there names lines there);
      rising = are_rising nodes [] lines quiet;
      times = All-from_recursion (AreTimes names) (filter_map times_in (what_of lines))
          (times_there names nodes [] lines there quiet);
      order = order_is nodes [] lines quiet;
    }
