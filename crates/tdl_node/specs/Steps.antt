-- What a machine does from one instant to the next, and where its run stops.
use Rattle.std.specs.Prelude.{◌≡◌, ℕ, suc, nat_lt, List, [], map, length, flat_map, if◌then◌else◌}
use Rattle.tdl_base.specs.declared.numbers.TheConstants.{FIRST_NODE}
use Rattle.tdl_trace.specs.declared.why.Why.{Why}
use Rattle.tdl_trace.specs.declared.why.Why.TheVariants as why
use Rattle.tdl_trace.specs.declared.names.Names.{Names}
use Rattle.tdl_trace.specs.Lines.{text_of}
use Rattle.tdl_base.specs.Sensed.{Sensed}
use Rattle.tdl_scen.specs.declared.entries.Sense.{Sense}
use Rattle.tdl_scen.specs.Scenario.{course_of}
use Rattle.tdl_image.specs.declared.bundle.Bundle.{Bundle}
use Rattle.tdl_verify.specs.States.{Part, Times}
use Rattle.tdl_verify.specs.Turns.{Spot, Turned, turn}
use Rattle.tdl_verify.specs.Micros.{live, run_part}
use Rattle.tdl_verify.specs.Runs.{Now, Run, machine_run, plain_rows, no_loss}
use Rattle.tdl_trace.specs.declared.print_fault.PrintFault.{PrintFault}
use Rattle.tdl_trace.specs.declared.print_fault.PrintFault.TheVariants as printing
use Rattle.tdl_node.specs.declared.machine.Stop.{Stop}
use Rattle.tdl_node.specs.declared.machine.Stop.TheVariants as stop
use Rattle.tdl_node.specs.declared.fault.NodeFault.{NodeFault}
use Rattle.tdl_node.specs.declared.fault.NodeFault.TheVariants as fault
use Rattle.tdl_node.specs.Machines.{plain_turned}

-- the turn of parts at x, without its log lines
abbrev pub turned_at : ℕ → Sensed → Times → ℕ → List Part → Turned
turned_at declared sensed times x parts = plain_turned (turn declared x FIRST_NODE.0 sensed times Spot.Between parts [])

-- the microsecond that begins at x and the turn after it
abbrev pub micro_and_turn : ℕ → Sensed → Times → ℕ → List Part → Turned
micro_and_turn declared sensed times x parts =
    if nat_lt 1 (length (flat_map (live x) parts)) then Turned.Trapped why.Clash else turned_at declared sensed times (suc x) (map (run_part x) parts)

-- the run of a bundle up to a horizon, where these entries are sensed and no frame is lost
abbrev pub run_of : Bundle → ℕ → List Sense → Times → Run
run_of b horizon senses times = machine_run b horizon (course_of senses) times no_loss

-- the lines of a run without the log
abbrev pub run_text : Names → Run → List ℕ
run_text names r = text_of names (plain_rows r)

-- the fault of a run whose machine stopped
abbrev pub fault_of : Stop → NodeFault
fault_of (stop.Trapped reason) = fault.Trapped reason
fault_of stop.NoMemory = fault.NoMemory

-- the fault of a run whose rows were not printed
abbrev pub printing_fault : PrintFault → NodeFault
printing_fault printing.WriteFailed = fault.WriteFailed
printing_fault printing.NoMemory = fault.NoMemory

-- where a run trapped, this holds of the trap
abbrev pub IsTrapFault : (Why → Type 0) → NodeFault → Type 0
IsTrapFault says (fault.Trapped reason) = says reason
IsTrapFault says other = Unit {0}

-- a run is dead for this reason
abbrev pub IsDeadFor : Now → Why → Type 0
IsDeadFor (Now.Alive s) reason = ⊥
IsDeadFor (Now.Dead node at why) reason = why ≡ reason
