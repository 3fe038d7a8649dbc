-- How many ports a task has, how much all modes do and how long anything lasts, and that numbers are of their kinds.
use Rattle.std.specs.Prelude.{◌≡◌, ℕ, ◌+◌, ◌≤◌, List, map, length, Some, slice_get}
use Rattle.tdl_base.specs.declared.limits.TheConstants.{OCCURRENCES, PERIOD_US, PORTS, WORST_CASE_US}
use Rattle.tdl_base.specs.Numbers.{IsOfKind}
use Rattle.tdl_body.specs.Bounds.{total}
use Rattle.tdl_mode.specs.declared.program.Program.{Program}
use Rattle.tdl_mode.specs.declared.program.Module.{Module}
use Rattle.tdl_mode.specs.declared.program.Constant.{Constant}
use Rattle.tdl_mode.specs.declared.program.PortDef.{PortDef}
use Rattle.tdl_mode.specs.declared.program.Task.{Task}
use Rattle.tdl_mode.specs.declared.program.Mode.{Mode}

-- ---- occurrences

-- how many invocations, updates and switches a mode has
abbrev pub mode_occurrences : Mode → ℕ
mode_occurrences mode = length mode.invocations + length mode.updates + length mode.switches

-- how many the modes of a module have
abbrev pub module_occurrences : Module → ℕ
module_occurrences m = total (map mode_occurrences m.modes)

-- ---- parts

-- each of these begins with a number of its kind
abbrev pub BeginInKind : List PortDef → Type 0
BeginInKind ports = (n : ℕ) (port : PortDef) → slice_get ports n ≡ Some port → IsOfKind port.kind port.initial

-- a task has at most so many ports, and takes at most so long
pub record TaskCounts (task : Task) : Type 0 where
  pub ports : length task.inputs + length task.outputs + length task.locals ≤ PORTS
  pub worst : task.worst.0 ≤ WORST_CASE_US
  pub inputs : BeginInKind task.inputs
  pub outputs : BeginInKind task.outputs
  pub locals : BeginInKind task.locals

-- the numbers of a module are of their kinds, and its periods at most so long
pub record ModuleCounts (m : Module) : Type 0 where
  pub constants : (n : ℕ) (constant : Constant) → slice_get m.constants n ≡ Some constant →
      IsOfKind constant.kind constant.value
  pub sensors : BeginInKind m.sensors
  pub actuators : BeginInKind m.actuators
  pub tasks : (n : ℕ) (task : Task) → slice_get m.tasks n ≡ Some task → TaskCounts task
  pub periods : (n : ℕ) (mode : Mode) → slice_get m.modes n ≡ Some mode → mode.period.0 ≤ PERIOD_US

-- the modes of all modules together have at most so many invocations, updates and switches
pub record KeepsCounts (program : Program) : Type 0 where
  pub occurrences : total (map module_occurrences program.modules) ≤ OCCURRENCES
  pub modules : (k : ℕ) (m : Module) → slice_get program.modules k ≡ Some m → ModuleCounts m
