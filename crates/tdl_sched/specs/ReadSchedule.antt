-- What a schedule's text says.
use Rattle.std.specs.Prelude.{ℕ, List, filter_map, Option, Some, None}
use Rattle.tdl_mode.specs.declared.program.Program.{Program}
use Rattle.tdl_deploy.specs.declared.schedule.Schedule.{Schedule}
use Rattle.tdl_deploy.specs.declared.schedule.Window.{Window}
use Rattle.tdl_lines.specs.declared.fault.Fault.{Fault}
use Rattle.tdl_lines.specs.declared.said.Said.{Said}
use Rattle.tdl_lines.specs.Faults.{IsFirst}
use Rattle.tdl_sched.specs.declared.entry.Entry.{Entry}
use Rattle.tdl_sched.specs.declared.entry.Entry.TheVariants.{Reserve}
use Rattle.tdl_sched.specs.declared.error.SchedError.{SchedError}
use Rattle.tdl_sched.specs.declared.error.SchedError.TheVariants.{BadSchedule, NoMemory}
use Rattle.tdl_sched.specs.ScheduleRules.{lines_said}

-- the window of a line whose invocation is there and whose numbers fit
abbrev pub window_in : Entry → Option Window
window_in (Reserve resource (Some called) (Some span)) = Some (record {
  resource = resource;
  «module» = called.«module»;
  mode = called.mode;
  invocation = called.invocation;
  offset = span.offset;
  length = span.length;
})
window_in e = None

-- the windows that lines say, in their order
abbrev pub windows_in : List (Said Entry) → List Window
windows_in lines = filter_map (λ (line : Said Entry). window_in line.what) lines

-- what the text says; where no rule is broken each line that is not skipped says a window
abbrev pub schedule_said : Program → List ℕ → Schedule
schedule_said program bytes = record { windows = windows_in (lines_said program bytes) }

-- the fault is the first of them; nothing where memory is wanting
abbrev pub TellsFirst : SchedError → List Fault → Type 0
TellsFirst (BadSchedule f) faults = IsFirst f faults
TellsFirst NoMemory faults = Unit {0}
