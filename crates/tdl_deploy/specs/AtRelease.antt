-- The schedule that gives each invocation the processor at its release.
use Rattle.std.specs.Prelude.{ℕ, suc, List, option_map, unwrap_or, slice_get}
use Rattle.tdl_base.specs.Lists.{joined, numbered}
use Rattle.tdl_mode.specs.declared.program.Program.{Program}
use Rattle.tdl_mode.specs.declared.program.Module.{Module}
use Rattle.tdl_mode.specs.declared.program.Mode.{Mode}
use Rattle.tdl_mode.specs.declared.program.Invocation.{Invocation}
use Rattle.tdl_deploy.specs.declared.schedule.Schedule.{Schedule}
use Rattle.tdl_deploy.specs.declared.schedule.Window.{Window}
use Rattle.tdl_deploy.specs.declared.schedule.Resource.TheVariants.{Cpu}

-- the worst case of task t of a module, 0 where there is none
abbrev pub worst_case_of : Module → ℕ → ℕ
worst_case_of owner t = unwrap_or (option_map (λ u. u.worst.0) (slice_get owner.tasks t)) 0

-- the processor window of the invocation at a place of mode k of module m: from its release, for its worst case
abbrev pub window_at_release : ℕ → Module → ℕ → ℕ → Invocation → Window
window_at_release m owner k place invocation = record {
  resource = Cpu;
  «module» = record { 0 = m };
  mode = record { 0 = k };
  invocation = suc place;
  offset = invocation.s.0;
  length = worst_case_of owner invocation.task.0;
}

-- the windows of a mode, in order of its invocations
abbrev pub mode_windows : ℕ → Module → ℕ → Mode → List Window
mode_windows m owner k mode = numbered 0 (window_at_release m owner k) mode.invocations

-- the windows of a module, in order of its modes
abbrev pub module_windows : ℕ → Module → List Window
module_windows m owner = joined (numbered 0 (mode_windows m owner) owner.modes)

-- each invocation of a program has the processor from its release on, for the worst case of its task
abbrev pub schedule_at_release : Program → Schedule
schedule_at_release program = record { windows = joined (numbered 0 module_windows program.modules) }
