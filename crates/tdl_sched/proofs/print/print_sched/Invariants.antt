use Rattle.std.proofs.Common.{◌≡◌, ◌++◌, drop}
use Rattle.std.specs.List.{flat_map}
use Rattle.tdl_sched.specs.ScheduleText.{window_line, schedule_text}
use Rattle.tdl_sched.proofs.print.print_sched.Given as goal

abbrev pub invariant-loop-window : goal.invariant-loop-window
invariant-loop-window l =
    l.text.items ++ flat_map (window_line l.program) (drop l.window-index l.schedule.windows)
    ≡ schedule_text l.schedule l.program
