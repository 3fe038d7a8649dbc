use Rattle.std.proofs.Common.{◌≡◌, nat_lt, drop}
use Rattle.tdl_window.specs.Broken.{time_given}
use Rattle.tdl_window.proofs.calls.gives_less.Given as goal

abbrev pub invariant-loop-window : goal.invariant-loop-window
invariant-loop-window l =
    nat_lt (time_given (drop l.window-index l.windows) l.call.«module».0 l.call.mode.0 l.call.number) l.left
    ≡ nat_lt (time_given l.windows l.call.«module».0 l.call.mode.0 l.call.number) l.needed
