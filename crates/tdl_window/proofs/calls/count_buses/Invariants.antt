use Rattle.std.proofs.Common.{◌≡◌, ◌+◌, ◌≤◌, drop, length, filter}
use Rattle.tdl_deploy.specs.Passes.{is_bus_of}
use Rattle.tdl_window.proofs.calls.count_buses.Given as goal

abbrev pub invariant-loop-window : goal.invariant-loop-window
invariant-loop-window l =
    (l.count + length (filter (is_bus_of l.call.«module».0 l.call.mode.0 l.call.number) (drop l.window-index l.windows))
    ≡ length (filter (is_bus_of l.call.«module».0 l.call.mode.0 l.call.number) l.windows))
    × (l.count ≤ l.window-index)
