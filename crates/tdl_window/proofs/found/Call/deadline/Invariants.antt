use Rattle.std.proofs.Common.{◌≡◌, drop}
use Rattle.tdl_deploy.specs.Passes.{deadline}
use Rattle.tdl_window.proofs.found.Call.deadline.Given as goal

abbrev pub invariant-loop-window : goal.invariant-loop-window
invariant-loop-window l =
    deadline (record { windows = drop l.window-index l.windows }) l.self.«module».0 l.self.mode.0 l.self.number l.end
    ≡ deadline (record { windows = l.windows }) l.self.«module».0 l.self.mode.0 l.self.number l.end
