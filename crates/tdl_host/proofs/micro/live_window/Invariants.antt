use Rattle.std.proofs.Common.{◌≡◌, ◌++◌, drop, filter}
use Rattle.tdl_verify.specs.Micros.{is_live}
use Rattle.std.specs.Option.{option_to_list}
use Rattle.tdl_host.proofs.micro.live_window.Given as goal

abbrev pub invariant-loop-window : goal.invariant-loop-window
invariant-loop-window l =
    option_to_list l.found
    ++ filter (is_live l.at l.state.now) (drop l.window-index l.window-items)
    ≡ filter (is_live l.at l.state.now) l.state.host.windows
