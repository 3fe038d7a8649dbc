use Rattle.std.proofs.Common.{◌≡◌, ◌-◌, ◌+◌, ◌*◌, ◌^◌, [], filter, length}
use Rattle.tdl_verify.specs.Turns.{Spot}
use Rattle.tdl_verify.specs.Runs.{is_plain}
use Rattle.tdl_host.specs.Hosts.{HasReleased, host_turn, spot_now}
use Rattle.tdl_host.proofs.turn.run_turn.Given as goal

abbrev pub invariant-loop-done : goal.invariant-loop-done
invariant-loop-done l = record {
  host : l.state.host ≡ l.fn.state.host;
  room : length l.numbers ≡ length l.fn.numbers;
  same : host_turn (l.declared - l._done) l.state.host l.scene.times.now l.scene.senses.now l.scene.at
      (spot_now l.standing) l.state.now l.rows
      ≡ host_turn l.declared l.fn.state.host l.scene.times.now l.scene.senses.now l.scene.at Spot.Between
      l.fn.state.now [];
  released : HasReleased (l.scene.at * 2 ^ 32 + l._done) l.state.now;
  plain : filter is_plain l.rows ≡ l.rows;
}
