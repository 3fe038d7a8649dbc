use Rattle.std.proofs.Common.{◌≡◌, length, map, take}
use Rattle.tdl_host.specs.Hosts.{value_at}
use Rattle.tdl_host.proofs.seen.put_values.Given as goal

abbrev pub invariant-loop-i : goal.invariant-loop-i
invariant-loop-i l = record {
  count : length l.into ≡ length l.fn.into;
  values : take l.i l.into
      ≡ map (value_at l.state.host l.state.now l.scene.senses.now l.scene.at) (take l.i l.codes);
}
