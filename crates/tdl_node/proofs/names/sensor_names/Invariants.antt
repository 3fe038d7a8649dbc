use Rattle.std.proofs.Common.{◌≡◌, ◌++◌, drop, map}
use Rattle.tdl_verify.specs.Texts as texts
use Rattle.tdl_node.proofs.names.sensor_names.Given as goal

-- the first sensors are named
abbrev pub invariant-loop-sensor : goal.invariant-loop-sensor
invariant-loop-sensor l =
    l.list ++ map texts.sensor_named (drop l.sensor-index l.sensors) ≡ map texts.sensor_named l.sensors
