-- The modules so far have all sensors 0.
use Rattle.std.proofs.Common.{◌≡◌, take}
use Rattle.tdl_base.specs.Sensed.{all_zero}
use Rattle.tdl_base.proofs.sensed.Sensed.new.Given as goal

abbrev pub invariant-loop-count : goal.invariant-loop-count
invariant-loop-count l = l.modules.items ≡ all_zero (take l.count-index l.counts)
