use Rattle.std.proofs.Common.{take}
use Rattle.std.specs.List.{All}
use Rattle.tdl_logic.specs.Rooms.{HasInputsOf}
use Rattle.tdl_logic.proofs.room.most_inputs.Given as goal

abbrev pub invariant-loop-module : goal.invariant-loop-module
invariant-loop-module l = All (HasInputsOf l.most) (take l.module-index l.modules)
