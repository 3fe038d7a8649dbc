use Rattle.std.proofs.Common.{◌≡◌, take, map}
use Rattle.tdl_logic.specs.Wholes.{entered_now}
use Rattle.tdl_logic.proofs.logic.first_nows.Given as goal

abbrev pub invariant-loop-module : goal.invariant-loop-module
invariant-loop-module l = l.nows.items ≡ map entered_now (take l.module-index l.modules)
