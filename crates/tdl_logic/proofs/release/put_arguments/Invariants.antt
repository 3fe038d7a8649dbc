use Rattle.std.proofs.Common.{◌≡◌, length, take}
use Rattle.tdl_mode.specs.States.{kinds_of}
use Rattle.tdl_mode.specs.Phases.{narrowed_args}
use Rattle.tdl_logic.specs.Looks.{shown}
use Rattle.tdl_logic.proofs.release.put_arguments.Given as goal

-- the numbers so far are those of the arguments
abbrev pub invariant-loop-at : goal.invariant-loop-at
invariant-loop-at l = record {
  so_far : take l.at l.into ≡ take l.at (narrowed_args (kinds_of l.ports) l.args (shown l.seen));
  count : length l.into ≡ length l.fn.into;
}
