use Rattle.std.proofs.Common.{◌≡◌, min, take}
use Rattle.tdl_tree.specs.Names.{value_of_digits, greatest}
use Rattle.tdl_parse.proofs.names.capped_value.Given as goal

abbrev pub invariant-loop-c : goal.invariant-loop-c
invariant-loop-c l = l.value ≡ min (value_of_digits (take l.c-index l.digits)) greatest
