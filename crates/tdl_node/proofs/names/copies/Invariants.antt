use Rattle.std.proofs.Common.{◌≡◌, take}
use Rattle.tdl_node.proofs.names.copies.Given as goal

-- the first names are copied
abbrev pub invariant-loop-name : goal.invariant-loop-name
invariant-loop-name l = l.list ≡ take l.name-index l.names
