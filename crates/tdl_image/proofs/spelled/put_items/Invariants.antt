use Rattle.std.proofs.Common.{◌≡◌, ◌++◌, take}
use Rattle.std.specs.List.{flat_map}
use Rattle.tdl_image.proofs.spelled.put_items.Given as goal

-- the first items are put
abbrev pub invariant-loop-item : goal.invariant-loop-item
invariant-loop-item g l = l.into.items ≡ l.fn.into.items ++ flat_map g.T.Spelled.spelling (take l.item-index l.items)
