use Rattle.std.proofs.Common.{◌≡◌, ◌-◌}
use Rattle.tdl_decode.specs.Reading.{ascending_items_in}
use Rattle.tdl_decode.proofs.Loops.{with_front}
use Rattle.tdl_decode.proofs.lists.ascending_items.Given as goal

-- what was read and what is still read are the whole list
abbrev pub invariant-loop : goal.invariant-loop
invariant-loop g l =
    with_front l.list
    (ascending_items_in g.T.Numbered.reading g.T.Numbered.number_of l.least (l.count - l.counter) l.rest)
    ≡ ascending_items_in g.T.Numbered.reading g.T.Numbered.number_of 0 l.count l.bytes
