use Rattle.std.proofs.Common.{◌≡◌, ◌-◌}
use Rattle.tdl_decode.specs.Reading.{items_in}
use Rattle.tdl_decode.proofs.Loops.{with_front}
use Rattle.tdl_decode.proofs.lists.items.Given as goal

-- what was read and what is still read are the whole list
abbrev pub invariant-loop : goal.invariant-loop
invariant-loop g l =
    with_front l.list (items_in g.T.Part.reading (l.count - l.counter) l.rest) ≡ items_in g.T.Part.reading l.count l.bytes
