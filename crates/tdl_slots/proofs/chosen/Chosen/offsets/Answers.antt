-- One more range.
use Rattle.tdl_slots.specs.Choices.{ends_of, ranges_in, offsets_in}
use Rattle.tdl_slots.proofs.Listing.{item_at, each_more}
use Rattle.tdl_slots.proofs.chosen.Chosen.offsets.Goals as goal

pub loop-number-preserved : goal.loop-number-preserved
loop-number-preserved c =
    each_more (ends_of c.args.self.now.width) c.loop-number.offsets c.put_ends.new.into
    (offsets_in c.args.self.now) (ranges_in c.args.self.now) c.loop-number.number (c.in-Some.first, c.in-Some.last)
    (item_at (ranges_in c.args.self.now) c.loop-number.number (c.in-Some.first, c.in-Some.last) c.in-Some.ensures.value)
    c.in_ok-put_ends.ensures c.loop-number.invariant
