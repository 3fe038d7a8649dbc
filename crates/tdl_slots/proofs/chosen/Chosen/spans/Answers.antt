-- One more range.
use Rattle.std.proofs.Common.{◌-◌, ◌*◌, refl}
use Rattle.tdl_slots.specs.Choices.{let_of, span_of, ranges_in, spans_in}
use Rattle.tdl_slots.proofs.Listing.{item_at, one_more}
use Rattle.tdl_slots.proofs.chosen.Chosen.spans.Goals as goal

pub loop-number-preserved : goal.loop-number-preserved
loop-number-preserved c =
    let width = c.args.self.now.width in
    one_more let_of (span_of width) c.loop-number.spans c.push.new.self
    (record { start = (c.in-Some.first - 1) * width; end = c.in-Some.last * width })
    (spans_in c.args.self.now) (ranges_in c.args.self.now) c.loop-number.number (c.in-Some.first, c.in-Some.last)
    (item_at (ranges_in c.args.self.now) c.loop-number.number (c.in-Some.first, c.in-Some.last) c.in-Some.ensures.value)
    c.in_ok-push.ensures.ok refl c.loop-number.invariant
