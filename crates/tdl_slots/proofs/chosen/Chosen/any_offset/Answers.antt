-- One more range, and the end of them.
use Rattle.std.specs.List.{list_any}
use Rattle.tdl_slots.specs.Choices.{ends_of, ranges_in, offsets_in}
use Rattle.tdl_slots.proofs.ItemsLeft.{passes_each, fails_each}
use Rattle.tdl_slots.proofs.chosen.Chosen.any_offset.Goals as goal

pub returns-then-any_end : goal.returns-then-any_end
returns-then-any_end g c =
    passes_each (g.R.OnOffset.passes c.args.rule.now) (ends_of c.args.self.now.width) (ranges_in c.args.self.now) c.loop-number.number
    (c.in-Some.first, c.in-Some.last) (list_any (g.R.OnOffset.passes c.args.rule.now) (offsets_in c.args.self.now))
    c.in-Some.ensures.value c.loop-number.invariant c.if-any_end.ensures

pub loop-number-preserved : goal.loop-number-preserved
loop-number-preserved g c =
    fails_each (g.R.OnOffset.passes c.args.rule.now) (ends_of c.args.self.now.width) (ranges_in c.args.self.now) c.loop-number.number
    (c.in-Some.first, c.in-Some.last) (list_any (g.R.OnOffset.passes c.args.rule.now) (offsets_in c.args.self.now))
    c.in-Some.ensures.value c.loop-number.invariant c.if-any_end.ensures
