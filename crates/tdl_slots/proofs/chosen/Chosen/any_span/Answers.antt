-- One more range, and the end of them.
use Rattle.std.specs.List.{list_any}
use Rattle.tdl_slots.specs.Choices.{span_of, ranges_in, spans_in}
use Rattle.tdl_slots.proofs.ItemsLeft.{passes, fails}
use Rattle.tdl_slots.proofs.chosen.Chosen.any_span.Goals as goal

pub returns-then-test : goal.returns-then-test
returns-then-test g c =
    passes (g.R.OnSpan.passes c.args.rule.now) (span_of c.args.self.now.width) (ranges_in c.args.self.now) c.loop-number.number
    (c.in-Some.first, c.in-Some.last) (list_any (g.R.OnSpan.passes c.args.rule.now) (spans_in c.args.self.now))
    c.in-Some.ensures.value c.loop-number.invariant c.if-test.ensures

pub loop-number-preserved : goal.loop-number-preserved
loop-number-preserved g c =
    fails (g.R.OnSpan.passes c.args.rule.now) (span_of c.args.self.now.width) (ranges_in c.args.self.now) c.loop-number.number
    (c.in-Some.first, c.in-Some.last) (list_any (g.R.OnSpan.passes c.args.rule.now) (spans_in c.args.self.now))
    c.in-Some.ensures.value c.loop-number.invariant c.if-test.ensures
