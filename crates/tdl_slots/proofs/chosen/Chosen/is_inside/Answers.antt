-- Without ranges an offset is inside a slot where it is no multiple.
use Rattle.std.proofs.Common.{arith}
use Rattle.tdl_slots.specs.Choices.{ranges_in}
use Rattle.tdl_slots.proofs.Insides.{inside_before, inside_after, inside_none}
use Rattle.tdl_slots.proofs.chosen.Chosen.is_inside.Goals as goal

pub returns-then-self-eq0 : goal.returns-then-self-eq0
returns-then-self-eq0 c = inside_none c.args.self.now.width c.args.offset (ranges_in c.args.self.now) c.if-self-eq0.true

pub returns-then-offset-self : goal.returns-then-offset-self
returns-then-offset-self c =
    inside_after c.args.self.now.width c.args.offset c.args.self.now.frequency c.args.self.now.slots.now c.if-self-ne0.false
    (omega (arith, c.if-self-eq0.false)) c.if-offset-self.true

pub returns : goal.returns
returns c =
    inside_before c.args.self.now.width c.args.offset c.args.self.now.frequency c.args.self.now.slots.now c.if-self-ne0.false
    (omega (arith, c.if-self-eq0.false)) c.if-offset-self.false
