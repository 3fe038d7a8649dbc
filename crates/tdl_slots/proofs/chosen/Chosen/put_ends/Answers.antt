-- One more slot.
use Rattle.std.proofs.Common.{ℕ, ◌*◌, ◌++◌, arith}
use Rattle.tdl_slots.specs.Choices.{ends_of}
use Rattle.tdl_slots.proofs.ItemsLeft.{more_slots}
use Rattle.tdl_slots.proofs.chosen.Chosen.put_ends.Goals as goal

pub loop-slot-preserved : goal.loop-slot-preserved
loop-slot-preserved c =
    more_slots (λ (i : ℕ). i * c.args.self.now.width) c.loop-slot.into c.push.new.self
    (c.args.into.now ++ ends_of c.args.self.now.width (c.args.first, c.args.last)) c.loop-slot.slot c.args.last
    (omega (arith, c.loop-slot-test.true)) c.in_ok-push.ensures.ok c.loop-slot.invariant
