-- One more slot, and the end of them.
use Rattle.std.proofs.Common.{ℕ, ◌*◌, arith}
use Rattle.std.specs.List.{list_any}
use Rattle.tdl_slots.specs.Choices.{ends_of}
use Rattle.tdl_slots.proofs.ItemsLeft.{fails_slot}
use Rattle.tdl_slots.proofs.chosen.Chosen.any_end.Goals as goal

pub loop-slot-preserved : goal.loop-slot-preserved
loop-slot-preserved g c =
    fails_slot (g.R.OnOffset.passes c.args.rule.now) (λ (i : ℕ). i * c.args.self.now.width) c.loop-slot.slot c.args.last
    (list_any (g.R.OnOffset.passes c.args.rule.now) (ends_of c.args.self.now.width (c.args.first, c.args.last)))
    (omega (arith, c.loop-slot-test.true)) c.loop-slot.invariant c.if-test.ensures
