-- The ranges are counted.
use Rattle.std.proofs.Common.{sym}
use Rattle.tdl_slots.proofs.Lawful.{slot_count}
use Rattle.tdl_slots.proofs.chosen.Chosen.count.Goals as goal

pub returns-then-self-eq0 : goal.returns-then-self-eq0
returns-then-self-eq0 c = sym (slot_count c.args.self.now.frequency c.args.self.now.slots.now c.if-self-eq0.true)
