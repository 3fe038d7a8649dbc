-- The activities that are left meet what all meet.
use Rattle.std.proofs.Common.{◌≡◌, drop}
use Rattle.tdl_rules.specs.Lists.{each}
use Rattle.tdl_rules.specs.ModeRules.{overlap, invoked}
use Rattle.tdl_rules.specs.Times.{time_us}
use Rattle.tdl_slots.specs.Choices.{spans_in}
use Rattle.tdl_occurs.specs.Invocations.{is_met, invocations}
use Rattle.tdl_occurs.proofs.overlaps.overlap_any.Given as goal

abbrev pub invariant-loop-act : goal.invariant-loop-act
invariant-loop-act l =
    is_met overlap (each (λ act. invoked l.scope (time_us l.period) act act.what) l.earlier) (invocations l.task l.name (spans_in l.spans))
    ≡ is_met overlap (each (λ act. invoked l.scope (time_us l.period) act act.what) (drop l.act-index l.earlier))
    (invocations l.task l.name (spans_in l.spans))
