-- The activities that are left meet what all meet.
use Rattle.std.proofs.Common.{◌≡◌, drop}
use Rattle.tdl_rules.specs.Lists.{each}
use Rattle.tdl_rules.specs.ModeRules.{same_update, updated}
use Rattle.tdl_rules.specs.Times.{time_us}
use Rattle.tdl_slots.specs.Choices.{offsets_in}
use Rattle.tdl_occurs.specs.Invocations.{is_met, updates}
use Rattle.tdl_occurs.proofs.updates.update_any.Given as goal

abbrev pub invariant-loop-act : goal.invariant-loop-act
invariant-loop-act l =
    is_met same_update (each (λ act. updated l.scope (time_us l.period) act act.what) l.earlier) (updates l.actuator l.name (offsets_in l.offsets))
    ≡ is_met same_update (each (λ act. updated l.scope (time_us l.period) act act.what) (drop l.act-index l.earlier))
    (updates l.actuator l.name (offsets_in l.offsets))
