-- The activities that are left cut what all cut.
use Rattle.std.proofs.Common.{◌≡◌, drop}
use Rattle.std.specs.List.{list_any}
use Rattle.tdl_rules.specs.ModeRules.{cuts, mode_lets}
use Rattle.tdl_rules.specs.Times.{time_us}
use Rattle.tdl_slots.specs.Choices.{offsets_in}
use Rattle.tdl_occurs.proofs.cuts.is_cut.Given as goal

abbrev pub invariant-loop-act : goal.invariant-loop-act
invariant-loop-act l =
    list_any (cuts (mode_lets (time_us l.period) l.acts)) (offsets_in l.switched)
    ≡ list_any (cuts (mode_lets (time_us l.period) (drop l.act-index l.acts))) (offsets_in l.switched)
