-- Rule by rule.
use Rattle.std.proofs.Common.{[], ◌∷◌}
use Rattle.tdl_rules.specs.ModeRules.{c9, c10, c11, c12, c13, c14, c15, c16, c17}
use Rattle.tdl_check.proofs.Joining.{pass, no_pass}
use Rattle.tdl_check.proofs.rules.modes.Goals as goal

pub returns : goal.returns
returns c =
    let s = c.args.sources.now in
    let last = c.wrong_worst_cases.new.best in
    pass c.args.best.now c.wrong_periods.new.best last (c9 s) (c10 s ∷ c11 s ∷ c12 s ∷ c13 s ∷ c14 s ∷ c15 s ∷ c16 s ∷ c17 s ∷ []) c.wrong_periods.ensures
    (pass c.wrong_periods.new.best c.wrong_frequencies.new.best last (c10 s) (c11 s ∷ c12 s ∷ c13 s ∷ c14 s ∷ c15 s ∷ c16 s ∷ c17 s ∷ []) c.wrong_frequencies.ensures
    (pass c.wrong_frequencies.new.best c.wrong_ranges.new.best last (c11 s) (c12 s ∷ c13 s ∷ c14 s ∷ c15 s ∷ c16 s ∷ c17 s ∷ []) c.wrong_ranges.ensures
    (pass c.wrong_ranges.new.best c.wrong_starts.new.best last (c12 s) (c13 s ∷ c14 s ∷ c15 s ∷ c16 s ∷ c17 s ∷ []) c.wrong_starts.ensures
    (pass c.wrong_starts.new.best c.overlapping_invocations.new.best last (c13 s) (c14 s ∷ c15 s ∷ c16 s ∷ c17 s ∷ []) c.overlapping_invocations.ensures
    (pass c.overlapping_invocations.new.best c.overlapping_updates.new.best last (c14 s) (c15 s ∷ c16 s ∷ c17 s ∷ []) c.overlapping_updates.ensures
    (pass c.overlapping_updates.new.best c.cutting_switches.new.best last (c15 s) (c16 s ∷ c17 s ∷ []) c.cutting_switches.ensures
    (pass c.cutting_switches.new.best c.own_targets.new.best last (c16 s) (c17 s ∷ []) c.own_targets.ensures
    (pass c.own_targets.new.best c.wrong_worst_cases.new.best last (c17 s) ([]) c.wrong_worst_cases.ensures
    (no_pass last)))))))))
