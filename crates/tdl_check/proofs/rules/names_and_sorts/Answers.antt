-- Rule by rule.
use Rattle.std.proofs.Common.{[], ◌∷◌}
use Rattle.tdl_rules.specs.NameRules.{c1, c2, c3_c4, c6, c7}
use Rattle.tdl_rules.specs.SortRules.{c5, c8}
use Rattle.tdl_check.proofs.Joining.{pass, no_pass}
use Rattle.tdl_check.proofs.rules.names_and_sorts.Goals as goal

pub returns : goal.returns
returns c =
    let s = c.args.sources.now in
    let last = c.great_numbers.new.best in
    pass c.args.best.now c.repeated_names.new.best last (c1 s) (c2 s ∷ c3_c4 s ∷ c5 s ∷ c6 s ∷ c7 s ∷ c8 s ∷ []) c.repeated_names.ensures
    (pass c.repeated_names.new.best c.unknown_imports.new.best last (c2 s) (c3_c4 s ∷ c5 s ∷ c6 s ∷ c7 s ∷ c8 s ∷ []) c.unknown_imports.ensures
    (pass c.unknown_imports.new.best c.lost_names.new.best last (c3_c4 s) (c5 s ∷ c6 s ∷ c7 s ∷ c8 s ∷ []) c.lost_names.ensures
    (pass c.lost_names.new.best c.wrong_sorts.new.best last (c5 s) (c6 s ∷ c7 s ∷ c8 s ∷ []) c.wrong_sorts.ensures
    (pass c.wrong_sorts.new.best c.unassignable_targets.new.best last (c6 s) (c7 s ∷ c8 s ∷ []) c.unassignable_targets.ensures
    (pass c.unassignable_targets.new.best c.wrong_argument_counts.new.best last (c7 s) (c8 s ∷ []) c.wrong_argument_counts.ensures
    (pass c.wrong_argument_counts.new.best c.great_numbers.new.best last (c8 s) ([]) c.great_numbers.ensures
    (no_pass last)))))))
