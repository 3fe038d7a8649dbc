-- Rule by rule.
use Rattle.std.proofs.Common.{[], ◌∷◌}
use Rattle.tdl_rules.specs.BoundRules.{c18, c19, c20}
use Rattle.tdl_check.proofs.Joining.{pass, no_pass}
use Rattle.tdl_check.proofs.rules.bounds.Goals as goal

pub returns : goal.returns
returns c =
    let s = c.args.sources.now in
    let last = c.long_bodies.new.best in
    pass c.args.best.now c.long_repeats.new.best last (c18 s) (c19 s ∷ c20 s ∷ []) c.long_repeats.ensures
    (pass c.long_repeats.new.best c.deep_expressions.new.best last (c19 s) (c20 s ∷ []) c.deep_expressions.ensures
    (pass c.deep_expressions.new.best c.long_bodies.new.best last (c20 s) ([]) c.long_bodies.ensures
    (no_pass last)))
