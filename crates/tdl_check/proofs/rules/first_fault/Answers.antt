-- Group by group.
use Rattle.std.proofs.Common.{◌++◌, None, ◌∙◌}
use Rattle.tdl_base.specs.Lists.{joined}
use Rattle.tdl_check.specs.Groups as groups
use Rattle.tdl_rules.specs.BoundRules.{c21}
use Rattle.tdl_walk.proofs.Minimum.{in_turn}
use Rattle.tdl_check.proofs.Joining.{passed_first}
use Rattle.tdl_check.proofs.rules.first_fault.Goals as goal

pub returns : goal.returns
returns c =
    let s = c.args.sources.now in
    let counts = c21 s in
    let names = groups.names_and_sorts s in
    let modes = groups.modes s in
    let bounds = groups.bounds s in
    in_turn None c.modes.new.best c.bounds.new.best ((counts ++ joined names) ++ joined modes) (joined bounds) c.bounds.ensures
    (in_turn None c.names_and_sorts.new.best c.modes.new.best (counts ++ joined names) (joined modes) c.modes.ensures
    (in_turn None c.passed_counts.new.best c.names_and_sorts.new.best counts (joined names) c.names_and_sorts.ensures
    c.passed_counts.ensures))
    ∙ passed_first counts names modes bounds
