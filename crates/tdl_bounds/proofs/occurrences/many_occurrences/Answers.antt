-- By what the count has come to.
use Rattle.std.proofs.Common.{ap, sym, ◌∙◌}
use Rattle.tdl_rules.specs.Earliest.{earliest}
use Rattle.tdl_rules.specs.Lists.{each}
use Rattle.tdl_rules.specs.Parts.{modules}
use Rattle.tdl_bounds.specs.Occurrences.{of_module}
use Rattle.tdl_bounds.proofs.Counting.{not_passed, has_passed}
use Rattle.tdl_bounds.proofs.occurrences.many_occurrences.Goals as goal

pub returns-in-Left : goal.returns-in-Left
unfolding earliest
returns-in-Left c =
    ap (earliest c.args.best.now)
    (sym (not_passed c.in-Left.field-0 c.counted_in.result (each of_module (modules c.args.sources.now))
    c.counted_in.ensures c.in-Left.is))

pub returns-in-Passed : goal.returns-in-Passed
returns-in-Passed c =
    c.note.ensures
    ∙ ap (earliest c.args.best.now)
    (sym (has_passed c.in-Passed.fault c.counted_in.result (each of_module (modules c.args.sources.now))
    c.counted_in.ensures c.in-Passed.is))
