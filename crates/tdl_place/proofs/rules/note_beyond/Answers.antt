use Rattle.std.proofs.Common.{true, sym, ap, ◌∙◌, arith}
use Rattle.tdl_lines.specs.Faults.{earliest, fault_if}
use Rattle.tdl_place.proofs.Beyond.{one_more, all_over}
use Rattle.tdl_place.proofs.rules.note_beyond.Goals as goal

pub loop-place-preserved : goal.loop-place-preserved
loop-place-preserved g c =
    one_more c.args.rule c.args.most c.args.said.now c.loop-place.place c.args.best.now c.loop-place.best
    c.note_if.new.best c.index-said-place.result c.loop-place-test.true c.index-said-place.is
    (c.note_if.ensures
    ∙ ap (λ y. earliest c.loop-place.best (fault_if true y.line c.args.rule)) (sym c.index-said-place.is))
    c.loop-place.invariant

pub returns : goal.returns
returns g c =
    all_over c.args.rule c.args.most c.args.said.now c.loop-place.place c.args.best.now c.loop-place.best
    (omega (arith, c.loop-place-test.false)) c.loop-place.invariant
