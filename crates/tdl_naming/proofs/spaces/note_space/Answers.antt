use Rattle.std.proofs.Common.{◌∙◌, sym, ap, arith}
use Rattle.tdl_rules.specs.Earliest.{earliest}
use Rattle.tdl_naming.proofs.LaterNames.{one_place, no_place, space_faults-from, as_many, held_at}
use Rattle.tdl_naming.proofs.spaces.note_space.Goals as goal

pub loop-place-preserved : goal.loop-place-preserved
loop-place-preserved c =
    let names = c.args.names.now in
    let ids = c.ids-ids.result.now in
    one_place c.args.scope.now.file names c.loop-place.place c.index-ids-place.result.now c.loop-place.best
    c.note_later.new.best
    (held_at ids names c.loop-place.place c.index-ids-place.result c.ids-ids.ensures c.loop-place-test.true
    c.index-ids-place.is)
    c.note_later.ensures
    ∙ c.loop-place.invariant

pub returns : goal.returns
returns c =
    let file = c.args.scope.now.file in
    let names = c.args.names.now in
    sym (no_place file names c.loop-place.place c.loop-place.best
    (omega (arith, c.loop-place-test.false, as_many c.ids-ids.result.now names c.ids-ids.ensures)))
    ∙ c.loop-place.invariant ∙ ap (earliest c.args.best.now) (sym (space_faults-from file names))
