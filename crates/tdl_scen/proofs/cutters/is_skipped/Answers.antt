use Rattle.std.proofs.Common.{arith, sym, ◌∙◌}
use Rattle.tdl_scen.proofs.CutLemmas.{from_first}
use Rattle.tdl_scen.proofs.cutters.is_skipped.Goals as goal

pub returns-then-not-is_blank : goal.returns-then-not-is_blank
returns-then-not-is_blank c =
    from_first c.args.line.now c.loop-b.b-index (omega arith) (sym c.is_blank.ensures
    ∙ c.if-not-is_blank.true) c.loop-b.invariant
