-- One declaration more, and all of them.
use Rattle.std.proofs.Common.{◌≡◌, sym, ap, ◌∙◌, subst, arith}
use Rattle.tdl_resolve.specs.declared.numbers.Counts.{Counts}
use Rattle.tdl_resolve.specs.Counting.{and_one, IsSmall}
use Rattle.tdl_resolve.proofs.Counted.{small_at, counts_next, many_more, noted_next, each_counted}
use Rattle.tdl_resolve.proofs.numbers.row_of.Goals as goal

pub and-all-requires : goal.and-all-requires
and-all-requires c =
    subst IsSmall (sym c.loop-decl.invariant.counted) (small_at c.args.decls.now c.loop-decl.decl-index c.requires)

pub loop-decl-preserved : goal.loop-decl-preserved
loop-decl-preserved c = record {
  counted = c.and-all.ensures ∙ ap (λ (all : Counts). and_one all c.decl-item.result) c.loop-decl.invariant.counted
      ∙ sym (counts_next c.args.decls.now c.loop-decl.decl-index c.decl-item.result c.loop-decl-test.true c.decl-item.is);
  many = many_more c.loop-decl.before c.push.new.self c.loop-decl.all c.loop-decl.decl-index c.in_ok-push.ensures.ok
      c.loop-decl.invariant.many;
  noted = noted_next c.args.decls.now c.loop-decl.before c.push.new.self c.loop-decl.all c.loop-decl.decl-index
      c.in_ok-push.ensures.ok c.loop-decl.invariant.many c.loop-decl.invariant.counted c.loop-decl.invariant.noted;
}

pub invariant_of-result : goal.invariant_of-result
invariant_of-result c =
    each_counted c.args.decls.now c.loop-decl.before c.loop-decl.all c.loop-decl.decl-index
    (omega (arith, c.loop-decl-test.false)) c.loop-decl.invariant.many c.loop-decl.invariant.noted c.loop-decl.invariant.counted
