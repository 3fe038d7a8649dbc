use Rattle.std.proofs.Common.{rules, length, ◌≡◌, ◌++◌, ◌∷◌, [], subst, sym}
use Rattle.tdl_stack.specs.Spanning.{IsInnermost, AreInnermost}
use Rattle.tdl_stack.proofs.Innermost.{innermost-more}
use Rattle.tdl_stack.proofs.table.innermost_bodies.Goals as goal

pub loop-bodies-preserved : goal.loop-bodies-preserved
loop-bodies-preserved c =
    let pushed : c.push.new.self.items ≡ c.loop-bodies.bodies.items ++ c.innermost-body.result ∷ [] = search rules in
    record {
      each = subst (AreInnermost c.args.code.now) (sym pushed)
          (innermost-more c.args.code.now c.loop-bodies.bodies.items c.innermost-body.result
          c.loop-bodies.invariant.each
          (subst (λ bodies. IsInnermost c.args.code.now (length bodies) c.innermost-body.result)
          c.as_slice.ensures.value c.innermost-body.ensures));
      count = search rules;
    }
