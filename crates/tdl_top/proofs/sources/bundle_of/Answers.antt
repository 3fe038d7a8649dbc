use Rattle.std.proofs.Common.{sym, subst}
use Rattle.tdl_image.specs.declared.bundle.Bundle.{Bundle}
use Rattle.tdl_top.specs.Taken.{SayBundle}
use Rattle.tdl_top.proofs.InputsSay.{plain_says}
use Rattle.tdl_top.proofs.sources.bundle_of.Goals as goal

pub returns-in_ok-plain_bundle-in-Ok-clause-ok : goal.returns-in_ok-plain_bundle-in-Ok-clause-ok
returns-in_ok-plain_bundle-in-Ok-clause-ok c =
    subst (λ (b : Bundle). SayBundle c.args.trees.now b) (sym c.in_ok-plain_bundle-in-Ok.ensures)
    (plain_says c.in-Ok.form c.args.trees.now c.index-trees-0.result c.in_ok-keep_rules.ensures.ok c.if-trees-ne1.false c.index-trees-0.is
    c.in-Ok.ensures.plain)
