use Rattle.std.proofs.Common.{◌≡◌, Option, List, ◌++◌, ◌∷◌, [], All, Some, subst, sym}
use Rattle.std.specs.Prelude.{IfSome}
use Rattle.std.proofs.lemmas.List.Elements.{All-same, All-push}
use Rattle.tdl_tree.specs.declared.declarations.Tree.{Tree}
use Rattle.tdl_size.specs.Sized.{IsSized}
use Rattle.tdl_cases.proofs.verdict.verdicts.Goals as goal

pub loop-text-preserved : goal.loop-text-preserved
loop-text-preserved c =
    let sized = subst (λ (o : Option Tree). IfSome o IsSized) c.in-Some-2.is c.in_ok-tree.ensures in
    All-same IsSized c.push.new.self (c.loop-text.trees ++ c.in-Some-2.tree ∷ []) c.in_ok-push.ensures.ok
    (All-push IsSized c.loop-text.trees c.in-Some-2.tree c.loop-text.invariant sized)
