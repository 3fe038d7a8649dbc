use Rattle.std.proofs.Common.{◌∙◌, sym, ap, slice_get}
use Rattle.tdl_tree.specs.declared.declarations.Tree.{Tree}
use Rattle.tdl_walk.proofs.Minimum.{each_next, each_all}
use Rattle.tdl_walk.proofs.Modules.{over}
use Rattle.tdl_walk.proofs.declarations.AtDeclarationsOnModule.at.Goals as goal

pub loop-number-preserved : goal.loop-number-preserved
loop-number-preserved g c =
    let here = c.in-Some.ensures ∙ ap (λ (tree : Tree). slice_get tree.decls c.loop-number.number) c.module-in-loop-number.ensures in
    each_next (g.R.OnDeclaration.gives c.args.self.now.rule.now c.args.scope.now) c.args.best.now c.loop-number.best c.at.new.best
    c.args.scope.now.tree.decls c.loop-number.number c.in-Some.entry (sym here) c.loop-number.invariant c.at.ensures

pub returns-in_default : goal.returns-in_default
returns-in_default g c =
    let here = c.in_default.ensures ∙ ap (λ (tree : Tree). slice_get tree.decls c.loop-number.number) c.module-in-loop-number.ensures in
    each_all (g.R.OnDeclaration.gives c.args.self.now.rule.now c.args.scope.now) c.args.best.now c.loop-number.best
    c.args.scope.now.tree.decls c.loop-number.number (over c.args.scope.now.tree.decls c.loop-number.number here)
    c.loop-number.invariant
