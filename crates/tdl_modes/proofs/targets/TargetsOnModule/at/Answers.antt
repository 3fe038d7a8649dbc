-- One more declaration, and the end of them.
use Rattle.std.proofs.Common.{◌∙◌, ap, slice_get, length, arith}
use Rattle.tdl_tree.specs.declared.declarations.Decl.{Decl}
use Rattle.tdl_tree.specs.declared.declarations.Tree.{Tree}
use Rattle.tdl_rules.specs.Earliest.{earliest}
use Rattle.tdl_rules.specs.ModeRules.{c16_mode}
use Rattle.tdl_walk.proofs.Minimum.{each_next, each_all}
use Rattle.tdl_modes.proofs.NumberedDeclarations.{by_number, there, past_all, none_there}
use Rattle.tdl_modes.proofs.targets.TargetsOnModule.at.Goals as goal

pub loop-number-preserved : goal.loop-number-preserved
loop-number-preserved c =
    let here = c.in-Some.ensures ∙ ap (λ (tree : Tree). slice_get tree.decls c.loop-number.number) c.module-in-loop-number.ensures in
    each_next (c16_mode c.args.scope.now) c.args.best.now c.loop-number.best c.of_declaration.new.best
    (by_number 0 c.args.scope.now.tree.decls) c.loop-number.number (c.loop-number.number, c.in-Some.entry)
    (there c.args.scope.now.tree.decls c.loop-number.number c.in-Some.entry here) c.loop-number.invariant
    (c.of_declaration.ensures
    ∙ ap (λ (d : Decl). earliest c.loop-number.best (c16_mode c.args.scope.now (c.loop-number.number, d))) c.decl.ensures)

pub returns : goal.returns
returns c =
    let decls = c.args.scope.now.tree.decls in
    let count = c.len-number-end.ensures ∙ ap (λ (tree : Tree). length tree.decls) (c.tree.ensures ∙ c.module.ensures) in
    each_all (c16_mode c.args.scope.now) c.args.best.now c.loop-number.best (by_number 0 decls) c.loop-number.number
    (past_all decls c.loop-number.number (omega (arith, count, c.loop-number-test.false))) c.loop-number.invariant

pub returns-in_default : goal.returns-in_default
returns-in_default c =
    let here = c.in_default.ensures ∙ ap (λ (tree : Tree). slice_get tree.decls c.loop-number.number) c.module-in-loop-number.ensures in
    each_all (c16_mode c.args.scope.now) c.args.best.now c.loop-number.best (by_number 0 c.args.scope.now.tree.decls)
    c.loop-number.number (none_there c.args.scope.now.tree.decls c.loop-number.number here) c.loop-number.invariant
