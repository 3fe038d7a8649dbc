-- One source more.
use Rattle.std.proofs.Common.{◌≡◌, ◌<◌, length, sym, ap, ◌∙◌, subst, arith}
use Rattle.tdl_tree.specs.declared.declarations.Tree.{Tree}
use Rattle.tdl_resolve.specs.Counting.{AreFew}
use Rattle.tdl_resolve.proofs.Kept.{source_at, module_there, few_declarations, rows_more}
use Rattle.tdl_resolve.proofs.numbers.numbers_of.Goals as goal

pub row_of-requires : goal.row_of-requires
row_of-requires c =
    subst AreFew (sym (c.as_slice.ensures ∙ ap (λ (t : Tree). t.decls) (c.tree.ensures ∙ c.module.ensures)))
    (few_declarations c.args.sources.now c.loop-file.file c.in-Some.scope.tree c.requires.kept
    (source_at c.args.sources.now c.loop-file.file c.in-Some.scope (sym c.in-Some.ensures)))

pub loop-file-preserved : goal.loop-file-preserved
loop-file-preserved c =
    let decls = c.in_ok-row_of.ensures ∙ c.as_slice.ensures ∙ ap (λ (t : Tree). t.decls) (c.tree.ensures ∙ c.module.ensures) in
    rows_more c.args.sources.now c.loop-file.file c.in-Some.scope.tree c.loop-file.rows c.push.new.self c.in_ok-row_of.field-0
    (source_at c.args.sources.now c.loop-file.file c.in-Some.scope (sym c.in-Some.ensures)) decls c.loop-file.invariant
    c.in_ok-push.ensures.ok

pub unreachable-requires : goal.unreachable-requires
unreachable-requires c =
    let within : c.loop-file.file < length c.args.sources.now = omega (arith, c.loop-file-test.true, c.len-file-end.ensures) in
    module_there c.args.sources.now c.loop-file.file within (sym c.in_default.ensures)
