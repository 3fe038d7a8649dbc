use Rattle.std.proofs.Common.{◌∙◌}
use Rattle.tdl_names.proofs.FirstPlaces.{placed}
use Rattle.tdl_names.proofs.table.Table.with.Goals as goal

pub invariant_of-result : goal.invariant_of-result
invariant_of-result c = λ q.
    placed q c.self.inside.ids.items c.push.new.self.items c.args.id c.as_str.result.now _ _ c.len.result
    c.in_ok-push.ensures.items c.as_str.ensures (c.in_ok-keep_first.ensures q) (c.self.invariant q)
    (c.len.ensures ∙ c.self.inside.ids.ok.0)
