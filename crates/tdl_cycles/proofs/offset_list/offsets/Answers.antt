use Rattle.std.proofs.Common.{ap, ◌∙◌}
use Rattle.std.proofs.lemmas.List.Filters.{dedup_is}
use Rattle.tdl_mode.specs.Offsets.{ascending}
use Rattle.tdl_cycles.proofs.Sorting.{is_same, numbers_of, sorted_is_ascending, numbers_of-instants}
use Rattle.tdl_cycles.proofs.offset_list.offsets.Goals as goal

pub returns : goal.returns
returns c =
    let all = c.into_vec-offsets.result.items in
    let sorted = c.sort_unstable.new.self.items in
    let left = c.dedup.new.self.items in
    ap numbers_of c.from_vec.ensures
    ∙ sorted_is_ascending all sorted left c.sort_unstable.ensures.permutation c.sort_unstable.ensures.sorted
    (dedup_is is_same sorted left c.dedup.ensures.filtered)
    ∙ ap (λ us. ascending (numbers_of us)) (c.into_vec-offsets.ensures ∙ c.in_ok-all.ensures)
    ∙ ap ascending (numbers_of-instants c.args.mode.now)
