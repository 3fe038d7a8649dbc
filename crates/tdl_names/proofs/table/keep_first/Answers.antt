use Rattle.std.proofs.Common.{rules, ◌∙◌, bytes_eq, List, ℕ, Bor}
use Rattle.indexmap.specs.IndexMap.{get_by}
use Rattle.std.proofs.lemmas.Map.Text.{hash_map_updates_str}
use Rattle.tdl_names.proofs.FirstPlaces.{kept}
use Rattle.tdl_names.proofs.table.keep_first.Goals as goal

pub returns-in_ok-insert : goal.returns-in_ok-insert
returns-in_ok-insert c = λ q.
    hash_map_updates_str c.args.name.now c.args.first.now c.insert.new.self _ c.in_ok-insert.ensures.updates q
    ∙ kept (λ (ds : List ℕ). get_by (λ (k : Bor (List ℕ)). bytes_eq ds k.now) c.args.first.now) c.args.name.now q
    c.args.place (search rules)
