use Rattle.std.proofs.Common.{ap, ◌∙◌, ◌++◌, ◌∷◌, [], List, rules}
use Rattle.std.proofs.lemmas.Fn.{filter_same}
use Rattle.tdl_scen.specs.declared.entries.Sense.{Sense}
use Rattle.tdl_scen.specs.Senses.{is_other}
use Rattle.tdl_scen.proofs.senses.put.Goals as goal

pub returns : goal.returns
returns c =
    c.in_ok-push.ensures.items
    ∙ ap (λ (xs : List Sense). xs ++ c.args.entry ∷ [])
    (filter_same _ (is_other c.args.entry) _ (λ x b f k. search rules) _ _ c.retain.ensures.filtered)
