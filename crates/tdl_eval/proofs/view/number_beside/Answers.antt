use Rattle.std.proofs.Common.{rules, ap, sym, ◌∙◌, w64, FitsSigned}
use Rattle.std.proofs.lemmas.Int.{to_z-of_z}
use Rattle.tdl_eval.proofs.Beside.{at_place, number_beside-at}
use Rattle.tdl_eval.proofs.view.number_beside.Goals as goal

pub returns-in-None : goal.returns-in-None
returns-in-None c =
    sym (number_beside-at c.args.key.now c.args.keys.now c.args.ports.now
    ∙ ap (λ place. at_place place c.args.ports.now) (sym c.place_of.ensures ∙ c.in-None.is))

pub returns-in-Some : goal.returns-in-Some
returns-in-Some c =
    let fits : FitsSigned w64 c.number_at.result = search rules in
    to_z-of_z w64 c.number_at.result fits ∙ c.number_at.ensures
    ∙ sym (number_beside-at c.args.key.now c.args.keys.now c.args.ports.now
    ∙ ap (λ place. at_place place c.args.ports.now) (sym c.place_of.ensures ∙ c.in-Some.is))
