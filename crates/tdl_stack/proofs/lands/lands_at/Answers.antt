use Rattle.std.proofs.Common.{sym, ◌∙◌, subst}
use Rattle.std.proofs.lemmas.Option.{same_Some}
use Rattle.tdl_stack.specs.Spanning.{Lands}
use Rattle.tdl_stack.proofs.Landing.{spans-at, at-spans}
use Rattle.tdl_stack.proofs.lands.lands_at.Goals as goal

pub lands-requires-clause-within : goal.lands-requires-clause-within
lands-requires-clause-within c =
    c.requires.within c.args.place c.in-Some.n
    (spans-at c.args.code.now c.args.place c.in-Some.n _ c.requires.place (sym c.span.ensures ∙ c.in-Some.is))

pub returns : goal.returns
returns c = (
  λ t n s. subst (Lands c.args.code.now c.args.place)
      (same_Some c.in-Some.n n
      (sym c.in-Some.is ∙ c.span.ensures ∙ at-spans c.args.code.now c.args.place n _ c.requires.place s))
      (c.lands.ensures.0 t),
  λ at. c.lands.ensures.1 (at c.in-Some.n
      (spans-at c.args.code.now c.args.place c.in-Some.n _ c.requires.place (sym c.span.ensures ∙ c.in-Some.is))),
)
