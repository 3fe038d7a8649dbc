use Rattle.std.proofs.Common.{arith, get_or, drop, drop-cons, List, ℕ, ◌∷◌, ◌+◌, sym, ap, ◌∙◌, add-one}
use Rattle.tdl_lines.specs.declared.said.Said.{Said}
use Rattle.tdl_sched.specs.declared.entry.Entry.{Entry}
use Rattle.tdl_sched.specs.declared.entry.Entry.TheVariants.{Formless}
use Rattle.tdl_sched.proofs.Noting.{one_more, all_over, forms_few}
use Rattle.tdl_sched.proofs.rules.first_fault.Goals as goal

pub loop-said-preserved : goal.loop-said-preserved
loop-said-preserved c =
    let lines : List (Said Entry) = c.args.lines.now in
    let i : ℕ = c.loop-said.said-index in
    let d : Said Entry = record { line = 0; what = Formless } in
    let x : Said Entry = get_or lines i d in (
      one_more _ c.loop-said.best c.note_line.new.best c.loop-said.before c.forms_in-before.result x (drop i lines)
          (drop (i + 1) lines)
          (drop-cons lines i d c.loop-said-test.true ∙ ap (λ (n : ℕ). x ∷ drop n lines) (sym (add-one i)))
          c.loop-said.invariant.0 c.note_line.ensures c.forms_in-before.ensures,
      omega (arith, c.forms_in-before.ensures, forms_few x.what, c.loop-said.invariant.1),
    )

pub returns : goal.returns
returns c =
    all_over _ c.loop-said.best c.loop-said.before c.loop-said.said-index c.args.lines.now
    (omega (arith, c.loop-said-test.false)) c.loop-said.invariant.0
