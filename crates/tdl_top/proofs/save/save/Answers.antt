use Rattle.std.specs.Prelude.{codes}
use Rattle.std.proofs.Common.{List, ℕ, ap, subst, ◌∙◌}
use Rattle.tdl_report.specs.Calls.{sink_call}
use Rattle.tdl_report.specs.Statuses.{named_line}
use Rattle.tdl_report.specs.Reports.{IsSaid}
use Rattle.tdl_top.proofs.save.save.Goals as goal

pub returns-in-Err-Failed-clause-told : goal.returns-in-Err-Failed-clause-told
returns-in-Err-Failed-clause-told g c =
    subst (λ (line : List ℕ). IsSaid (sink_call g.E.Sink.told c.args.err.now c.say.new.err) line)
    (c.deref.ensures.value ∙ c.in_ok-line.ensures
    ∙ ap (λ (name : List ℕ). named_line (codes "tdl: cannot save ") name) c.word.ensures)
    c.say.ensures
