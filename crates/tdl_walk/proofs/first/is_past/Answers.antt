use Rattle.std.proofs.Common.{◌∙◌, not, sym, ap, Option}
use Rattle.tdl_rules.specs.declared.fault.Fault.{Fault}
use Rattle.tdl_walk.specs.Past.{is_past}
use Rattle.tdl_walk.proofs.Late.{past_all}
use Rattle.tdl_walk.proofs.first.is_past.Goals as goal

pub returns-in-Some-clause-idle : goal.returns-in-Some-clause-idle
returns-in-Some-clause-idle c = λ h later all.
    past_all c.args.best.now c.args.fault later
    (ap (λ (z : Option Fault). is_past z c.args.fault) c.in-Some.is ∙ ap not (sym c.is_before.ensures) ∙ h) all
