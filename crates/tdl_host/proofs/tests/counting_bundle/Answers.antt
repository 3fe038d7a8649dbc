use Rattle.std.proofs.Common.{◌≡◌, ◌<◌, subst, sym, arith}
use Rattle.std.proofs.lemmas.Result.{IfOk-weaker}
use Rattle.tdl_image.specs.declared.bundle.Bundle.{Bundle}
use Rattle.tdl_plain.specs.declared.form.Form.{Form}
use Rattle.tdl_make.specs.PlainBundle.{plain_bundle}
use Rattle.tdl_host.specs.CheckedCodes.{HasCheckedModules}
use Rattle.tdl_host.proofs.PlainCodes.{plain_codes}
use Rattle.tdl_host.proofs.tests.counting_bundle.Goals as goal

pub returns-clause-codes : goal.returns-clause-codes
returns-clause-codes c =
    let some : 0 < 200 = omega arith in
    IfOk-weaker c.plain_bundle.result (λ (b : Bundle). b ≡ plain_bundle c.in_ok-form.form) HasCheckedModules
    (λ b is. subst HasCheckedModules (sym is)
    (plain_codes c.in_ok-form.form (subst (λ (f : Form). 0 < f.worst) (sym c.in_ok-form.ensures) some)))
    c.plain_bundle.ensures
