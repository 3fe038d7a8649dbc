use Rattle.std.proofs.Common.{◌≡◌, List, ℕ, subst}
use Rattle.tdl_image.specs.declared.bundle.Bundle.{Bundle}
use Rattle.tdl_image.specs.Spelling.{bundle_bytes}
use Rattle.tdl_make.specs.PlainBundle.{IsPlainBundle}
use Rattle.tdl_top.proofs.InputsSay.{no_plain_bundle}
use Rattle.tdl_top.proofs.inputs.read_bundle.Goals as goal

pub returns-then-not-branch-clause-refused : goal.returns-then-not-branch-clause-refused
returns-then-not-branch-clause-refused g c = λ call is.
    no_plain_bundle _ _ call c.in_ok-bytes.bytes.items c.in_ok-bundle.bundle is c.in_ok-bytes.ensures.ok
    c.in_ok-bundle.ensures.spellable
    (subst (λ (bytes : List ℕ). bytes ≡ bundle_bytes c.in_ok-bundle.bundle) c.deref.ensures.value
    c.in_ok-bundle.ensures.ok)
    (λ plain. cc (c.in_ok-is_plain_bundle.ensures.1 plain, c.if-not-branch.true))
