use Rattle.std.proofs.Common.{◌≡◌, ℕ, List, length, get_or, refl, ap, sym, ◌∙◌, subst, arith}
use Rattle.tdl_image.specs.declared.bundle.Bundle.{Bundle}
use Rattle.tdl_image.specs.Spellable.{IsSpellable}
use Rattle.tdl_plain.specs.PlainSource.{IsPlainForm, is_reserved}
use Rattle.tdl_plain.specs.Counting.{counting_form}
use Rattle.tdl_make.specs.PlainBundle.{plain_bundle}
use Rattle.tdl_make.proofs.Spelled.{spellable}
use Rattle.tdl_make.proofs.tests.makes_the_bundle_of_a_form.Goals as goal

-- the form of P is plain
lawful : IsPlainForm counting_form
unfolding is_reserved
lawful = record {
  module_name = refl;
  sensor_name = refl;
  task_name = refl;
  input_name = refl;
  output_name = refl;
  mode_name = refl;
  sensor_is_no_task = λ e. omega (arith, ap length e);
  sensor_is_no_mode = λ e. omega (arith, ap length e);
  task_is_no_mode = λ e. omega (arith, ap length e);
  input_is_no_output = λ e. omega (arith, ap (λ (t : List ℕ). get_or t 0 0) e);
  worst_from = omega arith;
  worst_to = omega arith;
  period_from = omega arith;
  period_to = omega arith;
  initial_to = omega arith;
}

pub write_bundle-requires : goal.write_bundle-requires
write_bundle-requires g c =
    let is : c.in_ok-bundle.bundle ≡ plain_bundle counting_form =
    c.in_ok-bundle.ensures ∙ ap plain_bundle c.in_ok-form.ensures in
    subst (λ (b : Bundle). IsSpellable b) (sym is) (spellable counting_form lawful)

pub is_plain_bundle-requires : goal.is_plain_bundle-requires
is_plain_bundle-requires g c =
    let is : c.in_ok-bundle.bundle ≡ plain_bundle counting_form =
    c.in_ok-bundle.ensures ∙ ap plain_bundle c.in_ok-form.ensures in
    subst (λ (b : Bundle). IsSpellable b) (sym is) (spellable counting_form lawful)
