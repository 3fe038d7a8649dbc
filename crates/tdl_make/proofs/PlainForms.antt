-- The form in the bundle of a plain program is its form, but for the input's name, which no bundle has.
use Rattle.std.proofs.Common.{◌≡◌, ◌≢◌, ℕ, ◌/◌, ◌*◌, Bool, true, false, List, get_or, refl, sym, ap, ◌∙◌, subst, arith, bytes_eq, codes, if◌then◌else◌, IsTrue}
use Rattle.std.specs.Prelude.{Some, None}
use Rattle.std.proofs.lemmas.Bool.{false≢true}
use Rattle.std.proofs.lemmas.Slice.Eq.{bytes_eq-Decides}
use Rattle.tdl_image.specs.declared.bundle.Bundle.{Bundle}
use Rattle.tdl_image.specs.Spelling.{bundle_bytes}
use Rattle.tdl_image.specs.Spellable.{IsSpellable}
use Rattle.tdl_image.proofs.OneSpelling.{one_spelling}
use Rattle.tdl_plain.specs.declared.form.Form.{Form}
use Rattle.tdl_plain.specs.PlainSource.{is_name, is_reserved, IsPlainForm}
use Rattle.tdl_make.specs.PlainBundle.{plain_bundle, IsPlainBundle}
use Rattle.tdl_make.specs.FormIn.{input_beside, form_in, host_form, cycle_in}
use Rattle.tdl_make.proofs.Spelled.{spellable}

-- the form with another name for the input
abbrev beside : Form → Form
beside f = record f { input = input_beside f.output }

-- is the one in the bundle
form_again : (f : Form) → form_in (plain_bundle f) ≡ Some (beside f)
unfolding form_in host_form cycle_in
form_again f = let whole : f.period * 1000 / 1000 ≡ f.period = omega arith in
    λ i. Some (record f { input = input_beside f.output; period = whole i })

-- the input's name is a name
named : (b : Bool) → is_name (if b then codes "b" else codes "a") ≡ true
unfolding is_reserved
named true = refl
named false = refl

-- and not the output's
apart : (b : Bool) (output : List ℕ) → bytes_eq output (codes "a") ≡ b → (if b then codes "b" else codes "a") ≢ output
apart true output e =
    λ same. absurd (omega (arith, ap (λ (t : List ℕ). get_or t 0 0) (same ∙ (bytes_eq-Decides output (codes "a")).0 e)))
apart false output e = λ same. absurd (false≢true (sym e ∙ (bytes_eq-Decides output (codes "a")).1 (sym same)))

-- so the form in the bundle is plain
beside_lawful : (f : Form) → IsPlainForm f → IsPlainForm (beside f)
beside_lawful f lawful = record {
  module_name = lawful.module_name;
  sensor_name = lawful.sensor_name;
  task_name = lawful.task_name;
  input_name = named (bytes_eq f.output (codes "a"));
  output_name = lawful.output_name;
  mode_name = lawful.mode_name;
  sensor_is_no_task = lawful.sensor_is_no_task;
  sensor_is_no_mode = lawful.sensor_is_no_mode;
  task_is_no_mode = lawful.task_is_no_mode;
  input_is_no_output = apart (bytes_eq f.output (codes "a")) f.output refl;
  worst_from = lawful.worst_from;
  worst_to = lawful.worst_to;
  initial_to = lawful.initial_to;
  period_from = lawful.period_from;
  period_to = lawful.period_to;
}

-- the form in a plain bundle
found : (b : Bundle) (plain : IsPlainBundle b) → form_in b ≡ Some (beside plain.form)
found b plain = ap form_in plain.is ∙ form_again plain.form

-- where there is no form, the bundle is no plain one
pub no_form : (b : Bundle) → form_in b ≡ None → IsPlainBundle b → ⊥
no_form b none plain = absurd (cc (found b plain))

-- nor where the form is not plain
pub no_plain_form : (b : Bundle) (form : Form) → form_in b ≡ Some form → ¬ IsPlainForm form → IsPlainBundle b → ⊥
no_plain_form b form some refused plain =
    let same : beside plain.form ≡ form = cc (found b plain) in
    refused (subst IsPlainForm same (beside_lawful plain.form plain.lawful))

-- a bundle with the spelling of the one that is made is plain
pub spelled_plain : (b made : Bundle) (form : Form) → made ≡ plain_bundle form → IsPlainForm form → IsSpellable b →
    bundle_bytes b ≡ bundle_bytes made → IsPlainBundle b
spelled_plain b made form built lawful can same = record {
  form = form;
  lawful = lawful;
  is = one_spelling b made can (subst IsSpellable (sym built) (spellable form lawful)) same ∙ built;
}

-- and a plain bundle has that spelling
pub plain_spelled : (b made : Bundle) (form : Form) → form_in b ≡ Some form → made ≡ plain_bundle form → IsPlainBundle b →
    bundle_bytes b ≡ bundle_bytes made
plain_spelled b made form some built plain =
    let same : beside plain.form ≡ form = cc (found b plain) in
    ap bundle_bytes (plain.is ∙ ap plain_bundle same ∙ sym built)

-- the bundle of a plain form can be spelled
pub made_spellable : (form : Form) (made : Bundle) → made ≡ plain_bundle form → IsPlainForm form → IsSpellable made
made_spellable form made built lawful = subst IsSpellable (sym built) (spellable form lawful)

-- the test of the two spellings
pub spellings_tell : (b made : Bundle) (form : Form) (first second : List ℕ) (same : Bool) → form_in b ≡ Some form →
    made ≡ plain_bundle form → IsPlainForm form → IsSpellable b → first ≡ bundle_bytes b → second ≡ bundle_bytes made →
    same ≡ bytes_eq first second → (IsTrue same → IsPlainBundle b) × (IsPlainBundle b → IsTrue same)
spellings_tell b made form first second same some built lawful can one other test = (
  λ true. spelled_plain b made form built lawful can
      (sym one ∙ (bytes_eq-Decides first second).0 (sym test ∙ true) ∙ other),
  λ plain. test ∙ (bytes_eq-Decides first second).1 (one ∙ plain_spelled b made form some built plain ∙ sym other),
)
