use Rattle.std.proofs.Common.{sym, ◌∙◌}
use Rattle.std.proofs.lemmas.Bool.{false≢true}
use Rattle.tdl_make.proofs.PlainForms.{no_form, no_plain_form, made_spellable, spellings_tell}
use Rattle.tdl_make.proofs.test_plain.is_plain_bundle.Goals as goal

pub returns-in_default : goal.returns-in_default
returns-in_default c = (
  λ t. absurd (false≢true t),
  λ plain. absurd (no_form c.args.bundle.now (sym c.in_ok-form.ensures ∙ c.in_default.is) plain),
)

pub returns-then-not-is_plain : goal.returns-then-not-is_plain
returns-then-not-is_plain c = (
  λ t. absurd (false≢true t),
  λ plain.
      absurd (no_plain_form c.args.bundle.now c.in-Some.form (sym c.in_ok-form.ensures ∙ c.in-Some.is)
      (λ lawful. false≢true (sym c.if-not-is_plain.true ∙ c.is_plain.ensures.1 lawful)) plain),
)

pub write_bundle-requires-2 : goal.write_bundle-requires-2
write_bundle-requires-2 c =
    made_spellable c.in-Some.form c.in_ok-made.made c.in_ok-made.ensures (c.is_plain.ensures.0 c.if-not-is_plain.false)

pub returns : goal.returns
returns c =
    spellings_tell c.args.bundle.now c.in_ok-made.made c.in-Some.form _ _ _
    (sym c.in_ok-form.ensures ∙ c.in-Some.is) c.in_ok-made.ensures (c.is_plain.ensures.0 c.if-not-is_plain.false)
    c.requires (c.as_slice.ensures.value ∙ c.in_ok-spelling.ensures) (c.as_slice-2.ensures.value ∙ c.in_ok-spelled.ensures)
    c.eq.ensures
