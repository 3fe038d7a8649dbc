use Rattle.std.proofs.Common.{◌∙◌, sym}
use Rattle.tdl_plain.proofs.Checked.{lawful_from, lawful_passes}
use Rattle.tdl_plain.proofs.form.Form.is_plain.Goals as goal

pub returns : goal.returns
returns c = (
  λ passed. lawful_from c.args.self.now (sym c.is_lawful.ensures ∙ passed),
  λ lawful. c.is_lawful.ensures
      ∙ lawful_passes c.args.self.now lawful,
)
