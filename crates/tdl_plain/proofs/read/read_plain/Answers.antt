use Rattle.std.proofs.Common.{◌≡◌, true, ◌∙◌, sym, subst}
use Rattle.tdl_plain.specs.PlainSource.{IsPlainForm}
use Rattle.tdl_plain.specs.PlainTree.{says_form}
use Rattle.tdl_plain.specs.declared.form.Form.{Form}
use Rattle.tdl_plain.proofs.Unique.{found_form}
use Rattle.tdl_plain.proofs.read.read_plain.Goals as goal

pub returns-then-not-is_plain-clause-refused : goal.returns-then-not-is_plain-clause-refused
returns-then-not-is_plain-clause-refused c = λ e form x.
    let same = c.in_ok-form.ensures ∙ found_form form c.args.tree.now x.says in
    let passed = c.is_plain.ensures.1 (subst (λ (f : Form). IsPlainForm f) (sym same) x.lawful) in
    cc (passed, c.if-not-is_plain.true)

pub returns-then-not-says_form-clause-refused : goal.returns-then-not-says_form-clause-refused
returns-then-not-says_form-clause-refused c = λ e form x.
    let same = c.in_ok-form.ensures ∙ found_form form c.args.tree.now x.says in
    let passed = subst (λ (f : Form). says_form f c.args.tree.now ≡ true) (sym same) x.says in
    cc (passed, c.says_form.ensures, c.if-not-says_form.true)

pub returns-clause-only : goal.returns-clause-only
returns-clause-only c = λ form x. c.in_ok-form.ensures ∙ found_form form c.args.tree.now x.says
