use Rattle.std.proofs.Common.{◌<◌, inl, inr, sym, ◌∙◌, arith}
use Rattle.tdl_window.proofs.Residues.{empty-meets, second-begins, first-begins}
use Rattle.tdl_window.proofs.modulo.meet.Goals as goal

pub returns-then-first-eq0 : goal.returns-then-first-eq0
returns-then-first-eq0 c = sym (empty-meets c.args.d c.args.first.now c.args.second.now (inl c.if-first-eq0.true))

pub returns-then-second-eq0 : goal.returns-then-second-eq0
returns-then-second-eq0 c = sym (empty-meets c.args.d c.args.first.now c.args.second.now (inr c.if-second-eq0.true))

pub returns-then-has_congruent : goal.returns-then-has_congruent
returns-then-has_congruent c =
    let some : 0 < c.args.second.now.length = omega arith in
    c.if-has_congruent.true
    ∙ sym (second-begins c.args.d c.args.first.now c.args.second.now some
    (sym c.has_congruent.ensures ∙ c.if-has_congruent.true))

pub returns-else-has_congruent : goal.returns-else-has_congruent
returns-else-has_congruent c =
    let some : 0 < c.args.first.now.length = omega arith in
    first-begins c.args.d c.args.first.now c.args.second.now c.has_congruent-else-has_congruent.result some
    (sym c.has_congruent.ensures ∙ c.if-has_congruent.false) c.has_congruent-else-has_congruent.ensures
