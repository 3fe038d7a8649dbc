use Rattle.std.proofs.Common.{rules, FitsSigned, w64, pos, get_or, length, ◌-◌, ◌∙◌, sym, ap}
use Rattle.std.proofs.lemmas.Int.{to_z-of_z}
use Rattle.tdl_base.specs.declared.kinds.Kind.TheVariants.{Boolean}
use Rattle.tdl_base.specs.Numbers.{narrowed}
use Rattle.tdl_task.proofs.Released.{released-input, released-output, released-local}
use Rattle.tdl_task.proofs.held.released_at.Goals as goal

pub returns-then-at-inputs : goal.returns-then-at-inputs
returns-then-at-inputs c =
    let v = get_or c.args.inputs.now c.args.at (pos 0) in
    let fits : FitsSigned w64 c.narrow.result = search rules in
    let fits' : FitsSigned w64 v = search rules in
    to_z-of_z w64 c.narrow.result fits
    ∙ c.narrow.ensures
    ∙ ap (narrowed (get_or c.args.kinds.now c.args.at Boolean)) (to_z-of_z w64 v fits')
    ∙ sym (released-input c.args.kinds.now c.args.inputs.now c.args.outputs.now c.requires.room c.args.at Boolean
    c.if-at-inputs.true)

pub returns-then-at-inputs-2 : goal.returns-then-at-inputs-2
returns-then-at-inputs-2 c =
    let v = get_or c.args.outputs.now (c.args.at - length c.args.inputs.now) (pos 0) in
    let fits : FitsSigned w64 v = search rules in
    to_z-of_z w64 v fits
    ∙ sym (released-output c.args.kinds.now c.args.inputs.now c.args.outputs.now c.requires.room c.args.at
    c.if-at-inputs.false c.if-at-inputs-2.true)

pub returns-else-at-inputs-2 : goal.returns-else-at-inputs-2
returns-else-at-inputs-2 c =
    sym (released-local c.args.kinds.now c.args.inputs.now c.args.outputs.now c.requires.room c.args.at
    c.if-at-inputs.false c.if-at-inputs-2.false c.requires.here)
