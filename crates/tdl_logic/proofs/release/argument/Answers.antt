use Rattle.std.proofs.Common.{rules, ◌≡◌, FitsSigned, w64, slice_get, Some, ap₂, sym, ◌∙◌}
use Rattle.std.proofs.lemmas.Int.{to_z-of_z}
use Rattle.tdl_base.specs.Numbers.{narrowed}
use Rattle.tdl_mode.specs.States.{kinds_of}
use Rattle.tdl_logic.specs.Looks.{shown}
use Rattle.tdl_logic.proofs.Arguments.{args-at}
use Rattle.tdl_logic.proofs.Placing.{there}
use Rattle.tdl_logic.proofs.release.argument.Goals as goal

pub returns : goal.returns
returns c =
    let fits : FitsSigned w64 c.narrow.result = search rules in
    let fits' : FitsSigned w64 c.value.result = search rules in
    let look = shown c.args.seen.now in
    let at : slice_get c.args.args.now c.args.at ≡ Some c.index-args-at.result =
    there c.args.args.now c.args.at c.index-args-at.result c.requires c.index-args-at.is in
    to_z-of_z w64 c.narrow.result fits
    ∙ c.narrow.ensures
    ∙ ap₂ (λ k v. narrowed k v) c.kind_at.ensures (to_z-of_z w64 c.value.result fits' ∙ c.value.ensures)
    ∙ sym (args-at (kinds_of c.args.ports.now) c.args.args.now look c.args.at c.index-args-at.result at)
