use Rattle.std.proofs.Common.{sym, ◌∙◌, ap, ◌&&◌}
use Rattle.tdl_mode.specs.declared.program.Task.{Task}
use Rattle.tdl_place.specs.PlacementRules.{invokes}
use Rattle.tdl_place.proofs.RemoteLemmas.{invokes-remote}
use Rattle.tdl_place.proofs.remote.invokes_remote.Goals as goal

pub returns-else-is_imported_afar : goal.returns-else-is_imported_afar
returns-else-is_imported_afar c =
    let e =
    invokes-remote c.args.program.now c.args.placement.now c.args.number c.args.owner.now c.is_imported_afar.result
    c.is_imported_afar.ensures in
    let off = c.if-is_imported_afar.false in
    off ∙ sym (ap (λ b. b && invokes (λ (t : Task). t.public) c.args.owner.now) off) ∙ sym e
