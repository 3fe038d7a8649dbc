use Rattle.std.proofs.Common.{◌&&◌, is_none}
use Rattle.tdl_lines.specs.Faults.{fault_if}
use Rattle.tdl_place.specs.PlacementRules.{has_unplaced, has_remote}
use Rattle.tdl_place.proofs.Noting.{in_turn, told}
use Rattle.tdl_place.proofs.faults.note_whole.Goals as goal

pub returns : goal.returns
returns c =
    let program = c.args.program.now in
    let placement = c.args.placement.now in
    let line = c.args.after_all in
    in_turn c.args.best.now c.note_if.new.best c.note_if-2.new.best (fault_if (has_unplaced program placement) line 4)
    (fault_if (is_none placement.bus && has_remote program placement) line 6)
    (told c.args.best.now c.note_if.new.best c.has_unplaced.result (has_unplaced program placement) line 4
    c.has_unplaced.ensures c.note_if.ensures)
    (told c.note_if.new.best c.note_if-2.new.best c.lacks_bus.result _ line 6 c.lacks_bus.ensures c.note_if-2.ensures)
