use Rattle.tdl_place.proofs.ReadLemmas.{earliest_is, no_fault, first_found}
use Rattle.tdl_place.proofs.read.read_place.Goals as goal

pub returns-in-None-clause-lawful : goal.returns-in-None-clause-lawful
returns-in-None-clause-lawful c =
    no_fault c.args.program.now c.args.bytes.now c.note_whole.new.best
    (earliest_is c.args.program.now c.args.bytes.now c.in_ok-gathered.gathered c.in_ok-placement.placement
    c.line_after.result c.note_many.new.best c.note_whole.new.best c.in_ok-gathered.ensures c.in_ok-placement.ensures
    c.line_after.ensures c.in_ok-note_many.ensures c.note_whole.ensures)
    c.in-None.is

pub returns-in-Some-clause-err : goal.returns-in-Some-clause-err
returns-in-Some-clause-err c =
    first_found c.args.program.now c.args.bytes.now c.note_whole.new.best c.in-Some.fault
    (earliest_is c.args.program.now c.args.bytes.now c.in_ok-gathered.gathered c.in_ok-placement.placement
    c.line_after.result c.note_many.new.best c.note_whole.new.best c.in_ok-gathered.ensures c.in_ok-placement.ensures
    c.line_after.ensures c.in_ok-note_many.ensures c.note_whole.ensures)
    c.in-Some.is
