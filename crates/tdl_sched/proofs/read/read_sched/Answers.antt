use Rattle.std.proofs.Common.{rules}
use Rattle.tdl_sched.proofs.ReadLemmas.{no_fault, first_found}
use Rattle.tdl_sched.proofs.read.read_sched.Goals as goal

pub returns-in-None-clause-lawful : goal.returns-in-None-clause-lawful
returns-in-None-clause-lawful c =
    no_fault c.args.program.now c.args.bytes.now c.in_ok-lines.lines.items c.first_fault.result
    c.in_ok-lines.ensures (search rules) c.in-None.is

pub returns-clause-err : goal.returns-clause-err
returns-clause-err c =
    first_found c.args.program.now c.args.bytes.now c.in_ok-lines.lines.items c.first_fault.result c.in-Some.fault
    c.in_ok-lines.ensures (search rules) c.in-Some.is
