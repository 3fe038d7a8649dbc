use Rattle.tdl_host.proofs.JobLemmas.{body-lawful, still-worked, done-worked}
use Rattle.tdl_host.proofs.job.worked.Goals as goal

pub run-requires : goal.run-requires
run-requires c = body-lawful c.args.table.now c.args.ready.held.task c.requires.checked c.requires.cells

pub returns-in-Still-clause-now : goal.returns-in-Still-clause-now
returns-in-Still-clause-now c =
    still-worked c.args.table.now c.args.ready c.in-Still.ready c.in-Still.ensures.0 c.in-Still.ensures.1

pub returns-in-Done-clause-now : goal.returns-in-Done-clause-now
returns-in-Done-clause-now c =
    done-worked c.args.table.now c.args.ready c.in-Done.done c.requires.cells c.requires.left c.in-Done.ensures.0
    c.in-Done.ensures.1
