use Rattle.tdl_window.proofs.FirstPlaces.{none-first}
use Rattle.tdl_window.proofs.NoFaults.{no_fault-passes}
use Rattle.tdl_window.proofs.testing.test.Goals as goal

pub invariant_of-result : goal.invariant_of-result
invariant_of-result c = (
  no_fault-passes c.args.program.now c.args.placement.now c.args.schedule c.requires.invoked
      (none-first _ c.first_fault.result c.first_fault.ensures c.in-None.is),
  c.requires.few,
)

pub returns-in-None-clause-kept : goal.returns-in-None-clause-kept
returns-in-None-clause-kept c = none-first _ c.first_fault.result c.first_fault.ensures c.in-None.is

pub returns-in-None-clause-passes : goal.returns-in-None-clause-passes
returns-in-None-clause-passes c =
    no_fault-passes c.args.program.now c.args.placement.now c.args.schedule c.requires.invoked
    (none-first _ c.first_fault.result c.first_fault.ensures c.in-None.is)
