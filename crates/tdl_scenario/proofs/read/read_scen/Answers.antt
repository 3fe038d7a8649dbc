use Rattle.std.proofs.Common.{rules}
use Rattle.tdl_scenario.proofs.ReadLemmas.{no_fault, first_found}
use Rattle.tdl_scenario.proofs.read.read_scen.Goals as goal

pub returns-in_ok-scenario_said-in-None-clause-lawful : goal.returns-in_ok-scenario_said-in-None-clause-lawful
returns-in_ok-scenario_said-in-None-clause-lawful c =
    no_fault c.args.names.now c.args.plants.now c.args.bytes.now c.in_ok-lines.lines.items c.len.result
    c.line_after.result c.in_ok-first_fault.field-0 c.in_ok-lines.ensures c.len.ensures c.line_after.ensures
    (search rules) c.in-None.is

pub returns-in-Some-clause-err : goal.returns-in-Some-clause-err
returns-in-Some-clause-err c =
    first_found c.args.names.now c.args.plants.now c.args.bytes.now c.in_ok-lines.lines.items c.len.result
    c.line_after.result c.in_ok-first_fault.field-0 c.in-Some.fault c.in_ok-lines.ensures c.len.ensures
    c.line_after.ensures (search rules) c.in-Some.is
