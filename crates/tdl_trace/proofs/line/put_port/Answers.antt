use Rattle.std.proofs.Common.{rules, ap}
use Rattle.tdl_trace.specs.Lines.{value_end}
use Rattle.tdl_trace.proofs.Extending.{in_order}
use Rattle.tdl_trace.proofs.line.put_port.Goals as goal

pub returns-clause-ok : goal.returns-clause-ok
returns-clause-ok c =
    in_order _ _ _ _ _ _ _ _ _ _ _ _ _ _ _ c.in_ok-put_start.ensures.ok c.task_name.ensures
    c.in_ok-put_dotted.ensures.ok c.output_name.ensures c.in_ok-put_dotted-2.ensures.ok
    c.in_ok-put_value_end.ensures.ok (ap value_end (search (rules, c.ranges.value.sfits)))
