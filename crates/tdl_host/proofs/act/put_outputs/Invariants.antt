use Rattle.std.proofs.Common.{◌≡◌, ◌++◌, drop}
use Rattle.tdl_base.specs.Lists.{numbered}
use Rattle.tdl_trace.specs.Shown.{Shown}
use Rattle.tdl_verify.specs.Turns.{output_rows}
use Rattle.tdl_host.proofs.act.put_outputs.Given as goal

abbrev pub invariant-loop-i : goal.invariant-loop-i
invariant-loop-i l =
    l.rows ++ numbered l.i (λ o v. Shown.Port l.at 0 l.owner.0 l.task o v) (drop l.i l.outputs) ≡ l.fn.rows
    ++ output_rows l.at 0 l.owner.0 l.task l.outputs
