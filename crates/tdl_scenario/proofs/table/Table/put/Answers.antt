use mathlib.Core.Path.{fun_ext}
use Rattle.tdl_scenario.proofs.table.Table.put.Goals as goal

pub returns : goal.returns
returns c = fun_ext (λ m. fun_ext (λ k. c.in_ok-insert.ensures.updates.0 (m, k)))
