use Rattle.std.proofs.Common.{◌≡◌, take, map}
use Rattle.tdl_host.specs.Hosts.{first_view}
use Rattle.tdl_host.proofs.task.first_tasks.Given as goal

abbrev pub invariant-loop-table : goal.invariant-loop-table
invariant-loop-table l = l.tasks.items ≡ map first_view (take l.table-index l.tables)
