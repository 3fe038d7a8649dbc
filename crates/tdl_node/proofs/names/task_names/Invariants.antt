use Rattle.std.proofs.Common.{◌≡◌, ◌++◌, drop, map}
use Rattle.tdl_verify.specs.Texts as texts
use Rattle.tdl_node.proofs.names.task_names.Given as goal

-- the first tasks are named
abbrev pub invariant-loop-table : goal.invariant-loop-table
invariant-loop-table l = l.list ++ map texts.table_names (drop l.table-index l.tables) ≡ map texts.table_names l.tables
