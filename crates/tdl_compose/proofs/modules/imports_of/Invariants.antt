-- The imports so far with those that are left are all.
use Rattle.std.proofs.Common.{◌≡◌, ◌++◌, map, drop}
use Rattle.tdl_program.specs.Programs.{import_of}
use Rattle.tdl_compose.proofs.modules.imports_of.Given as goal

abbrev pub invariant-loop-id : goal.invariant-loop-id
invariant-loop-id l = l.list ++ map (import_of l.home) (drop l.id-index l.ids) ≡ map (import_of l.home) l.ids
