-- The actuators so far with those of the declarations that are left are all.
use Rattle.std.proofs.Common.{◌≡◌, ◌++◌, drop}
use Rattle.tdl_rules.specs.Lists.{each}
use Rattle.tdl_program.specs.Programs.{actuators_in}
use Rattle.tdl_compose.proofs.declarations.actuators_of.Given as goal

abbrev pub invariant-loop-decl : goal.invariant-loop-decl
invariant-loop-decl l = l.list ++ each actuators_in (drop l.decl-index l.decls) ≡ each actuators_in l.decls
