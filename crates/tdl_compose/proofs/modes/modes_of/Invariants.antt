-- The modes so far with those of the declarations that are left are all.
use Rattle.std.proofs.Common.{◌≡◌, ◌++◌, drop}
use Rattle.tdl_rules.specs.Lists.{each}
use Rattle.tdl_program.specs.Programs.{modes_in}
use Rattle.tdl_compose.proofs.modes.modes_of.Given as goal

abbrev pub invariant-loop-number : goal.invariant-loop-number
invariant-loop-number l =
    l.list ++ each (modes_in l.home) (drop l.number l.home.tree.decls) ≡ each (modes_in l.home) l.home.tree.decls
