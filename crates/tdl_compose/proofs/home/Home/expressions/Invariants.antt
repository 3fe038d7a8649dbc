-- The expressions so far with those of the trees that are left are all.
use Rattle.std.proofs.Common.{◌≡◌, ◌++◌, map, drop}
use Rattle.tdl_program.specs.Expressions.{expression_of}
use Rattle.tdl_compose.proofs.home.Home.expressions.Given as goal

abbrev pub invariant-loop-tree : goal.invariant-loop-tree
invariant-loop-tree l =
    l.list ++ map (expression_of l.self) (drop l.tree-index l.trees) ≡ map (expression_of l.self) l.trees
