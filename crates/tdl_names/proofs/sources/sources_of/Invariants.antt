use Rattle.std.proofs.Common.{◌≡◌, map, take}
use Rattle.tdl_names.proofs.sources.sources_of.Given as goal

abbrev pub invariant-loop-tree : goal.invariant-loop-tree
invariant-loop-tree l = record {
  named : l.names ≡ map (λ t. t.name) (take l.tree-index l.trees);
  viewed : l.modules ≡ take l.tree-index l.trees;
}
