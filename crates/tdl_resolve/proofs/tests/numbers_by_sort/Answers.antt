use Rattle.std.proofs.Common.{sym, ap, ◌∙◌, ◌≤◌, subst, length, List}
use Rattle.tdl_base.specs.declared.limits.TheConstants.{SOURCES}
use Rattle.tdl_tree.specs.declared.declarations.Tree.{Tree}
use Rattle.tdl_rules.specs.Faults.{faults}
use Rattle.tdl_resolve.proofs.tests.numbers_by_sort.Goals as goal

pub numbers_of-requires : goal.numbers_of-requires
numbers_of-requires g c = record {
  kept = ap faults (c.in_ok-sources.ensures ∙ c.as_slice.ensures) ∙ c.in_ok-trees.ensures.kept;
  few = subst (λ (trees : List Tree). length trees ≤ SOURCES) (sym (c.in_ok-sources.ensures ∙ c.as_slice.ensures))
      c.in_ok-trees.ensures.few;
}
