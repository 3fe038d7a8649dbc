use Rattle.std.proofs.Common.{◌≤◌, ap, ◌∙◌, sym, subst, slice_get, length, List}
use Rattle.tdl_base.specs.declared.limits.TheConstants.{PORTS, SOURCES}
use Rattle.tdl_tree.specs.declared.declarations.PortDecl.{PortDecl}
use Rattle.tdl_tree.specs.declared.declarations.Tree.{Tree}
use Rattle.tdl_rules.specs.Faults.{faults}
use Rattle.tdl_resolve.specs.Standing.{Stands}
use Rattle.tdl_resolve.proofs.Kept.{source_at, few_ports_of, stands}
use Rattle.tdl_resolve.proofs.tests.does.Goals as goal

pub numbers_of-requires : goal.numbers_of-requires
numbers_of-requires c = record {
  kept = ap faults (c.in_ok-sources.ensures ∙ c.as_slice.ensures) ∙ c.in_ok-trees.ensures.kept;
  few = subst (λ (trees : List Tree). length trees ≤ SOURCES) (sym (c.in_ok-sources.ensures ∙ c.as_slice.ensures))
      c.in_ok-trees.ensures.few;
}

pub body_in-requires : goal.body_in-requires
body_in-requires c = record {
  stands = subst (λ sources. Stands sources c.in-Some.scope) (sym c.in_ok-numbers.ensures)
      (stands c.in_ok-sources.sources 1 c.in-Some.scope (sym c.in-Some.ensures));
  few =
      let declared = ap (λ (tree : Tree). slice_get tree.decls 1) (sym c.module.ensures) ∙ sym c.in-Some-entry.ensures in
      subst (λ (ports : List PortDecl). length ports ≤ PORTS) (sym c.ports.ensures)
      (few_ports_of c.in_ok-sources.sources 1 1 c.in-Some.scope.tree c.in-Some-entry.entry
      (ap faults (c.in_ok-sources.ensures ∙ c.as_slice.ensures) ∙ c.in_ok-trees.ensures.kept)
      (source_at c.in_ok-sources.sources 1 c.in-Some.scope (sym c.in-Some.ensures)) declared);
}
