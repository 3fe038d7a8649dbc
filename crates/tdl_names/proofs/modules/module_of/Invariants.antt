use Rattle.std.proofs.Common.{◌≡◌, map, ◌++◌, take}
use Rattle.tdl_rules.specs.Naming.{name_of, ports_in}
use Rattle.tdl_names.proofs.modules.module_of.Given as goal

abbrev pub invariant-loop-id : goal.invariant-loop-id
invariant-loop-id l = l.names ≡ take l.id-index l.id-items

abbrev pub invariant-loop-decl : goal.invariant-loop-decl
invariant-loop-decl l = record {
  named : l.names ≡ l.tree.imports ++ map name_of (take l.decl-index l.decl-items);
  declared : l.ports ≡ map ports_in (take l.decl-index l.decl-items);
}
