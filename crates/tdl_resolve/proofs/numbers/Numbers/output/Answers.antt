-- By what stands at the two numbers.
use Rattle.std.proofs.Common.{◌≡◌, ◌≤◌, List, Some, sym, ap, ◌∙◌, subst, slice_get, length}
use Rattle.tdl_base.specs.declared.limits.TheConstants.{PORTS}
use Rattle.tdl_tree.specs.declared.declarations.PortDecl.{PortDecl}
use Rattle.tdl_tree.specs.declared.declarations.Sort.TheVariants as sort
use Rattle.tdl_tree.specs.declared.declarations.Tree.{Tree}
use Rattle.tdl_program.specs.Ordinals.{port_ordinal, ports_at}
use Rattle.tdl_resolve.proofs.Kept.{source_at, few_ports_of, no_source, no_declaration, ports_there}
use Rattle.tdl_resolve.proofs.numbers.Numbers.output.Goals as goal

pub port_ordinal-requires : goal.port_ordinal-requires
port_ordinal-requires c =
    let declared = ap (λ (tree : Tree). slice_get tree.decls c.args.task) (sym c.module.ensures) ∙ sym c.in-Some-entry.ensures in
    subst (λ (ports : List PortDecl). length ports ≤ PORTS) (sym (c.items.ensures ∙ c.ports.ensures))
    (few_ports_of c.self.inside.sources.now c.args.file c.args.task c.in-Some.scope.tree c.in-Some-entry.entry c.self.invariant.kept
    (source_at c.self.inside.sources.now c.args.file c.in-Some.scope (sym c.in-Some.ensures)) declared)

pub returns-in-None : goal.returns-in-None
returns-in-None c =
    subst (λ (sources : List Tree). 0 ≡ port_ordinal sort.Output (ports_at sources c.args.file c.args.task) c.args.port) c.self.view_is
    (no_source c.self.inside.sources.now c.args.file c.args.task c.args.port (sym c.in-None.ensures))

pub returns-in-None-entry : goal.returns-in-None-entry
returns-in-None-entry c =
    let missing = ap (λ (tree : Tree). slice_get tree.decls c.args.task) (sym c.module.ensures) ∙ sym c.in-None-entry.ensures in
    subst (λ (sources : List Tree). 0 ≡ port_ordinal sort.Output (ports_at sources c.args.file c.args.task) c.args.port) c.self.view_is
    (no_declaration c.self.inside.sources.now c.args.file c.args.task c.args.port c.in-Some.scope (sym c.in-Some.ensures) missing)

pub returns-in-Some-entry : goal.returns-in-Some-entry
returns-in-Some-entry c =
    let declared = ap (λ (tree : Tree). slice_get tree.decls c.args.task) (sym c.module.ensures) ∙ sym c.in-Some-entry.ensures in
    subst (λ (sources : List Tree). c.port_ordinal.result
    ≡ port_ordinal sort.Output (ports_at sources c.args.file c.args.task) c.args.port) c.self.view_is
    (c.port_ordinal.ensures.ordinal ∙ ap (λ (ports : List PortDecl). port_ordinal sort.Output ports c.args.port)
    (c.items.ensures ∙ c.ports.ensures ∙ sym (ports_there c.self.inside.sources.now c.args.file c.args.task
    c.in-Some.scope (Some c.in-Some-entry.entry) (sym c.in-Some.ensures) declared)))
