-- The program of sources that break no rule keeps its counts, its times and the kinds of its numbers.
use Rattle.std.proofs.Common.{◌≡◌, ℕ, ◌+◌, ◌≤◌, List, [], ◌∷◌, map, length, Some, subst, arith}
use Rattle.std.specs.Prelude.{slice_get}
use Rattle.std.proofs.lemmas.List.{length-map}
use Rattle.tdl_base.specs.declared.limits.TheConstants.{PERIOD_US, PORTS}
use Rattle.tdl_mode.specs.declared.program.Mode.{Mode}
use Rattle.tdl_mode.specs.declared.program.Task.{Task}
use Rattle.tdl_tree.specs.declared.declarations.Decl.TheVariants as decl
use Rattle.tdl_tree.specs.declared.declarations.PortDecl.{PortDecl}
use Rattle.tdl_tree.specs.declared.declarations.Sort.{Sort}
use Rattle.tdl_tree.specs.declared.declarations.Sort.TheVariants as sort
use Rattle.tdl_tree.specs.declared.declarations.Tree.{Tree}
use Rattle.tdl_rules.specs.Faults.{faults}
use Rattle.tdl_program.specs.Ordinals.{ports_of}
use Rattle.tdl_program.specs.Programs.{program_of, module_of, port_of}
use Rattle.tdl_program.proofs.Faultless.{faultless}
use Rattle.tdl_program.proofs.Scopes.{scope_at, module-from}
use Rattle.tdl_program.proofs.Singles.{mode-from, task-from}
use Rattle.tdl_resolve.proofs.Kept.{few_ports_of}
use Rattle.tdl_kept.specs.Counts.{TaskCounts, ModuleCounts, KeepsCounts}
use Rattle.tdl_kept.proofs.KindsOfNumbers.{constants_of_kind, sensors_of_kind, actuators_of_kind, ports_of_kind}
use Rattle.tdl_kept.proofs.Lasting.{short_period, short_worst}
use Rattle.tdl_kept.proofs.Summing.{few_occurrences}

-- ports are inputs, outputs and locals
by_sort : (ports : List PortDecl) →
    length (ports_of sort.Input ports) + length (ports_of sort.Output ports) + length (ports_of sort.Local ports)
    ≡ length ports
by_sort [] = omega arith
by_sort (p ∷ ps) = one p.sort (by_sort ps)
  where
    one : (s : Sort) →
        length (ports_of sort.Input ps) + length (ports_of sort.Output ps) + length (ports_of sort.Local ps)
        ≡ length ps →
        length (ports_of sort.Input (record p { sort = s } ∷ ps)) + length (ports_of sort.Output
        (record p { sort = s } ∷ ps))
        + length (ports_of sort.Local (record p { sort = s } ∷ ps)) ≡ length (p ∷ ps)
    one sort.Input rest = omega (arith, rest)
    one sort.Output rest = omega (arith, rest)
    one sort.Local rest = omega (arith, rest)

module _ (sources : List Tree) (none : faults sources ≡ []) (k : ℕ) (tree : Tree)
    (source : slice_get sources k ≡ Some tree) where
  -- each task keeps them
  task_counts : (n : ℕ) (task : Task) → slice_get (module_of (scope_at sources k tree)).tasks n ≡ Some task →
      TaskCounts task
  task_counts n task at =
      let f = task-from (scope_at sources k tree) tree.decls n task at in
      let few : length f.ports ≤ PORTS =
      few_ports_of sources k f.place tree (decl.Task f.public f.name f.worst f.ports f.body) none source f.at in
      let inputs : length (map port_of (ports_of sort.Input f.ports)) ≡ length (ports_of sort.Input f.ports) =
      length-map (ports_of sort.Input f.ports) port_of in
      let outputs : length (map port_of (ports_of sort.Output f.ports)) ≡ length (ports_of sort.Output f.ports) =
      length-map (ports_of sort.Output f.ports) port_of in
      let locals : length (map port_of (ports_of sort.Local f.ports)) ≡ length (ports_of sort.Local f.ports) =
      length-map (ports_of sort.Local f.ports) port_of in
      let sorts = by_sort f.ports in
      subst TaskCounts f.is (record {
        ports = omega (arith, few, inputs, outputs, locals, sorts);
        worst = short_worst sources (faultless sources none) k f.place tree source f.public f.name f.worst f.ports
            f.body f.at;
        inputs = ports_of_kind sort.Input f.ports;
        outputs = ports_of_kind sort.Output f.ports;
        locals = ports_of_kind sort.Local f.ports;
      })

  -- each period is at most so long
  periods : (n : ℕ) (mode : Mode) → slice_get (module_of (scope_at sources k tree)).modes n ≡ Some mode →
      mode.period.0 ≤ PERIOD_US
  periods n mode at =
      let f = mode-from (scope_at sources k tree) tree.decls n mode at in
      subst (λ (mode : Mode). mode.period.0 ≤ PERIOD_US) f.is
      (short_period sources (faultless sources none) k f.place tree source f.start f.name f.period f.acts f.at)

  -- so does the module
  module_counts : ModuleCounts (module_of (scope_at sources k tree))
  module_counts = record {
    constants = constants_of_kind tree.decls;
    sensors = sensors_of_kind tree.decls;
    actuators = actuators_of_kind tree.decls;
    tasks = task_counts;
    periods = periods;
  }

-- sources that break no rule say a program that keeps them
pub keeps_counts : (sources : List Tree) → faults sources ≡ [] → KeepsCounts (program_of sources)
keeps_counts sources none = record {
  occurrences = few_occurrences sources (faultless sources none);
  modules = λ k m at.
      let f = module-from sources k m at in
      subst ModuleCounts f.is (module_counts sources none k f.tree f.at);
}
