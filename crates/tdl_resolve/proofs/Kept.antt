-- What sources that break no rule keep: few declarations of each sort, and few ports.
use Rattle.std.proofs.Common.{◌≡◌, ℕ, zero, suc, ◌+◌, ◌<◌, ◌≤◌, List, [], ◌∷◌, ◌++◌, map, take, Option, Some, None, Bool, true, false, length, filter, unwrap_or, refl, ap, ap₂, sym, ◌∙◌, subst, arith}
use Rattle.std.specs.Prelude.{slice_get, option_map, if◌then◌else◌}
use Rattle.std.proofs.lemmas.List.{length-append, length-map}
use Rattle.std.proofs.lemmas.Option.{same_Some}
use Rattle.tdl_base.specs.declared.limits.TheConstants.{PORTS}
use Rattle.tdl_tree.specs.declared.declarations.Decl.{Decl}
use Rattle.tdl_tree.specs.declared.declarations.PortDecl.{PortDecl}
use Rattle.tdl_tree.specs.declared.declarations.Sort.TheVariants as sort
use Rattle.tdl_tree.specs.declared.declarations.Tree.{Tree}
use Rattle.tdl_tree.specs.declared.names.Id.{Id}
use Rattle.tdl_rules.specs.Lists.{each}
use Rattle.tdl_rules.specs.Naming.{Scope, ports_in}
use Rattle.tdl_rules.specs.Parts.{modules}
use Rattle.tdl_rules.specs.BoundRules.{c21_ports, passing, past}
use Rattle.tdl_rules.specs.Faults.{faults}
use Rattle.tdl_names.proofs.ModuleScopes.{scope_of_module}
use Rattle.tdl_program.specs.Ordinals.{is_sensor, is_actuator, is_task, is_mode, declarations_of, port_ordinal, ports_at}
use Rattle.tdl_program.specs.Programs.{module_of, sensors_in, actuators_in, tasks_in, modes_in}
use Rattle.tdl_program.proofs.Counting.{IsSingle}
use Rattle.tdl_program.proofs.Faultless.{faultless}
use Rattle.tdl_program.proofs.Limits.{keeps_limits}
use Rattle.tdl_program.proofs.Scopes.{scope_at, module-at, at_declaration}
use Rattle.tdl_program.proofs.Singles.{single_sensor, single_actuator, single_task, single_mode}
use Rattle.tdl_resolve.specs.Counting.{AreFew}
use Rattle.tdl_resolve.specs.Standing.{Stands}
use Rattle.tdl_resolve.proofs.Placing.{none_past, map_more}

-- ---- scopes of modules

-- a source with its scope
record IsSource (sources : List Tree) (k : ℕ) (scope : Scope) : Type 0 where
  tree : Tree
  at : slice_get sources k ≡ Some tree
  is : scope ≡ scope_at sources k tree

-- the scope of module k is that of source k
source_of : (sources : List Tree) (k : ℕ) (scope : Scope) → slice_get (modules sources) k ≡ Some scope →
    IsSource sources k scope
source_of sources k scope e = by_tree (slice_get sources k) refl (sym (scope_of_module sources k) ∙ e)
  where
    by_tree : (o : Option Tree) → slice_get sources k ≡ o → option_map (scope_at sources k) o ≡ Some scope →
        IsSource sources k scope
    by_tree None at e = absurd (cc e)
    by_tree (Some tree) at e = record { tree = tree; at = at; is = sym (same_Some (scope_at sources k tree) scope e) }

-- what stands outside of bodies in module k stands in the sources
pub stands : (sources : List Tree) (k : ℕ) (scope : Scope) → slice_get (modules sources) k ≡ Some scope →
    Stands sources scope
stands sources k scope e =
    let s = source_of sources k scope e in
    subst (Stands sources) (sym s.is) (record { own = refl; there = s.at; few = omega arith })

-- the tree of module k is source k
pub source_at : (sources : List Tree) (k : ℕ) (scope : Scope) → slice_get (modules sources) k ≡ Some scope →
    slice_get sources k ≡ Some scope.tree
source_at sources k scope e =
    let s = source_of sources k scope e in
    s.at ∙ ap (λ (t : Scope). Some t.tree) (sym s.is)

-- each source has its module
pub module_there : (sources : List Tree) (k : ℕ) → k < length sources → slice_get (modules sources) k ≡ None → ⊥
module_there sources k lt e = by_tree (slice_get sources k) refl (sym (scope_of_module sources k) ∙ e)
  where
    by_tree : (o : Option Tree) → slice_get sources k ≡ o → option_map (scope_at sources k) o ≡ None → ⊥
    by_tree (Some tree) at e = cc e
    by_tree None at e =
        let over : length sources ≤ k = none_past k sources at in
        omega (arith, over, lt)

-- ---- declarations

-- as many are made as pass
each-filter : {A B : Type 0} (passes : A → Bool) (parts : A → List B) → IsSingle passes parts → (xs : List A) →
    length (filter passes xs) ≡ length (each parts xs)
each-filter passes parts single [] = refl
each-filter passes parts single (x ∷ xs) = by_test (each-filter passes parts single xs) (passes x) (single x)
  where
    by_test : length (filter passes xs) ≡ length (each parts xs) → (t : Bool) → length (parts x) ≡ (if t then 1 else 0) →
        length (if t then x ∷ filter passes xs else filter passes xs) ≡ length (parts x ++ each parts xs)
    by_test rest true e =
        let both : length (parts x ++ each parts xs) ≡ length (parts x) + length (each parts xs) =
        length-append (parts x) (each parts xs) in
        omega (arith, both, e, rest)
    by_test rest false e =
        let both : length (parts x ++ each parts xs) ≡ length (parts x) + length (each parts xs) =
        length-append (parts x) (each parts xs) in
        omega (arith, both, e, rest)

-- the declarations of a source that breaks no rule are few
pub few_declarations : (sources : List Tree) (k : ℕ) (tree : Tree) → faults sources ≡ [] →
    slice_get sources k ≡ Some tree → AreFew tree.decls
few_declarations sources k tree none at =
    let scope : Scope = scope_at sources k tree in
    let keeps = (keeps_limits sources none).modules k (module_of scope) (module-at sources k tree at) in
    record {
      sensors = omega (arith, each-filter is_sensor sensors_in single_sensor tree.decls, keeps.sensors);
      actuators = omega (arith, each-filter is_actuator actuators_in single_actuator tree.decls, keeps.actuators);
      tasks = omega (arith, each-filter is_task (tasks_in scope) (single_task scope) tree.decls, keeps.tasks);
      modes = omega (arith, each-filter is_mode (modes_in scope) (single_mode scope) tree.decls, keeps.modes);
    }

-- ---- ports

-- ports that pass no count are at most so many
ports_kept : (scope : Scope) (ports : List PortDecl) →
    past scope (passing PORTS (map (λ (port : PortDecl). port.name) ports)) ≡ [] → length ports ≤ PORTS
ports_kept scope ports none =
    let names : length (map (λ (port : PortDecl). port.name) ports) ≤ PORTS =
    none_past PORTS (map (λ (port : PortDecl). port.name) ports)
    (by_item (passing PORTS (map (λ (port : PortDecl). port.name) ports)) none) in
    let as_many : length (map (λ (port : PortDecl). port.name) ports) ≡ length ports =
    length-map ports (λ (port : PortDecl). port.name) in
    omega (arith, names, as_many)
  where
    by_item : (o : Option Id) → past scope o ≡ [] → o ≡ None
    by_item None e = refl
    by_item (Some id) e = absurd (cc e)

-- the ports of a declaration are few
pub few_ports_of : (sources : List Tree) (m k : ℕ) (tree : Tree) (d : Decl) → faults sources ≡ [] →
    slice_get sources m ≡ Some tree → slice_get tree.decls k ≡ Some d → length (ports_in d) ≤ PORTS
few_ports_of sources m k tree d none at declared =
    ports_kept (scope_at sources m tree) (ports_in d)
    (at_declaration c21_ports sources m tree k d (faultless sources none).ports at declared)

-- ---- outputs of tasks

-- there is no port before one where there is none
no_ports : (port : ℕ) → 0 ≡ port_ordinal sort.Output [] port
no_ports zero = refl
no_ports (suc port) = refl

-- the declarations of a source with its scope
declarations_at : (sources : List Tree) (m : ℕ) (scope : Scope) → slice_get (modules sources) m ≡ Some scope →
    declarations_of sources m ≡ scope.tree.decls
declarations_at sources m scope e =
    ap (λ (o : Option Tree). unwrap_or (option_map (λ tree. tree.decls) o) []) (source_at sources m scope e)

-- the ports of what stands there
pub ports_there : (sources : List Tree) (m k : ℕ) (scope : Scope) (o : Option Decl) →
    slice_get (modules sources) m ≡ Some scope → slice_get scope.tree.decls k ≡ o →
    ports_at sources m k ≡ unwrap_or (option_map ports_in o) []
ports_there sources m k scope o e is =
    ap (λ (ds : List Decl). unwrap_or (option_map ports_in (slice_get ds k)) []) (declarations_at sources m scope e)
    ∙ ap (λ (o : Option Decl). unwrap_or (option_map ports_in o) []) is

-- where there is no declaration, there is no port before one
pub no_declaration : (sources : List Tree) (m k port : ℕ) (scope : Scope) →
    slice_get (modules sources) m ≡ Some scope → slice_get scope.tree.decls k ≡ None →
    0 ≡ port_ordinal sort.Output (ports_at sources m k) port
no_declaration sources m k port scope e none =
    no_ports port ∙ ap (λ (ps : List PortDecl). port_ordinal sort.Output ps port)
    (sym (ports_there sources m k scope None e none))

-- nor where there is no source
pub no_source : (sources : List Tree) (m k port : ℕ) → slice_get (modules sources) m ≡ None →
    0 ≡ port_ordinal sort.Output (ports_at sources m k) port
no_source sources m k port e = by_tree (slice_get sources m) refl (sym (scope_of_module sources m) ∙ e)
  where
    by_tree : (o : Option Tree) → slice_get sources m ≡ o → option_map (scope_at sources m) o ≡ None →
        0 ≡ port_ordinal sort.Output (ports_at sources m k) port
    by_tree (Some tree) at e = absurd (cc e)
    by_tree None at e =
        no_ports port ∙ ap (λ (o : Option Tree). port_ordinal sort.Output
        (unwrap_or (option_map ports_in (slice_get (unwrap_or (option_map (λ tree. tree.decls) o) []) k)) []) port) (sym at)

-- ---- rows

-- the declarations of one source more
pub rows_more : (sources : List Tree) (k : ℕ) (tree : Tree) (rows new : List (List Decl)) (row : List Decl) →
    slice_get sources k ≡ Some tree → row ≡ tree.decls → rows ≡ map (λ (t : Tree). t.decls) (take k sources) →
    new ≡ rows ++ row ∷ [] → new ≡ map (λ (t : Tree). t.decls) (take (k + 1) sources)
rows_more sources k tree rows new row at is so_far put =
    let next : suc k ≡ k + 1 = omega arith in
    put ∙ ap₂ (λ (rs : List (List Decl)) (r : List Decl). rs ++ r ∷ []) so_far is
    ∙ map_more (λ (t : Tree). t.decls) sources k tree at
    ∙ ap (λ n. map (λ (t : Tree). t.decls) (take n sources)) next
