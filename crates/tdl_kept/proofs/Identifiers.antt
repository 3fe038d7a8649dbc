-- The names of the program of trees that declare identifiers are identifiers.
use Rattle.std.proofs.Common.{◌≡◌, ℕ, zero, suc, List, [], ◌∷◌, map, All, Some, subst}
use Rattle.std.specs.Prelude.{slice_get}
use Rattle.std.proofs.lemmas.List.{map-append}
use Rattle.std.proofs.lemmas.List.Elements.{All-nil, All-cons, All-head, All-tail, All-same, All-append}
use Rattle.tdl_mode.specs.declared.program.Constant.{Constant}
use Rattle.tdl_mode.specs.declared.program.Mode.{Mode}
use Rattle.tdl_mode.specs.declared.program.PortDef.{PortDef}
use Rattle.tdl_mode.specs.declared.program.Task.{Task}
use Rattle.tdl_tree.specs.declared.declarations.Decl.{Decl}
use Rattle.tdl_tree.specs.declared.declarations.Decl.TheVariants as decl
use Rattle.tdl_tree.specs.declared.declarations.PortDecl.{PortDecl}
use Rattle.tdl_tree.specs.declared.declarations.Sort.{Sort}
use Rattle.tdl_tree.specs.declared.declarations.Sort.TheVariants as sort
use Rattle.tdl_tree.specs.declared.declarations.Tree.{Tree}
use Rattle.tdl_rules.specs.Lists.{each}
use Rattle.tdl_rules.specs.Naming.{Scope}
use Rattle.tdl_program.specs.Ordinals.{ports_of}
use Rattle.tdl_program.specs.Programs.{program_of, module_of, constants_in, sensors_in, actuators_in, tasks_in, modes_in, port_of}
use Rattle.tdl_program.proofs.Scopes.{scope_at, module-from}
use Rattle.tdl_program.proofs.Singles.{task-from}
use Rattle.tdl_size.specs.Sized.{IsIdentifier, IsSizedDecl, IsSized}
use Rattle.tdl_kept.specs.Names.{port_names, ModuleIdentifiers, HasIdentifiers}

-- what holds of all items holds of one
pub all-at : {A : Type 0} (P : A → Type 0) (xs : List A) (n : ℕ) (x : A) → All P xs → slice_get xs n ≡ Some x → P x
all-at P [] n x h at = absurd (cc at)
all-at P (y ∷ ys) zero x h at = let same : y ≡ x = cc in subst P same (All-head P y ys h)
all-at P (y ∷ ys) (suc n) x h at = all-at P ys n x (All-tail P y ys h) at

-- ---- the parts of a module

module _ {A : Type 0} (name : A → List ℕ) (parts : Decl → List A)
    (own : (d : Decl) → IsSizedDecl d → All IsIdentifier (map name (parts d))) where
  -- the names of the parts that declarations make
  names : (decls : List Decl) → All IsSizedDecl decls → All IsIdentifier (map name (each parts decls))
  names [] h = All-nil IsIdentifier
  names (d ∷ ds) h =
      All-same IsIdentifier _ _ (map-append name (parts d) (each parts ds))
      (All-append IsIdentifier (map name (parts d)) (map name (each parts ds))
      (own d (All-head IsSizedDecl d ds h)) (names ds (All-tail IsSizedDecl d ds h)))

-- one name
one : (name : List ℕ) → IsIdentifier name → All IsIdentifier (name ∷ [])
one name h = All-cons IsIdentifier name [] h (All-nil IsIdentifier)

-- a constant's
constant_name : (d : Decl) → IsSizedDecl d → All IsIdentifier (map (λ (c : Constant). c.name) (constants_in d))
constant_name (decl.Const public kind name value) h = one name.text h
constant_name (decl.Sensor kind name) h = All-nil IsIdentifier
constant_name (decl.Actuator kind name initial) h = All-nil IsIdentifier
constant_name (decl.Task public name worst ports body) h = All-nil IsIdentifier
constant_name (decl.Mode start name period acts) h = All-nil IsIdentifier

-- a sensor's
sensor_name : (d : Decl) → IsSizedDecl d → All IsIdentifier (map (λ (p : PortDef). p.name) (sensors_in d))
sensor_name (decl.Sensor kind name) h = one name.text h
sensor_name (decl.Const public kind name value) h = All-nil IsIdentifier
sensor_name (decl.Actuator kind name initial) h = All-nil IsIdentifier
sensor_name (decl.Task public name worst ports body) h = All-nil IsIdentifier
sensor_name (decl.Mode start name period acts) h = All-nil IsIdentifier

-- an actuator's
actuator_name : (d : Decl) → IsSizedDecl d → All IsIdentifier (map (λ (p : PortDef). p.name) (actuators_in d))
actuator_name (decl.Actuator kind name initial) h = one name.text h
actuator_name (decl.Const public kind name value) h = All-nil IsIdentifier
actuator_name (decl.Sensor kind name) h = All-nil IsIdentifier
actuator_name (decl.Task public name worst ports body) h = All-nil IsIdentifier
actuator_name (decl.Mode start name period acts) h = All-nil IsIdentifier

-- a task's
task_name : (scope : Scope) (d : Decl) → IsSizedDecl d →
    All IsIdentifier (map (λ (t : Task). t.name) (tasks_in scope d))
task_name scope (decl.Task public name worst ports body) h = one name.text h.0
task_name scope (decl.Const public kind name value) h = All-nil IsIdentifier
task_name scope (decl.Sensor kind name) h = All-nil IsIdentifier
task_name scope (decl.Actuator kind name initial) h = All-nil IsIdentifier
task_name scope (decl.Mode start name period acts) h = All-nil IsIdentifier

-- a mode's
mode_name : (scope : Scope) (d : Decl) → IsSizedDecl d →
    All IsIdentifier (map (λ (m : Mode). m.name) (modes_in scope d))
mode_name scope (decl.Mode start name period acts) h = one name.text h.0
mode_name scope (decl.Const public kind name value) h = All-nil IsIdentifier
mode_name scope (decl.Sensor kind name) h = All-nil IsIdentifier
mode_name scope (decl.Actuator kind name initial) h = All-nil IsIdentifier
mode_name scope (decl.Task public name worst ports body) h = All-nil IsIdentifier

-- ---- the ports of a task

-- those of one sort
sort_names : (wanted : Sort) (ports : List PortDecl) → All (λ port. IsIdentifier port.name.text) ports →
    All IsIdentifier (map (λ (p : PortDef). p.name) (map port_of (ports_of wanted ports)))
sort_names wanted [] h = All-nil IsIdentifier
sort_names wanted (p ∷ ps) h =
    by_sort wanted p.sort (All-head (λ port. IsIdentifier port.name.text) p ps h)
    (sort_names wanted ps (All-tail (λ port. IsIdentifier port.name.text) p ps h))
  where
    by_sort : (wanted s : Sort) → IsIdentifier p.name.text →
        All IsIdentifier (map (λ (q : PortDef). q.name) (map port_of (ports_of wanted ps))) →
        All IsIdentifier (map (λ (q : PortDef). q.name) (map port_of (ports_of wanted (record p { sort = s } ∷ ps))))
    by_sort sort.Input sort.Input own rest = All-cons IsIdentifier p.name.text _ own rest
    by_sort sort.Output sort.Output own rest = All-cons IsIdentifier p.name.text _ own rest
    by_sort sort.Local sort.Local own rest = All-cons IsIdentifier p.name.text _ own rest
    by_sort sort.Input sort.Output own rest = rest
    by_sort sort.Input sort.Local own rest = rest
    by_sort sort.Output sort.Input own rest = rest
    by_sort sort.Output sort.Local own rest = rest
    by_sort sort.Local sort.Input own rest = rest
    by_sort sort.Local sort.Output own rest = rest

-- ---- a module, and all of them

module _ (sources : List Tree) (k : ℕ) (tree : Tree) (sized : IsSized tree) where
  -- where the module stands
  abbrev home : Scope
  home = scope_at sources k tree

  -- its names
  module_identifiers : ModuleIdentifiers (module_of home)
  module_identifiers = record {
    own = sized.name;
    parts =
        All-append IsIdentifier _ _
        (names (λ (c : Constant). c.name) constants_in constant_name tree.decls sized.decls)
        (All-append IsIdentifier _ _
        (names (λ (p : PortDef). p.name) sensors_in sensor_name tree.decls sized.decls)
        (All-append IsIdentifier _ _
        (names (λ (p : PortDef). p.name) actuators_in actuator_name tree.decls sized.decls)
        (All-append IsIdentifier _ _
        (names (λ (t : Task). t.name) (tasks_in home) (task_name home) tree.decls sized.decls)
        (names (λ (m : Mode). m.name) (modes_in home) (mode_name home) tree.decls sized.decls))));
    ports = λ n task at.
        let t = task-from home tree.decls n task at in
        let own = all-at IsSizedDecl tree.decls t.place (decl.Task t.public t.name t.worst t.ports t.body) sized.decls
        t.at in
        subst (λ (task : Task). All IsIdentifier (port_names task)) t.is
        (All-append IsIdentifier _ _ (sort_names sort.Input t.ports own.1)
        (All-append IsIdentifier _ _ (sort_names sort.Output t.ports own.1)
        (sort_names sort.Local t.ports own.1)));
  }

-- trees that declare identifiers say a program whose names are identifiers
pub has_identifiers : (sources : List Tree) → All IsSized sources → HasIdentifiers (program_of sources)
has_identifiers sources all = record {
  modules = λ k m at.
      let f = module-from sources k m at in
      subst ModuleIdentifiers f.is (module_identifiers sources k f.tree (all-at IsSized sources k f.tree all f.at));
}
