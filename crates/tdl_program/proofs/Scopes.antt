-- The modules of sources by place, and that a rule is kept at each.
use Rattle.std.proofs.Common.{◌≡◌, ℕ, ◌+◌, Bool, List, [], ◌++◌, map, Some, None, ap, sym, ◌∙◌, arith}
use Rattle.std.specs.Prelude.{slice_get, option_map}
use Rattle.std.proofs.lemmas.Option.{slice_get-map}
use Rattle.tdl_tree.specs.declared.activities.Act.{Act}
use Rattle.tdl_tree.specs.declared.declarations.Decl.{Decl}
use Rattle.tdl_tree.specs.declared.declarations.Decl.TheVariants as decl
use Rattle.tdl_tree.specs.declared.declarations.Tree.{Tree}
use Rattle.tdl_tree.specs.declared.names.Id.{Id}
use Rattle.tdl_tree.specs.declared.names.Time.{Time}
use Rattle.tdl_mode.specs.declared.program.Module.{Module}
use Rattle.tdl_rules.specs.declared.fault.Fault.{Fault}
use Rattle.tdl_rules.specs.Lists.{each}
use Rattle.tdl_rules.specs.Naming.{Scope}
use Rattle.tdl_rules.specs.Times.{time_us}
use Rattle.tdl_rules.specs.Parts.{modules, in_declarations, in_activities, in_modes}
use Rattle.tdl_program.specs.Programs.{program_of, module_of}
use Rattle.tdl_program.proofs.Emptiness.{empty-at, numbered-at, numbered-from, map-from}

-- source k as the scope of its expressions outside bodies
abbrev pub scope_at : List Tree → ℕ → Tree → Scope
scope_at sources k tree = record { sources = sources; file = k; tree = tree; body = None }

-- a source and its number, with the module that they make
pub record IsModuleOf (sources : List Tree) (k : ℕ) (m : Module) : Type 0 where
  pub tree : Tree
  pub at : slice_get sources k ≡ Some tree
  pub is : module_of (scope_at sources k tree) ≡ m

-- module k of a program is that of source k
pub module-from : (sources : List Tree) (k : ℕ) (m : Module) →
    slice_get (program_of sources).modules k ≡ Some m → IsModuleOf sources k m
module-from sources k m at =
    let mapped = map-from module_of k (modules sources) m at in
    let source = numbered-from (scope_at sources) 0 k sources mapped.item mapped.at in
    let number : 0 + k ≡ k = omega arith in
    record {
      tree = source.item;
      at = source.at;
      is = ap (λ n. module_of (scope_at sources n source.item)) (sym number) ∙ ap module_of source.is ∙ mapped.is;
    }

-- source k makes module k
pub module-at : (sources : List Tree) (k : ℕ) (tree : Tree) → slice_get sources k ≡ Some tree →
    slice_get (program_of sources).modules k ≡ Some (module_of (scope_at sources k tree))
module-at sources k tree at = go (modules sources) (scope_at sources k tree) here
  where
    number : 0 + k ≡ k
    number = omega arith

    here : slice_get (modules sources) k ≡ Some (scope_at sources k tree)
    here = numbered-at (scope_at sources) 0 k sources tree at ∙ ap (λ n. Some (scope_at sources n tree)) number

    go : (scopes : List Scope) (scope : Scope) → slice_get scopes k ≡ Some scope →
        slice_get (map module_of scopes) k ≡ Some (module_of scope)
    go scopes scope e = slice_get-map module_of scopes k ∙ ap (option_map module_of) e

-- a rule that is kept is kept at each module
pub at_module : (f : Scope → List Fault) (sources : List Tree) (k : ℕ) (tree : Tree) →
    each f (modules sources) ≡ [] → slice_get sources k ≡ Some tree → f (scope_at sources k tree) ≡ []
at_module f sources k tree none at =
    let number : 0 + k ≡ k = omega arith in
    empty-at f (modules sources) k (scope_at sources k tree) none
    (numbered-at (scope_at sources) 0 k sources tree at ∙ ap (λ n. Some (scope_at sources n tree)) number)

-- and at each declaration
pub at_declaration : (f : Scope → Decl → List Fault) (sources : List Tree) (k : ℕ) (tree : Tree) (j : ℕ) (d : Decl) →
    in_declarations f sources ≡ [] → slice_get sources k ≡ Some tree → slice_get tree.decls j ≡ Some d →
    f (scope_at sources k tree) d ≡ []
at_declaration f sources k tree j d none at at_d =
    empty-at (f (scope_at sources k tree)) tree.decls j d
    (at_module (λ scope. each (f scope) scope.tree.decls) sources k tree none at) at_d

-- a declaration of a mode in a source
pub record ModeIn (sources : List Tree) (k : ℕ) (tree : Tree) (j : ℕ) (period : Time) (acts : List Act) : Type 0 where
  pub start : Bool
  pub name : Id
  pub source : slice_get sources k ≡ Some tree
  pub declared : slice_get tree.decls j ≡ Some (decl.Mode start name period acts)

-- a rule on activities that is kept is kept at each
pub at_activity : (f : Scope → ℕ → Act → List Fault) (sources : List Tree) (k : ℕ) (tree : Tree)
    (j : ℕ) (period : Time) (acts : List Act) (n : ℕ) (activity : Act) →
    in_activities f sources ≡ [] → ModeIn sources k tree j period acts → slice_get acts n ≡ Some activity →
    f (scope_at sources k tree) (time_us period) activity ≡ []
at_activity f sources k tree j period acts n activity none mode at =
    empty-at (f (scope_at sources k tree) (time_us period)) acts n activity
    (at_declaration _ sources k tree j (decl.Mode mode.start mode.name period acts) none mode.source mode.declared) at

-- a rule on lists of activities that is kept is kept at each mode
pub at_mode : (f : Scope → ℕ → List Act → List Fault) (sources : List Tree) (k : ℕ) (tree : Tree)
    (j : ℕ) (period : Time) (acts : List Act) →
    in_modes f sources ≡ [] → ModeIn sources k tree j period acts →
    f (scope_at sources k tree) (time_us period) acts ≡ []
at_mode f sources k tree j period acts none mode =
    at_declaration _ sources k tree j (decl.Mode mode.start mode.name period acts) none mode.source mode.declared
