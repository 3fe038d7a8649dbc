-- The program of sources that break no rule has names that differ, and imports each module once.
use Rattle.std.proofs.Common.{◌≡◌, ℕ, ◌≤◌, List, [], ◌++◌, map, Bool, true, false, Option, Some, None, unwrap_or, refl, ap, sym, ◌∙◌, subst, arith}
use Rattle.std.specs.Prelude.{slice_get, if◌then◌else◌, option_map, bytes_eq, nat_lt, is_some}
use Rattle.std.proofs.lemmas.Bool.{ltb-false, not-false}
use Rattle.std.proofs.lemmas.Option.{same_Some, slice_get-map, some_pair_parts}
use Rattle.std.proofs.lemmas.Slice.Eq.{bytes_eq-Decides}
use Rattle.tdl_base.specs.declared.numbers.ModuleId.{ModuleId}
use Rattle.tdl_mode.specs.declared.program.Module.{Module}
use Rattle.tdl_mode.specs.declared.program.Task.{Task}
use Rattle.tdl_tree.specs.declared.declarations.Decl.TheVariants as decl
use Rattle.tdl_tree.specs.declared.declarations.PortDecl.{PortDecl}
use Rattle.tdl_tree.specs.declared.declarations.Tree.{Tree}
use Rattle.tdl_tree.specs.declared.names.Id.{Id}
use Rattle.tdl_rules.specs.Lists.{each, place_of, with_number}
use Rattle.tdl_rules.specs.Naming.{Scope, spot_of, space, name_of, exporter, if_below}
use Rattle.tdl_rules.specs.Parts.{broken, in_declarations}
use Rattle.tdl_rules.specs.NameRules.{later_names, c1_module, c1_modules, c1_spaces, c1_ports, c2_import}
use Rattle.tdl_rules.specs.Faults.{faults}
use Rattle.tdl_program.specs.Programs.{program_of, module_of, import_of}
use Rattle.tdl_program.proofs.Emptiness.{empty-parts, empty-map, empty-at, map-from}
use Rattle.tdl_program.proofs.Faultless.{faultless}
use Rattle.tdl_program.proofs.Looking.{first_place-at, first_place-some, some-is, with_number-at}
use Rattle.tdl_program.proofs.Meant.{no-fault}
use Rattle.tdl_program.proofs.Scopes.{scope_at, module-from, at_module, at_declaration}
use Rattle.tdl_program.proofs.Singles.{task-from}
use Rattle.tdl_kept.specs.Names.{Differ, port_names, ModuleNames, KeepsNames}
use Rattle.tdl_kept.proofs.Differing.{first-least, TextsDiffer, texts-differ, texts-behind, texts-before}
use Rattle.tdl_kept.proofs.PartNames.{parts-differ, ports-differ}

-- ---- sources by their names

-- the names of sources
abbrev names : List Tree → List (List ℕ)
names sources = map (λ (t : Tree). t.name.text) sources

-- the name of a source, by its place
name-at : (sources : List Tree) (k : ℕ) (tree : Tree) → slice_get sources k ≡ Some tree →
    slice_get (names sources) k ≡ Some tree.name.text
name-at sources k tree at =
    slice_get-map (λ (t : Tree). t.name.text) sources k ∙ ap (option_map (λ (t : Tree). t.name.text)) at

-- a name is its own text
itself : (x : List ℕ) → bytes_eq x x ≡ true
itself x = (bytes_eq-Decides x x).1 refl

-- an item with its number is looked up by that number
number-of : {A : Type 0} (xs : List A) (o : Option ℕ) (k : ℕ) (x : A) → with_number xs o ≡ Some (k, x) → o ≡ Some k
number-of xs None k x e = absurd (cc e)
number-of {A = A} xs (Some j) k x e = by_item (slice_get xs j) e
  where
    by_item : (o : Option A) → option_map {U = ℕ × A} (λ y. (j, y)) o ≡ Some (k, x) → Some j ≡ Some k
    by_item None e = absurd (cc e)
    by_item (Some y) e = ap (λ n. Some n) (some_pair_parts j k y x e).0

-- what is below a number is what was found
if_below-some : (n : ℕ) (o : Option (ℕ × Tree)) (s : ℕ × Tree) → if_below n o ≡ Some s → o ≡ Some s
if_below-some n None s e = absurd (cc e)
if_below-some n (Some source) s e = by_test (nat_lt source.0 n) e
  where
    by_test : (t : Bool) → (if t then Some source else None) ≡ Some s → Some source ≡ Some s
    by_test true e = e
    by_test false e = absurd (cc e)

-- the module that an import names has that name
exporter-named : (scope : Scope) (x : List ℕ) (m : ℕ) (tree : Tree) → exporter scope x ≡ Some (m, tree) →
    (x ≡ tree.name.text) × (slice_get scope.sources m ≡ Some tree)
exporter-named scope x m tree e =
    let found = if_below-some scope.file (with_number scope.sources (place_of x (names scope.sources))) (m, tree) e in
    let at = with_number-at scope.sources (place_of x (names scope.sources)) m tree found in
    let first = first_place-at (bytes_eq x) (names scope.sources) m
    (number-of scope.sources (place_of x (names scope.sources)) m tree found) in (
      (bytes_eq-Decides x first.item).0 first.holds
          ∙ same_Some first.item tree.name.text (sym first.at ∙ name-at scope.sources m tree at),
      at,
    )

-- ---- modules

-- the first source of a module's name is its own, where no earlier one has the name
own_source : (sources : List Tree) (k : ℕ) (tree : Tree) → slice_get sources k ≡ Some tree →
    c1_module (scope_at sources k tree) ≡ [] → place_of tree.name.text (names sources) ≡ Some k
own_source sources k tree at none =
    let x : List ℕ = tree.name.text in
    let found = some-is (place_of x (names sources))
    (first_place-some (bytes_eq x) (names sources) k x (name-at sources k tree at) (itself x)) in
    let least : found.0 ≤ k =
    first-least (bytes_eq x) (names sources) found.0 k x found.1 (name-at sources k tree at) (itself x) in
    let first = first_place-at (bytes_eq x) (names sources) found.0 found.1 in
    let source = map-from (λ (t : Tree). t.name.text) found.0 sources first.item first.at in
    let numbered : with_number sources (place_of x (names sources)) ≡ Some (found.0, source.item) =
    ap (with_number sources) found.1 ∙ ap (option_map (λ (t : Tree). (found.0, t))) source.at in
    let none_below : is_some (exporter (scope_at sources k tree) x) ≡ false =
    no-fault (is_some (exporter (scope_at sources k tree) x)) _ none in
    let last : k ≤ found.0 =
    ltb-false found.0 k (by_test found.0 (nat_lt found.0 k) refl source.item
    (sym (ap (λ o. is_some (if_below k o)) numbered) ∙ none_below)) in
    let same : found.0 ≡ k = omega (arith, least, last) in
    found.1 ∙ ap (λ n. Some n) same
  where
    by_test : (j : ℕ) (t : Bool) → nat_lt j k ≡ t → (tree : Tree) →
        is_some {T = ℕ × Tree} (if t then Some (j, tree) else None) ≡ false → nat_lt j k ≡ false
    by_test j true is tree e = absurd (cc e)
    by_test j false is tree e = is

module _ (sources : List Tree) (none : faults sources ≡ []) where
  -- the parts of the rule on names
  modules_kept : c1_modules sources ≡ []
  modules_kept =
      (empty-parts (c1_modules sources) (c1_spaces sources)
      (empty-parts (c1_modules sources ++ c1_spaces sources) (in_declarations c1_ports sources)
      (faultless sources none).spaces).0).0

  spaces_kept : c1_spaces sources ≡ []
  spaces_kept =
      (empty-parts (c1_modules sources) (c1_spaces sources)
      (empty-parts (c1_modules sources ++ c1_spaces sources) (in_declarations c1_ports sources)
      (faultless sources none).spaces).0).1

  ports_kept : in_declarations c1_ports sources ≡ []
  ports_kept =
      (empty-parts (c1_modules sources ++ c1_spaces sources) (in_declarations c1_ports sources)
      (faultless sources none).spaces).1

  -- the names of modules differ
  names-differ : Differ (map (λ (m : Module). m.name) (program_of sources).modules)
  names-differ p q x at at' =
      let a = map-from (λ (m : Module). m.name) p (program_of sources).modules x at in
      let b = map-from (λ (m : Module). m.name) q (program_of sources).modules x at' in
      let f = module-from sources p a.item a.at in
      let g = module-from sources q b.item b.at in
      let same : f.tree.name.text ≡ g.tree.name.text =
      ap (λ (m : Module). m.name) f.is ∙ a.is ∙ sym b.is ∙ sym (ap (λ (m : Module). m.name) g.is) in
      same_Some p q (sym (own_source sources p f.tree f.at (at_module c1_module sources p f.tree modules_kept f.at))
      ∙ ap (λ (text : List ℕ). place_of text (names sources)) same
      ∙ own_source sources q g.tree g.at (at_module c1_module sources q g.tree modules_kept g.at))

  -- ---- one module

  module _ (k : ℕ) (tree : Tree) (source : slice_get sources k ≡ Some tree) where
    -- where it stands
    abbrev home : Scope
    home = scope_at sources k tree

    -- no two names of its space have one text
    space-differ : TextsDiffer (space tree)
    space-differ =
        texts-differ (space tree) (empty-map (λ (id : Id). broken 1 k (spot_of id)) (later_names (space tree))
        (at_module (λ scope. map (λ id. broken 1 scope.file (spot_of id)) (later_names
        (space scope.tree))) sources k tree
        spaces_kept source))

    -- the names of a task's ports differ
    task-ports : (n : ℕ) (task : Task) → slice_get (module_of home).tasks n ≡ Some task → Differ (port_names task)
    task-ports n task at =
        let t = task-from home tree.decls n task at in
        subst (λ (task : Task). Differ (port_names task)) t.is
        (ports-differ t.ports (texts-differ (map (λ (port : PortDecl). port.name) t.ports)
        (empty-map (λ (id : Id). broken 1 k (spot_of id)) (later_names (map (λ (port : PortDecl). port.name) t.ports))
        (at_declaration c1_ports sources k tree t.place (decl.Task t.public t.name t.worst t.ports t.body) ports_kept
        source t.at))))

    -- an import names an earlier module
    imported : (p : ℕ) (id : Id) → slice_get tree.imports p ≡ Some id →
        (s : ℕ × Tree) × (exporter home id.text ≡ Some s)
    imported p id at =
        some-is (exporter home id.text) (not-false (is_some (exporter home id.text)) (no-fault _ _
        (empty-at (c2_import home) tree.imports p id
        (at_module (λ scope. each (c2_import scope) scope.tree.imports) sources k tree (faultless sources none).imports
        source) at)))

    -- no module is imported twice
    imports-differ : Differ (module_of home).imports
    imports-differ p q x at at' =
        let a = map-from (import_of home) p tree.imports x at in
        let b = map-from (import_of home) q tree.imports x at' in
        let s = imported p a.item a.at in
        let t = imported q b.item b.at in
        let number = λ (o : Option (ℕ × Tree)). unwrap_or (option_map (λ (source : ℕ × Tree). source.0) o) 0 in
        let same : s.0.0 ≡ t.0.0 =
        sym (ap number s.1) ∙ ap (λ (m : ModuleId). m.0) (a.is ∙ sym b.is) ∙ ap number t.1 in
        let left = exporter-named home a.item.text s.0.0 s.0.1 s.1 in
        let right = exporter-named home b.item.text t.0.0 t.0.1 t.1 in
        let tree-same : s.0.1 ≡ t.0.1 =
        same_Some s.0.1 t.0.1 (sym left.1 ∙ ap (λ n. slice_get sources n) same ∙ right.1) in
        texts-before tree.imports (map name_of tree.decls) space-differ p q a.item b.item a.at b.at
        (left.0 ∙ ap (λ (t : Tree). t.name.text) tree-same ∙ sym right.0)

    -- the names of the module
    module_names : ModuleNames (module_of home)
    module_names = record {
      parts = parts-differ home (texts-behind tree.imports (map name_of tree.decls) space-differ);
      ports = task-ports;
      imports = imports-differ;
    }

-- sources that break no rule say a program whose names differ
pub keeps_names : (sources : List Tree) → faults sources ≡ [] → KeepsNames (program_of sources)
keeps_names sources none = record {
  names = names-differ sources none;
  modules = λ k m at.
      let f = module-from sources k m at in
      subst ModuleNames f.is (module_names sources none k f.tree f.at);
}
