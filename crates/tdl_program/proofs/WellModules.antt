-- The program of sources that break no rule is well-formed.
use Rattle.std.proofs.Common.{◌≡◌, ℕ, ◌≤◌, ◌<◌, List, [], ◌∷◌, map, length, Bool, true, false, Option, Some, None, refl, ap, sym, ◌∙◌, subst, arith}
use Rattle.std.specs.Prelude.{slice_get, not, ◌==◌, nat_le, option_map, unwrap_or, is_some}
use Rattle.std.proofs.lemmas.Bool.{not-false, and_parts, leb-true, eqb-true}
use Rattle.std.proofs.lemmas.Option.{slice_get_within}
use Rattle.tdl_base.specs.declared.limits.TheConstants.{LEAST_US, WORST_CASE_US}
use Rattle.tdl_base.specs.declared.numbers.ModuleId.{ModuleId}
use Rattle.tdl_base.proofs.Finding.{any-passing}
use Rattle.tdl_base.proofs.ListPlaces.{In}
use Rattle.tdl_mode.specs.declared.program.Module.{Module}
use Rattle.tdl_mode.specs.declared.program.Mode.{Mode}
use Rattle.tdl_mode.specs.declared.program.Task.{Task}
use Rattle.tdl_mode.specs.Imports.{is_among}
use Rattle.tdl_mode.specs.WellFormed.{WellMode, WellModule, WellFormed}
use Rattle.tdl_tree.specs.declared.declarations.Decl.{Decl}
use Rattle.tdl_tree.specs.declared.declarations.Decl.TheVariants as decl
use Rattle.tdl_tree.specs.declared.declarations.Tree.{Tree}
use Rattle.tdl_tree.specs.declared.names.Id.{Id}
use Rattle.tdl_rules.specs.Lists.{each, first_place}
use Rattle.tdl_rules.specs.Naming.{Scope, exporter}
use Rattle.tdl_rules.specs.Times.{time_us}
use Rattle.tdl_rules.specs.NameRules.{c2_import}
use Rattle.tdl_rules.specs.ModeRules.{start_of, starts_broken, is_worst_case, c17_declaration}
use Rattle.tdl_rules.specs.Parts.{in_declarations}
use Rattle.tdl_rules.specs.Faults.{faults}
use Rattle.tdl_program.specs.Ordinals.{ordinal, is_mode}
use Rattle.tdl_program.specs.Programs.{program_of, module_of, is_start, import_of, modes_in}
use Rattle.tdl_program.proofs.Emptiness.{empty-parts, empty-at, map-from}
use Rattle.tdl_program.proofs.Faultless.{Faultless, faultless}
use Rattle.tdl_program.proofs.JoinedPlaces.{each-from}
use Rattle.tdl_program.proofs.Looking.{FirstAt, first_place-at, first_place-some, some-is, exporter-at}
use Rattle.tdl_program.proofs.Meant.{no-fault}
use Rattle.tdl_program.proofs.Scopes.{scope_at, module-from, at_module, at_declaration}
use Rattle.tdl_program.proofs.Singles.{task-from, task_of, mode-from, mode_of, mode-at}
use Rattle.tdl_program.proofs.WellModes.{well_mode}

-- ---- the start mode

-- a declaration of a start mode
record HasStart (decls : List Decl) : Type 0 where
  place : ℕ
  item : Decl
  at : slice_get decls place ≡ Some item
  start : is_start item ≡ true

-- where a module's start modes break no rule, it has one
has_start : (scope : Scope) (decls : List Decl) → starts_broken scope (each start_of decls) ≡ [] → HasStart decls
has_start scope decls none = by_names (each start_of decls) refl none
  where
    by_item : (place : ℕ) (d : Decl) (name : Id) (q : ℕ) → slice_get decls place ≡ Some d →
        slice_get (start_of d) q ≡ Some name → HasStart decls
    by_item place (decl.Mode true name' period acts) name q at own =
        record { place = place; item = decl.Mode true name' period acts; at = at; start = refl }
    by_item place (decl.Mode false name' period acts) name q at own = absurd (cc own)
    by_item place (decl.Const public kind name' value) name q at own = absurd (cc own)
    by_item place (decl.Sensor kind name') name q at own = absurd (cc own)
    by_item place (decl.Actuator kind name' initial) name q at own = absurd (cc own)
    by_item place (decl.Task public name' worst ports body) name q at own = absurd (cc own)

    by_names : (names : List Id) → each start_of decls ≡ names → starts_broken scope names ≡ [] → HasStart decls
    by_names [] e none = absurd (cc none)
    by_names (name ∷ more) e none =
        let r = each-from start_of decls 0 name (ap (λ xs. slice_get xs 0) e) in
        by_item r.place r.item name r.own.place r.at r.own.at

-- a declaration of a start mode is one of a mode
start-mode : (scope : Scope) (decls : List Decl) (place : ℕ) (d : Decl) → slice_get decls place ≡ Some d →
    is_start d ≡ true → ordinal is_mode decls place < length (each (modes_in scope) decls)
start-mode scope decls place (decl.Mode start name period acts) at e =
    slice_get_within (each (modes_in scope) decls) (ordinal is_mode decls place) (mode_of scope name period acts)
    (mode-at scope decls place start name period acts at)
start-mode scope decls place (decl.Const public kind name value) at e = absurd (cc e)
start-mode scope decls place (decl.Sensor kind name) at e = absurd (cc e)
start-mode scope decls place (decl.Actuator kind name initial) at e = absurd (cc e)
start-mode scope decls place (decl.Task public name worst ports body) at e = absurd (cc e)

-- so the start mode's number is below that of all modes
start-within : (scope : Scope) (decls : List Decl) → HasStart decls →
    unwrap_or (option_map (ordinal is_mode decls) (first_place is_start decls)) 0 < length (each (modes_in scope) decls)
start-within scope decls h =
    let f = some-is (first_place is_start decls) (first_place-some is_start decls h.place h.item h.at h.start) in
    let first = first_place-at is_start decls f.0 f.1 in
    subst (λ n. n < length (each (modes_in scope) decls))
    (sym (ap (λ o. unwrap_or (option_map (ordinal is_mode decls) o) 0) f.1))
    (start-mode scope decls f.0 first.item first.at first.holds)

-- ---- a module

module _ (sources : List Tree) (good : Faultless sources) (k : ℕ) (tree : Tree)
    (source : slice_get sources k ≡ Some tree) where
  abbrev scope : Scope
  scope = scope_at sources k tree

  -- each of its modes is well-formed
  modes-well : (n : ℕ) (mode : Mode) → slice_get (each (modes_in scope) tree.decls) n ≡ Some mode →
      WellMode (program_of sources) k (module_of scope) n mode
  modes-well n mode at =
      let f = mode-from scope tree.decls n mode at in
      subst (WellMode (program_of sources) k (module_of scope) n) f.is
      (well_mode sources good k tree source f.place f.start f.name f.period f.acts f.at n f.number)

  -- each job takes time
  worst-above : (t : ℕ) (task : Task) → slice_get (module_of scope).tasks t ≡ Some task → 0 < task.worst.0
  worst-above t task at =
      let f = task-from scope tree.decls t task at in
      let lawful = not-false (is_worst_case (time_us f.worst)) (no-fault _ _
      (at_declaration c17_declaration sources k tree f.place (decl.Task f.public f.name f.worst f.ports f.body)
      (empty-parts (in_declarations c17_declaration sources) _ good.worsts).0 source f.at)) in
      let least : LEAST_US ≤ time_us f.worst =
      leb-true LEAST_US (time_us f.worst)
      (and_parts (nat_le LEAST_US (time_us f.worst)) (nat_le (time_us f.worst) WORST_CASE_US) lawful).0 in
      let above : 0 < time_us f.worst = omega (arith, least) in
      subst (λ (task : Task). 0 < task.worst.0) f.is above

  -- what an import names is an earlier source
  import-below : (place : ℕ) (id : Id) → slice_get tree.imports place ≡ Some id → (import_of scope id).0 < k
  import-below place id at =
      let there = not-false (is_some (exporter scope id.text)) (no-fault _ _
      (empty-at (c2_import scope) tree.imports place id
      (at_module (λ scope. each (c2_import scope) scope.tree.imports) sources k tree good.imports source) at)) in
      let e = some-is (exporter scope id.text) there in
      subst (λ n. n < k) (sym (ap (λ o. unwrap_or (option_map (λ (source : ℕ × Tree). source.0) o) 0) e.1))
      (exporter-at scope id.text e.0.0 e.0.1 e.1).below

  -- so what it imports has a lower number
  imports-below : (i : ℕ) → is_among i (module_of scope).imports ≡ true → i < k
  imports-below i among =
      let p = any-passing (λ (id : ModuleId). id.0 == i) (map (import_of scope) tree.imports) among in
      let m = map-from (import_of scope) p.place tree.imports p.item p.at in
      let number : p.item.0 ≡ i = eqb-true p.item.0 i p.passes in
      let below = import-below p.place m.item m.at in
      subst (λ n. n < k) (ap (λ (id : ModuleId). id.0) m.is ∙ number) below

  -- it is well-formed
  pub well_module : WellModule (program_of sources) k (module_of scope)
  well_module = record {
    start = start-within scope tree.decls (has_start scope tree.decls
        (at_module (λ scope. starts_broken scope (each start_of scope.tree.decls)) sources k tree good.starts source));
    modes = modes-well;
    worsts = worst-above;
    imports = imports-below;
  }

-- ---- the program

-- sources that break no rule say a well-formed program
pub well_formed : (sources : List Tree) → faults sources ≡ [] → WellFormed (program_of sources)
well_formed sources none = record {
  modules = λ k m at.
      let f = module-from sources k m at in
      subst (WellModule (program_of sources) k) f.is
      (well_module sources (faultless sources none) k f.tree f.at);
}
