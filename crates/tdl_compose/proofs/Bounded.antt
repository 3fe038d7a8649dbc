-- What the rules that are kept give the declarations of a module.
use Rattle.std.proofs.Common.{◌≡◌, ℕ, ◌≤◌, List, [], map, Bool, true, Option, Some, None, length, refl, ap, sym, ◌∙◌, arith}
use Rattle.std.specs.Prelude.{slice_get, not, ◌&&◌, nat_le, is_none, option_map, unwrap_or}
use Rattle.std.proofs.lemmas.Bool.{and_parts, and_from, leb-true, not-false}
use Rattle.tdl_base.specs.declared.limits.TheConstants.{LEAST_US, PERIOD_US, WORST_CASE_US, OCCURRENCES}
use Rattle.tdl_tree.specs.declared.activities.Act.{Act}
use Rattle.tdl_tree.specs.declared.activities.Slots.{Slots}
use Rattle.tdl_tree.specs.declared.declarations.Decl.{Decl}
use Rattle.tdl_tree.specs.declared.declarations.Decl.TheVariants as decl
use Rattle.tdl_tree.specs.declared.declarations.Tree.{Tree}
use Rattle.tdl_tree.specs.declared.names.Id.{Id}
use Rattle.tdl_tree.specs.declared.names.Time.{Time}
use Rattle.tdl_rules.specs.declared.fault.Fault.{Fault}
use Rattle.tdl_rules.specs.Lists.{each}
use Rattle.tdl_rules.specs.Naming.{Scope}
use Rattle.tdl_tree.specs.declared.statements.StmtTree.TheViews.{out-StmtTree}
use Rattle.tdl_rules.specs.Parts.{at_statements, modules, broken, spot_of_activity, spot_of_number, fault_if, in_declarations}
use Rattle.tdl_rules.specs.Times.{time_us, in_ten_seconds, divides, bad_range, occurs}
use Rattle.tdl_rules.specs.ModeRules.{c9_declaration, c10_activity, c11_activity, bad_at, is_worst_case, c17_declaration}
use Rattle.tdl_rules.specs.BoundRules.{c18_statement, count_of, counted}
use Rattle.tdl_program.specs.Ordinals.{declarations_of}
use Rattle.tdl_program.proofs.Emptiness.{empty-parts}
use Rattle.tdl_program.proofs.Faultless.{Faultless, faultless}
use Rattle.tdl_program.proofs.Meant.{no-fault}
use Rattle.tdl_program.proofs.Scopes.{ModeIn, scope_at, at_declaration, at_activity}
use Rattle.tdl_resolve.specs.Standing.{Stands}
use Rattle.tdl_resolve.proofs.Kept.{stands, few_ports_of}
use Rattle.tdl_resolve.proofs.Turns.{turns-kept}
use Rattle.tdl_compose.specs.Bounds.{KeepsBounds, IsFaultless}
use Rattle.tdl_compose.proofs.Weights.{counted_once, within_limit, weight-at, no_more, weight}

-- ---- where a module stands

-- its scope stands in the sources
pub scope_stands : (sources : List Tree) (scope : Scope) → IsFaultless sources scope → Stands sources scope
scope_stands sources scope home = stands sources home.place scope home.is

-- and its declarations are those of its source
pub own_declarations : (sources : List Tree) (scope : Scope) → IsFaultless sources scope →
    declarations_of sources scope.file ≡ scope.tree.decls
own_declarations sources scope home =
    ap (λ o. unwrap_or (option_map (λ (tree : Tree). tree.decls) o) []) (scope_stands sources scope home).there

-- ---- its modes

-- no range is bad
none_bad : (k : ℕ) (o : Option Slots) → bad_at k o ≡ [] → is_none o ≡ true
none_bad k None e = refl
none_bad k (Some range) e = absurd (cc e)

module _ (sources : List Tree) (scope : Scope) (home : IsFaultless sources scope) (j : ℕ) (start : Bool) (name : Id)
    (period : Time) (acts : List Act)
    (declared : slice_get scope.tree.decls j ≡ Some (decl.Mode start name period acts)) where
  -- the rules that are kept
  abbrev good : Faultless sources
  good = faultless sources home.kept

  -- the mode in its source
  abbrev in_source : ModeIn sources scope.file scope.tree j period acts
  in_source =
      record { start = start; name = name; source = (scope_stands sources scope home).there; declared = declared }

  -- its period is lawful
  lawful_period : in_ten_seconds (time_us period) ≡ true
  lawful_period =
      not-false (in_ten_seconds (time_us period)) (no-fault _ _
      (at_declaration c9_declaration sources scope.file scope.tree j (decl.Mode start name period acts) good.periods
      (scope_stands sources scope home).there declared))

  -- so it is at most ten seconds
  short_period : time_us period ≤ PERIOD_US
  short_period =
      leb-true (time_us period) PERIOD_US
      (and_parts (nat_le LEAST_US (time_us period)) (nat_le (time_us period) PERIOD_US) lawful_period).1

  -- each of its activities occurs
  all_occur : (n : ℕ) (activity : Act) → slice_get acts n ≡ Some activity → occurs (time_us period) activity ≡ true
  all_occur n activity at =
      let frequency = not-false (divides activity.freq.value (time_us period)) (no-fault _ _
      (at_activity c10_activity sources scope.file scope.tree j period acts n activity good.frequencies in_source
      at)) in
      let ranges = none_bad scope.file (bad_range activity.freq.value 0 activity.slots)
      (at_activity c11_activity sources scope.file scope.tree j period acts n activity good.ranges in_source at) in
      and_from (in_ten_seconds (time_us period) && divides activity.freq.value (time_us period))
      (is_none (bad_range activity.freq.value 0 activity.slots))
      (and_from (in_ten_seconds (time_us period)) (divides activity.freq.value (time_us period)) lawful_period
      frequency)
      ranges

  -- an activity as C21 counts it
  abbrev as_counted : Act → Fault × ℕ
  as_counted activity =
      (broken 21 scope.file (spot_of_activity activity), count_of (time_us period) activity activity.what)

  -- so they are few
  few_activities : length acts ≤ OCCURRENCES
  few_activities =
      let of_module : Scope → List (Fault × ℕ) = λ scope. each (counted scope) scope.tree.decls in
      let limit : weight (each of_module (modules sources)) ≤ OCCURRENCES =
      within_limit OCCURRENCES (each of_module (modules sources)) good.occurrences in
      let own : weight (each (counted scope) scope.tree.decls) ≤ weight (each of_module (modules sources)) =
      weight-at of_module (modules sources) home.place scope home.is in
      let mode : weight (map as_counted acts) ≤ weight (each (counted scope) scope.tree.decls) =
      weight-at (counted scope) scope.tree.decls j (decl.Mode start name period acts) declared in
      let each_one : length acts ≤ weight (map as_counted acts) =
      no_more as_counted acts
      (λ n activity at. counted_once (time_us period) activity activity.what (all_occur n activity at)) in
      omega (arith, limit, own, mode, each_one)

-- ---- its declarations

-- a worst case is at most ten seconds
short_worst : (sources : List Tree) (scope : Scope) (home : IsFaultless sources scope)
    (j : ℕ) (worst : Time) (d : Decl) →
    slice_get scope.tree.decls j ≡ Some d →
    c17_declaration (scope_at sources scope.file scope.tree) d
    ≡ fault_if (not (is_worst_case (time_us worst))) (broken 17 scope.file (spot_of_number worst.number)) →
    time_us worst ≤ WORST_CASE_US
short_worst sources scope home j worst d declared is =
    let kept = at_declaration c17_declaration sources scope.file scope.tree j d
    (empty-parts (in_declarations c17_declaration sources) _ (faultless sources home.kept).worsts).0
    (scope_stands sources scope home).there declared in
    let lawful = not-false (is_worst_case (time_us worst)) (no-fault _ _ (sym is ∙ kept)) in
    leb-true (time_us worst) WORST_CASE_US
    (and_parts (nat_le LEAST_US (time_us worst)) (nat_le (time_us worst) WORST_CASE_US) lawful).1

-- each declaration keeps its bounds
pub keeps_bounds : (sources : List Tree) (scope : Scope) → IsFaultless sources scope → (j : ℕ) (d : Decl) →
    slice_get scope.tree.decls j ≡ Some d → KeepsBounds d
keeps_bounds sources scope home j (decl.Const public kind name value) declared = tt
keeps_bounds sources scope home j (decl.Sensor kind name) declared = tt
keeps_bounds sources scope home j (decl.Actuator kind name initial) declared = tt
keeps_bounds sources scope home j (decl.Task public name worst ports body) declared = (
  short_worst sources scope home j worst (decl.Task public name worst ports body) declared refl,
  few_ports_of sources scope.file j scope.tree (decl.Task public name worst ports body) home.kept
      (scope_stands sources scope home).there declared,
  turns-kept (record (scope_at sources scope.file scope.tree) { body = Some ports }) body
      (at_declaration (at_statements (λ scope statement. c18_statement scope (out-StmtTree statement))) sources scope.file
      scope.tree j (decl.Task public name worst ports body) (faultless sources home.kept).turns
      (scope_stands sources scope home).there declared),
)
keeps_bounds sources scope home j (decl.Mode start name period acts) declared = (
  short_period sources scope home j start name period acts declared,
  few_activities sources scope home j start name period acts declared,
)
