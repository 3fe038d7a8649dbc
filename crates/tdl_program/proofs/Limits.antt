-- The entries of a mode stand in order of its activities, and a module's counts keep the limits.
use Rattle.std.proofs.Common.{◌≡◌, inl, inr, ℕ, zero, suc, ◌+◌, ◌<◌, ◌≤◌, List, [], ◌∷◌, ◌++◌, length, Option, Some, None, refl, ap, sym, subst, arith}
use Rattle.std.specs.Prelude.{slice_get}
use Rattle.std.proofs.lemmas.List.{length-append}
use Rattle.tdl_base.specs.Lists.{numbered, joined}
use Rattle.tdl_base.specs.declared.limits.TheConstants.{ACTUATORS, CONSTANTS, MODES, SENSORS, TASKS}
use Rattle.tdl_mode.specs.declared.program.Mode.{Mode}
use Rattle.tdl_mode.specs.declared.program.Invocation.{Invocation}
use Rattle.tdl_mode.specs.declared.program.Update.{Update}
use Rattle.tdl_mode.specs.declared.program.Switch.{Switch}
use Rattle.tdl_tree.specs.declared.activities.Act.{Act}
use Rattle.tdl_tree.specs.declared.activities.ActKind.{ActKind}
use Rattle.tdl_tree.specs.declared.activities.ActKind.TheVariants as act
use Rattle.tdl_tree.specs.declared.declarations.Decl.{Decl}
use Rattle.tdl_tree.specs.declared.declarations.Decl.TheVariants as decl
use Rattle.tdl_tree.specs.declared.declarations.Tree.{Tree}
use Rattle.tdl_tree.specs.declared.names.Id.{Id}
use Rattle.tdl_rules.specs.Lists.{each}
use Rattle.tdl_rules.specs.Naming.{Scope}
use Rattle.tdl_rules.specs.Times.{time_us, lets, times}
use Rattle.tdl_rules.specs.BoundRules.{passing, past, task_names, mode_names, constant_names, sensor_names, actuator_names, c21_module}
use Rattle.tdl_rules.specs.Faults.{faults}
use Rattle.tdl_program.specs.Activities.{invocation_over, invocations_in, invocations_of, update_at, updates_in, updates_of, switch_at, switches_in, switches_of}
use Rattle.tdl_program.specs.Programs.{program_of, module_of, constants_in, sensors_in, actuators_in, tasks_in, modes_in}
use Rattle.tdl_program.specs.KeepsLimits.{InOrder, KeepsLimits, AllKeepLimits}
use Rattle.tdl_program.proofs.Emptiness.{empty-parts, map-from}
use Rattle.tdl_program.proofs.Faultless.{Faultless, faultless}
use Rattle.tdl_program.proofs.JoinedPlaces.{in-parts, joined-from}
use Rattle.tdl_program.proofs.Scopes.{scope_at, module-from, at_module}
use Rattle.tdl_program.proofs.Singles.{mode-from}

-- ---- order

module _ {A B : Type 0} (f : ℕ → A → List B) (number : B → ℕ)
    (own : (n : ℕ) (x : A) (p : ℕ) (b : B) → slice_get (f n x) p ≡ Some b → number b ≡ n) where
  -- the numbers of a list do not fall
  abbrev Rises : List B → Type 0
  Rises zs = (q r : ℕ) (a b : B) → q < r → slice_get zs q ≡ Some a → slice_get zs r ≡ Some b → number a ≤ number b

  -- they are at least k
  abbrev AtLeast : ℕ → List B → Type 0
  AtLeast k zs = (p : ℕ) (b : B) → slice_get zs p ≡ Some b → k ≤ number b

  -- what is made from number k on has at least that number
  joined-least : (k : ℕ) (xs : List A) → AtLeast k (joined (numbered k f xs))
  joined-least k xs p b at =
      let m = joined-from f k xs p b at in
      let is : number b ≡ k + m.place = own (k + m.place) m.item m.own.place b m.own.at in
      omega (arith, is)

  -- items of number k before items that rise from k
  rises-append : (k : ℕ) (ys rest : List B) → ((p : ℕ) (b : B) → slice_get ys p ≡ Some b → number b ≡ k) →
      AtLeast k rest → Rises rest → Rises (ys ++ rest)
  rises-append k [] rest here least rises q r a b lt at at' = rises q r a b lt at at'
  rises-append k (y ∷ ys) rest here least rises q zero a b lt at at' = absurd (omega (arith, lt))
  rises-append k (y ∷ ys) rest here least rises zero (suc r) a b lt at at' =
      let first : number a ≡ k = here 0 a at in
      elim (in-parts b ys rest r at') [
        | inl i ↦ let same : number b ≡ k = here (suc i.place) b i.at in omega (arith, first, same)
        | inr i ↦ let later : k ≤ number b = least i.place b i.at in omega (arith, first, later)
      ]
  rises-append k (y ∷ ys) rest here least rises (suc q) (suc r) a b lt at at' =
      rises-append k ys rest (λ p b at. here (suc p) b at) least rises q r a b (omega (arith, lt)) at at'

  -- the joined lists rise
  joined-rises : (k : ℕ) (xs : List A) → Rises (joined (numbered k f xs))
  joined-rises k [] q r a b lt at at' = absurd (cc at)
  joined-rises k (x ∷ xs) q r a b lt at at' =
      rises-append k (f k x) (joined (numbered (suc k) f xs)) (own k x)
      (λ p b at. let least : suc k ≤ number b = joined-least (suc k) xs p b at in omega (arith, least))
      (joined-rises (suc k) xs) q r a b lt at at'

-- the invocations of an activity have its number
invocation-number : (scope : Scope) (period n : ℕ) (activity : Act) (what : ActKind) (p : ℕ) (i : Invocation) →
    slice_get (invocations_in scope period n activity what) p ≡ Some i → i.act ≡ n
invocation-number scope period n activity (act.Update actuator value) p i at = absurd (cc at)
invocation-number scope period n activity (act.Switch target) p i at = absurd (cc at)
invocation-number scope period n activity (act.Task task args) p i at =
    sym (ap (λ (i : Invocation). i.act)
    (map-from (invocation_over scope n activity task args) p (lets period activity) i at).is)

-- so have its updates
update-number : (scope : Scope) (period n : ℕ) (activity : Act) (what : ActKind) (p : ℕ) (u : Update) →
    slice_get (updates_in scope period n activity what) p ≡ Some u → u.act ≡ n
update-number scope period n activity (act.Task task args) p u at = absurd (cc at)
update-number scope period n activity (act.Switch target) p u at = absurd (cc at)
update-number scope period n activity (act.Update actuator value) p u at =
    sym (ap (λ (u : Update). u.act)
    (map-from (update_at scope n activity actuator value) p (times period activity) u at).is)

-- so have its switches
switch-number : (scope : Scope) (period n : ℕ) (activity : Act) (what : ActKind) (p : ℕ) (w : Switch) →
    slice_get (switches_in scope period n activity what) p ≡ Some w → w.act ≡ n
switch-number scope period n activity (act.Task task args) p w at = absurd (cc at)
switch-number scope period n activity (act.Update actuator value) p w at = absurd (cc at)
switch-number scope period n activity (act.Switch target) p w at =
    sym (ap (λ (w : Switch). w.act)
    (map-from (switch_at scope n activity target) p (times period activity) w at).is)

-- the entries of a mode stand in order of its activities
mode_in_order : (scope : Scope) (decls : List Decl) (n : ℕ) (mode : Mode) →
    slice_get (each (modes_in scope) decls) n ≡ Some mode → InOrder mode
mode_in_order scope decls n mode at =
    let m = mode-from scope decls n mode at in
    let period : ℕ = time_us m.period in
    subst InOrder m.is (record {
      invocations = joined-rises (λ n activity. invocations_in scope period n activity activity.what)
          (λ (i : Invocation). i.act) (λ n activity. invocation-number scope period n activity activity.what) 0 m.acts;
      updates = joined-rises (λ n activity. updates_in scope period n activity activity.what)
          (λ (u : Update). u.act) (λ n activity. update-number scope period n activity activity.what) 0 m.acts;
      switches = joined-rises (λ n activity. switches_in scope period n activity activity.what)
          (λ (w : Switch). w.act) (λ n activity. switch-number scope period n activity activity.what) 0 m.acts;
    })

-- ---- counts

-- where as many are made of each item, as many are made of all
each-length : {A B C : Type 0} (f : A → List B) (g : A → List C) → ((x : A) → length (f x) ≡ length (g x)) →
    (xs : List A) → length (each f xs) ≡ length (each g xs)
each-length f g same [] = refl
each-length f g same (x ∷ xs) =
    let left : length (f x ++ each f xs) ≡ length (f x) + length (each f xs) = length-append (f x) (each f xs) in
    let right : length (g x ++ each g xs) ≡ length (g x) + length (each g xs) = length-append (g x) (each g xs) in
    let here : length (f x) ≡ length (g x) = same x in
    let more : length (each f xs) ≡ length (each g xs) = each-length f g same xs in
    omega (arith, left, right, here, more)

-- a list without an item of number n has at most n
none_past : {A : Type 0} (n : ℕ) (xs : List A) → slice_get xs n ≡ None → length xs ≤ n
none_past n [] e = omega arith
none_past zero (x ∷ xs) e = absurd (cc e)
none_past (suc n) (x ∷ xs) e =
    let rest : length xs ≤ n = none_past n xs e in omega (arith, rest)

-- names that pass no count are at most so many
kept_count : (scope : Scope) (n : ℕ) (names : List Id) → past scope (passing n names) ≡ [] → length names ≤ n
kept_count scope n names none = none_past n names (by_item (passing n names) none)
  where
    by_item : (o : Option Id) → past scope o ≡ [] → o ≡ None
    by_item None e = refl
    by_item (Some id) e = absurd (cc e)

-- one name a task
same_tasks : (scope : Scope) (d : Decl) → length (tasks_in scope d) ≡ length (task_names d)
same_tasks scope (decl.Task public name worst ports body) = refl
same_tasks scope (decl.Const public kind name value) = refl
same_tasks scope (decl.Sensor kind name) = refl
same_tasks scope (decl.Actuator kind name initial) = refl
same_tasks scope (decl.Mode start name period acts) = refl

-- one name a mode
same_modes : (scope : Scope) (d : Decl) → length (modes_in scope d) ≡ length (mode_names d)
same_modes scope (decl.Mode start name period acts) = refl
same_modes scope (decl.Const public kind name value) = refl
same_modes scope (decl.Sensor kind name) = refl
same_modes scope (decl.Actuator kind name initial) = refl
same_modes scope (decl.Task public name worst ports body) = refl

-- one name a constant
same_constants : (d : Decl) → length (constants_in d) ≡ length (constant_names d)
same_constants (decl.Const public kind name value) = refl
same_constants (decl.Sensor kind name) = refl
same_constants (decl.Actuator kind name initial) = refl
same_constants (decl.Task public name worst ports body) = refl
same_constants (decl.Mode start name period acts) = refl

-- one name a sensor
same_sensors : (d : Decl) → length (sensors_in d) ≡ length (sensor_names d)
same_sensors (decl.Sensor kind name) = refl
same_sensors (decl.Const public kind name value) = refl
same_sensors (decl.Actuator kind name initial) = refl
same_sensors (decl.Task public name worst ports body) = refl
same_sensors (decl.Mode start name period acts) = refl

-- one name an actuator
same_actuators : (d : Decl) → length (actuators_in d) ≡ length (actuator_names d)
same_actuators (decl.Actuator kind name initial) = refl
same_actuators (decl.Const public kind name value) = refl
same_actuators (decl.Sensor kind name) = refl
same_actuators (decl.Task public name worst ports body) = refl
same_actuators (decl.Mode start name period acts) = refl

-- parts of which the names are at most so many
at_most : {B : Type 0} (scope : Scope) (n : ℕ) (parts : Decl → List B) (names : Decl → List Id) →
    ((d : Decl) → length (parts d) ≡ length (names d)) → (decls : List Decl) →
    past scope (passing n (each names decls)) ≡ [] → length (each parts decls) ≤ n
at_most scope n parts names same decls none =
    let as_many : length (each parts decls) ≡ length (each names decls) = each-length parts names same decls in
    let few : length (each names decls) ≤ n = kept_count scope n (each names decls) none in
    omega (arith, as_many, few)

-- a module of sources that break no rule keeps the limits
module_keeps : (sources : List Tree) → Faultless sources → (k : ℕ) (tree : Tree) → slice_get sources k ≡ Some tree →
    KeepsLimits (module_of (scope_at sources k tree))
module_keeps sources good k tree source =
    let scope : Scope = scope_at sources k tree in
    let all = at_module c21_module sources k tree good.counts source in
    let a4 = empty-parts (past scope (passing TASKS (each task_names tree.decls))
    ++ past scope (passing MODES (each mode_names tree.decls))
    ++ past scope (passing CONSTANTS (each constant_names tree.decls))
    ++ past scope (passing SENSORS (each sensor_names tree.decls)))
    (past scope (passing ACTUATORS (each actuator_names tree.decls))) all in
    let a3 = empty-parts (past scope (passing TASKS (each task_names tree.decls))
    ++ past scope (passing MODES (each mode_names tree.decls))
    ++ past scope (passing CONSTANTS (each constant_names tree.decls)))
    (past scope (passing SENSORS (each sensor_names tree.decls))) a4.0 in
    let a2 = empty-parts (past scope (passing TASKS (each task_names tree.decls))
    ++ past scope (passing MODES (each mode_names tree.decls)))
    (past scope (passing CONSTANTS (each constant_names tree.decls))) a3.0 in
    let a1 = empty-parts (past scope (passing TASKS (each task_names tree.decls)))
    (past scope (passing MODES (each mode_names tree.decls))) a2.0 in
    record {
      tasks = at_most scope TASKS (tasks_in scope) task_names (same_tasks scope) tree.decls a1.0;
      modes = at_most scope MODES (modes_in scope) mode_names (same_modes scope) tree.decls a1.1;
      constants = at_most scope CONSTANTS constants_in constant_names same_constants tree.decls a2.1;
      sensors = at_most scope SENSORS sensors_in sensor_names same_sensors tree.decls a3.1;
      actuators = at_most scope ACTUATORS actuators_in actuator_names same_actuators tree.decls a4.1;
      order = mode_in_order scope tree.decls;
    }

-- so does each module of their program
pub keeps_limits : (sources : List Tree) → faults sources ≡ [] → AllKeepLimits (program_of sources)
keeps_limits sources none = record {
  modules = λ k m at.
      let f = module-from sources k m at in
      subst KeepsLimits f.is (module_keeps sources (faultless sources none) k f.tree f.at);
}
