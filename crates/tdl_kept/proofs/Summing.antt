-- The occurrences that C21 counts are the invocations, updates and switches of the program.
use Rattle.std.proofs.Common.{◌≡◌, ℕ, suc, ◌+◌, ◌-◌, ◌≤◌, List, [], ◌∷◌, ◌++◌, map, Bool, true, false, length, refl, subst, arith}
use Rattle.std.specs.Prelude.{if◌then◌else◌, nat_lt}
use Rattle.std.proofs.lemmas.Bool.{ltb-false}
use Rattle.std.proofs.lemmas.List.{length-append, length-map}
use Rattle.tdl_base.specs.Lists.{numbered, joined}
use Rattle.tdl_base.specs.declared.limits.TheConstants.{OCCURRENCES}
use Rattle.tdl_body.specs.Bounds.{total}
use Rattle.tdl_mode.specs.declared.program.Invocation.{Invocation}
use Rattle.tdl_mode.specs.declared.program.Update.{Update}
use Rattle.tdl_mode.specs.declared.program.Switch.{Switch}
use Rattle.tdl_tree.specs.declared.activities.Act.{Act}
use Rattle.tdl_tree.specs.declared.activities.ActKind.{ActKind}
use Rattle.tdl_tree.specs.declared.activities.ActKind.TheVariants as act
use Rattle.tdl_tree.specs.declared.declarations.Decl.{Decl}
use Rattle.tdl_tree.specs.declared.declarations.Decl.TheVariants as decl
use Rattle.tdl_tree.specs.declared.declarations.Tree.{Tree}
use Rattle.tdl_rules.specs.declared.fault.Fault.{Fault}
use Rattle.tdl_rules.specs.Lists.{each}
use Rattle.tdl_rules.specs.Naming.{Scope}
use Rattle.tdl_rules.specs.Times.{time_us, lets, times}
use Rattle.tdl_rules.specs.Parts.{broken, modules, spot_of_activity}
use Rattle.tdl_rules.specs.BoundRules.{count_of, counted, passes}
use Rattle.tdl_program.specs.Activities.{invocation_over, invocations_in, update_at, updates_in, switch_at, switches_in}
use Rattle.tdl_program.specs.Programs.{program_of, module_of, modes_in}
use Rattle.tdl_program.proofs.Faultless.{Faultless}
use Rattle.tdl_kept.specs.Counts.{mode_occurrences, module_occurrences}

-- ---- sums

-- the sum over two lists
pub total-append : (xs ys : List ℕ) → total (xs ++ ys) ≡ total xs + total ys
total-append [] ys = omega arith
total-append (x ∷ xs) ys =
    let rest : total (xs ++ ys) ≡ total xs + total ys = total-append xs ys in omega (arith, rest)

-- the sum of what is made of the items of two lists
total-both : {A : Type 0} (f : A → ℕ) (xs ys : List A) →
    total (map f (xs ++ ys)) ≡ total (map f xs) + total (map f ys)
total-both f [] ys = omega arith
total-both f (x ∷ xs) ys =
    let rest : total (map f (xs ++ ys)) ≡ total (map f xs) + total (map f ys) = total-both f xs ys in
    omega (arith, rest)

-- the sum of the numbers that are counted
abbrev weight : List (Fault × ℕ) → ℕ
weight [] = 0
weight (first ∷ more) = first.1 + weight more

-- where they pass no limit, their sum is within it
within_limit : (n : ℕ) (list : List (Fault × ℕ)) → passes n list ≡ [] → weight list ≤ n
within_limit n [] none = omega arith
within_limit n (first ∷ more) none = by_test (within_limit (n - first.1) more) (nat_lt n first.1) refl none
  where
    by_test : (passes (n - first.1) more ≡ [] → weight more ≤ n - first.1) → (t : Bool) → nat_lt n first.1 ≡ t →
        (if t then first.0 ∷ [] else passes (n - first.1) more) ≡ [] → first.1 + weight more ≤ n
    by_test kept true e none = absurd (cc none)
    by_test kept false e none =
        let rest : weight more ≤ n - first.1 = kept none in
        let low : first.1 ≤ n = ltb-false n first.1 e in
        omega (arith, rest, low)

-- the sum over two lists
weight-append : (xs ys : List (Fault × ℕ)) → weight (xs ++ ys) ≡ weight xs + weight ys
weight-append [] ys = omega arith
weight-append (x ∷ xs) ys =
    let rest : weight (xs ++ ys) ≡ weight xs + weight ys = weight-append xs ys in omega (arith, rest)

-- where the parts of each item have what the item weighs, those of all have what all weigh
weight-parts : {A B : Type 0} (f : A → List (Fault × ℕ)) (parts : A → List B) (size : B → ℕ) →
    ((x : A) → weight (f x) ≡ total (map size (parts x))) →
    (xs : List A) → weight (each f xs) ≡ total (map size (each parts xs))
weight-parts f parts size same [] = refl
weight-parts f parts size same (x ∷ xs) =
    let left : weight (f x ++ each f xs) ≡ weight (f x) + weight (each f xs) = weight-append (f x) (each f xs) in
    let right : total (map size (parts x ++ each parts xs))
    ≡ total (map size (parts x)) + total (map size (each parts xs)) = total-both size (parts x) (each parts xs) in
    let here : weight (f x) ≡ total (map size (parts x)) = same x in
    let more : weight (each f xs) ≡ total (map size (each parts xs)) = weight-parts f parts size same xs in
    omega (arith, left, right, here, more)

-- the same where each item is one part
weight-items : {A B : Type 0} (f : A → List (Fault × ℕ)) (part : A → B) (size : B → ℕ) →
    ((x : A) → weight (f x) ≡ size (part x)) → (xs : List A) → weight (each f xs) ≡ total (map size (map part xs))
weight-items f part size same [] = refl
weight-items f part size same (x ∷ xs) =
    let both : weight (f x ++ each f xs) ≡ weight (f x) + weight (each f xs) = weight-append (f x) (each f xs) in
    let here : weight (f x) ≡ size (part x) = same x in
    let more : weight (each f xs) ≡ total (map size (map part xs)) = weight-items f part size same xs in
    omega (arith, both, here, more)

-- ---- activities, modes and modules

module _ (scope : Scope) (period : ℕ) (fault : Act → Fault) where
  -- the lists that an activity makes
  abbrev calls : ℕ → Act → List Invocation
  calls n activity = invocations_in scope period n activity activity.what

  abbrev drives : ℕ → Act → List Update
  drives n activity = updates_in scope period n activity activity.what

  abbrev turns : ℕ → Act → List Switch
  turns n activity = switches_in scope period n activity activity.what

  -- an activity makes as many as are counted
  made : (n : ℕ) (activity : Act) (what : ActKind) → count_of period activity what
      ≡ length (invocations_in scope period n activity what) + length (updates_in scope period n activity what)
      + length (switches_in scope period n activity what)
  made n activity (act.Task task args) =
      let as_many : length (map (invocation_over scope n activity task args) (lets period activity))
      ≡ length (lets period activity) = length-map (lets period activity)
      (invocation_over scope n activity task args) in
      omega (arith, as_many)
  made n activity (act.Update actuator value) =
      let as_many : length (map (update_at scope n activity actuator value) (times period activity))
      ≡ length (times period activity) = length-map (times period activity)
      (update_at scope n activity actuator value) in
      omega (arith, as_many)
  made n activity (act.Switch target) =
      let as_many : length (map (switch_at scope n activity target) (times period activity))
      ≡ length (times period activity) = length-map (times period activity) (switch_at scope n activity target) in
      omega (arith, as_many)

  -- an activity as it is counted
  abbrev as_counted : Act → Fault × ℕ
  as_counted activity = (fault activity, count_of period activity activity.what)

  -- so do the activities of a mode
  made_by_all : (n : ℕ) (acts : List Act) → weight (map as_counted acts)
      ≡ length (joined (numbered n calls acts)) + length (joined (numbered n drives acts))
      + length (joined (numbered n turns acts))
  made_by_all n [] = omega arith
  made_by_all n (x ∷ xs) =
      let here : count_of period x x.what ≡ length (calls n x) + length (drives n x) + length (turns n x) =
      made n x x.what in
      let more : weight (map as_counted xs) ≡ length (joined (numbered (suc n) calls xs))
      + length (joined (numbered (suc n) drives xs)) + length (joined (numbered (suc n) turns xs)) =
      made_by_all (suc n) xs in
      let a : length (calls n x ++ joined (numbered (suc n) calls xs))
      ≡ length (calls n x) + length (joined (numbered (suc n) calls xs)) =
      length-append (calls n x) (joined (numbered (suc n) calls xs)) in
      let b : length (drives n x ++ joined (numbered (suc n) drives xs))
      ≡ length (drives n x) + length (joined (numbered (suc n) drives xs)) =
      length-append (drives n x) (joined (numbered (suc n) drives xs)) in
      let c : length (turns n x ++ joined (numbered (suc n) turns xs))
      ≡ length (turns n x) + length (joined (numbered (suc n) turns xs)) =
      length-append (turns n x) (joined (numbered (suc n) turns xs)) in
      omega (arith, here, more, a, b, c)

-- a declaration makes what is counted
made_by_declaration : (scope : Scope) (d : Decl) →
    weight (counted scope d) ≡ total (map mode_occurrences (modes_in scope d))
made_by_declaration scope (decl.Mode start name period acts) =
    let all = made_by_all scope (time_us period) (λ activity. broken 21 scope.file
    (spot_of_activity activity)) 0 acts in
    omega (arith, all)
made_by_declaration scope (decl.Const public kind name value) = refl
made_by_declaration scope (decl.Sensor kind name) = refl
made_by_declaration scope (decl.Actuator kind name initial) = refl
made_by_declaration scope (decl.Task public name worst ports body) = refl

-- where the rule is kept, the occurrences of a program are within their limit
pub few_occurrences : (sources : List Tree) → Faultless sources →
    total (map module_occurrences (program_of sources).modules) ≤ OCCURRENCES
few_occurrences sources good =
    let own : Scope → List (Fault × ℕ) = λ scope. each (counted scope) scope.tree.decls in
    let limit : weight (each own (modules sources)) ≤ OCCURRENCES =
    within_limit OCCURRENCES (each own (modules sources)) good.occurrences in
    let same : weight (each own (modules sources)) ≡ total (map module_occurrences (map module_of (modules sources))) =
    weight-items own module_of module_occurrences
    (λ scope. weight-parts (counted scope) (modes_in scope) mode_occurrences
    (made_by_declaration scope) scope.tree.decls)
    (modules sources) in
    subst (λ n. n ≤ OCCURRENCES) same limit
