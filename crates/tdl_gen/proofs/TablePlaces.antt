-- The calls, drivers and guards of a module stand at their numbers.
use Rattle.std.proofs.Common.{◌≡◌, ℕ, ◌+◌, List, [], ◌∷◌, map, Bool, true, ◌||◌, ◌==◌, Some, refl, ap, sym, ◌∙◌, arith}
use Rattle.std.specs.Prelude.{slice_get, option_map, option_and_then, unwrap_or}
use Rattle.std.specs.List.{list_any}
use Rattle.std.proofs.lemmas.Bool.{eqb-true, eq-eqb, and_parts, and_from}
use Rattle.tdl_base.proofs.Tests.{eq_self}
use Rattle.tdl_base.proofs.Finding.{passing-any}
use Rattle.tdl_base.proofs.Among.{any-map, any-joined, any-found}
use Rattle.tdl_body.specs.declared.tree.Expr.{Expr}
use Rattle.tdl_mode.specs.declared.program.Module.{Module}
use Rattle.tdl_mode.specs.declared.program.Mode.{Mode}
use Rattle.tdl_mode.specs.declared.program.Invocation.{Invocation}
use Rattle.tdl_mode.specs.declared.program.Update.{Update}
use Rattle.tdl_mode.specs.Offsets.{ascending}
use Rattle.tdl_verify.specs.Turns.{no_code}
pub use Rattle.tdl_gen.specs.BlockNames.{guard_acts}
use Rattle.tdl_gen.specs.BlockNames.{InMode, same_in_mode, activities, call_names, driver_names, guard_names, number_in}
use Rattle.tdl_gen.specs.Tables.{coded, call_of, driver_of, guard_in, guard_of}
use Rattle.tdl_gen.proofs.BlockPlaces.{named, any-ascending}

-- names of one mode and one number are equal
pub same_in_mode-is : (a b : InMode) → same_in_mode a b ≡ true → a ≡ b
same_in_mode-is a b h =
    let both = and_parts (a.mode == b.mode) (a.number == b.number) h in
    λ q. record { mode = eqb-true a.mode b.mode both.0 q; number = eqb-true a.number b.number both.1 q }

-- an activity of a mode is among the activities of the module
is_active : (acts : Mode → List ℕ) (m : Module) (k a : ℕ) (mode : Mode) → slice_get m.modes k ≡ Some mode →
    list_any (λ b. b == a) (acts mode) ≡ true →
    list_any (same_in_mode (record { mode = k; number = a })) (activities acts m) ≡ true
is_active acts m k a mode at here =
    let name : InMode = record { mode = k; number = a } in
    let names : ℕ → Mode → List InMode = λ k mode. map (λ b. record { mode = k; number = b }) (ascending (acts mode)) in
    let first : 0 + k ≡ k = omega arith in
    any-joined (same_in_mode name) names 0 k m.modes mode at
    (ap (λ j. list_any (same_in_mode name) (names j mode)) first
    ∙ any-map (λ b. b == a) (same_in_mode name) (λ b. record { mode = k; number = b })
    (λ b t. and_from (k == k) (a == b) (eq_self k) (eq-eqb a b (sym (eqb-true b a t)))) (ascending (acts mode))
    (any-ascending (λ b. b == a) (acts mode) ∙ here))

-- an activity is among the activities of items where an item is of that activity
any-acts : {A : Type 0} (act : A → ℕ) (a : ℕ) (xs : List A) →
    list_any (λ b. b == a) (map act xs) ≡ list_any (λ x. act x == a) xs
any-acts act a [] = refl
any-acts act a (x ∷ xs) = ap (λ t. act x == a || t) (any-acts act a xs)

-- the call of an invocation stands at its activity's number, where the activity has one task and one list of arguments
pub call_found : (m : Module) (k : ℕ) (mode : Mode) → slice_get m.modes k ≡ Some mode →
    (n : ℕ) (i : Invocation) → slice_get mode.invocations n ≡ Some i →
    ((p : ℕ) (j : Invocation) → slice_get mode.invocations p ≡ Some j → j.act ≡ i.act →
    (j.task.0 ≡ i.task.0) × (j.args ≡ i.args)) →
    slice_get (map (call_of m) (call_names m)) (number_in (call_names m) k i.act) ≡
    Some (record { task = i.task.0; args = map coded i.args })
call_found m k mode at n i here alike =
    let is_of : Invocation → Bool = λ j. j.act == i.act in
    let some = passing-any is_of mode.invocations n i here (eq_self i.act) in
    let first = any-found is_of mode.invocations some in
    let same = alike first.place first.item first.at (eqb-true first.item.act i.act first.passes) in
    let found = first.is in
    named same_in_mode same_in_mode-is (call_of m) (record { mode = k; number = i.act }) (call_names m)
    (is_active (λ mode. map (λ j. j.act) mode.invocations) m k i.act mode at
    (any-acts (λ (j : Invocation). j.act) i.act mode.invocations ∙ some))
    ∙ ap Some (rw (at, found) (λ q. record { task = same.0 q; args = map coded (same.1 q) }))

-- the driver of an update stands at its activity's number, where the activity has one actuator and one value
pub driver_found : (m : Module) (k : ℕ) (mode : Mode) → slice_get m.modes k ≡ Some mode →
    (n : ℕ) (u : Update) → slice_get mode.updates n ≡ Some u →
    ((p : ℕ) (v : Update) → slice_get mode.updates p ≡ Some v → v.act ≡ u.act →
    (v.actuator ≡ u.actuator) × (v.value ≡ u.value)) →
    slice_get (map (driver_of m) (driver_names m)) (number_in (driver_names m) k u.act) ≡
    Some (record { actuator = u.actuator; value = coded u.value })
driver_found m k mode at n u here alike =
    let is_of : Update → Bool = λ v. v.act == u.act in
    let some = passing-any is_of mode.updates n u here (eq_self u.act) in
    let first = any-found is_of mode.updates some in
    let same = alike first.place first.item first.at (eqb-true first.item.act u.act first.passes) in
    let found = first.is in
    named same_in_mode same_in_mode-is (driver_of m) (record { mode = k; number = u.act }) (driver_names m)
    (is_active (λ mode. map (λ v. v.act) mode.updates) m k u.act mode at
    (any-acts (λ (v : Update). v.act) u.act mode.updates ∙ some))
    ∙ ap Some (rw (at, found) (λ q. record { actuator = same.0 q; value = coded (same.1 q) }))

-- the code of a guard stands at its activity's number
pub guard_found : (m : Module) (k a : ℕ) (mode : Mode) (g : Expr) → slice_get m.modes k ≡ Some mode →
    list_any (λ b. b == a) (guard_acts mode) ≡ true → guard_in mode a ≡ Some g →
    slice_get (map (guard_of m) (guard_names m)) (number_in (guard_names m) k a) ≡ Some (coded g)
guard_found m k a mode g at some is =
    named same_in_mode same_in_mode-is (guard_of m) (record { mode = k; number = a }) (guard_names m)
    (is_active guard_acts m k a mode at some)
    ∙ ap (λ o. Some (unwrap_or (option_map coded (option_and_then (λ mode. guard_in mode a) o)) no_code)) at
    ∙ ap (λ o. Some (unwrap_or (option_map coded o) no_code)) is
