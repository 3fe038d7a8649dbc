-- Two entries of a mode do not meet where the rules forbid it.
use Rattle.std.proofs.Common.{◌≡◌, inl, inr, ℕ, zero, suc, ◌+◌, ◌<◌, List, [], ◌∷◌, Bool, true, false, Some, refl, ap, sym, ◌∙◌, subst, arith}
use Rattle.std.specs.Prelude.{slice_get, ◌&&◌, ◌==◌, nat_lt, option_map, unwrap_or}
use Rattle.std.specs.List.{list_any}
use Rattle.std.proofs.lemmas.Bool.{and_from, both_ways, lt-ltb, eq-eqb, cases_order}
use Rattle.std.proofs.lemmas.Option.{same_Some}
use Rattle.tdl_base.specs.declared.kinds.Kind.{Kind}
use Rattle.tdl_base.proofs.ListPlaces.{In, in-front, in-back}
use Rattle.tdl_base.proofs.SideBySide.{Zip, zip-right}
use Rattle.tdl_mode.specs.declared.program.Invocation.{Invocation}
use Rattle.tdl_mode.specs.declared.program.Update.{Update}
use Rattle.tdl_mode.specs.declared.program.Switch.{Switch}
use Rattle.tdl_mode.specs.States.{invocation_of}
use Rattle.tdl_tree.specs.declared.activities.Act.{Act}
use Rattle.tdl_tree.specs.declared.activities.ActKind.{ActKind}
use Rattle.tdl_tree.specs.declared.activities.ActKind.TheVariants as act
use Rattle.tdl_tree.specs.declared.declarations.Decl.{Decl}
use Rattle.tdl_tree.specs.declared.declarations.Decl.TheVariants as decl
use Rattle.tdl_tree.specs.declared.declarations.Tree.{Tree}
use Rattle.tdl_tree.specs.declared.names.Id.{Id}
use Rattle.tdl_rules.specs.Lists.{each, clashes}
use Rattle.tdl_rules.specs.Naming.{Scope, TaskMeant, is_activity_meant}
use Rattle.tdl_rules.specs.Times.{Let, lets, times}
use Rattle.tdl_rules.specs.ModeRules.{Invoked, invoked, overlap, Updated, updated, same_update, task_lets, mode_lets, cuts}
use Rattle.tdl_program.specs.Ordinals.{ordinal, is_task, is_actuator}
use Rattle.tdl_program.specs.Activities.{task_number, actuator_number, invocation_over, invocations_in, invocations_of, update_at, updates_in, updates_of, switches_of}
use Rattle.tdl_program.proofs.Clashing.{none-passing, no-clash}
use Rattle.tdl_program.proofs.Counting.{ordinal-same}
use Rattle.tdl_program.proofs.Entries.{Invokes, Switches}
use Rattle.tdl_program.proofs.JoinedPlaces.{zip-map, zip-joined}
use Rattle.tdl_program.proofs.Meant.{IsTaskMeant, IsActuatorMeant, task-meant, actuator-meant}

-- what is made of an item stands in what is made of all
pub in-each : {A B : Type 0} (f : A → List B) (xs : List A) (n : ℕ) (x : A) (b : B) →
    slice_get xs n ≡ Some x → In b (f x) → In b (each f xs)
in-each f [] n x b at i = absurd (cc at)
in-each f (y ∷ ys) zero x b at i =
    in-front b (f y) (each f ys) (subst (λ z. In b (f z)) (sym (same_Some y x at)) i)
in-each f (y ∷ ys) (suc n) x b at i = in-back b (f y) (each f ys) (in-each f ys n x b at i)

module _ (scope : Scope) (period : ℕ) (acts : List Act)
    (meant' : (n : ℕ) (activity : Act) → slice_get acts n ≡ Some activity → is_activity_meant scope activity.what ≡ true) where
  -- ---- invocations

  -- an invocation as the rules see it
  record IsInvoked (i : Invocation) (v : Invoked) : Type 0 where
    declared : Decl
    at : slice_get scope.tree.decls v.task ≡ Some declared
    task : is_task declared ≡ true
    number : i.task.0 ≡ ordinal is_task scope.tree.decls v.task
    s : i.s.0 ≡ v.span.s
    e : i.e.0 ≡ v.span.e

  -- the invocations of a mode are those that the rules see, in the same order
  invoked-zip : Zip IsInvoked (invocations_of scope period acts)
      (each (λ activity. invoked scope period activity activity.what) acts)
  invoked-zip =
      zip-joined IsInvoked (λ n activity. invocations_in scope period n activity activity.what)
      (λ activity. invoked scope period activity activity.what) 0 acts
      (λ n activity at. by_what (0 + n) activity activity.what (meant' n activity at))
    where
      by_what : (n : ℕ) (activity : Act) (what : ActKind) → is_activity_meant scope what ≡ true →
          Zip IsInvoked (invocations_in scope period n activity what) (invoked scope period activity what)
      by_what n activity (act.Update actuator value) m = tt
      by_what n activity (act.Switch target) m = tt
      by_what n activity (act.Task task args) m =
          let t = task-meant scope.tree task m in
          rw t.is (zip-map IsInvoked (invocation_over scope n activity task args)
          (λ (span : Let). record { task = t.task.number; name = task; span = span })
          (λ span. record {
            declared = decl.Task t.public t.name t.task.worst t.task.ports t.body;
            at = t.at;
            task = refl;
            number = ap (λ o. unwrap_or (option_map (λ (t : TaskMeant). ordinal is_task scope.tree.decls t.number) o) 0) t.is;
            s = refl;
            e = refl;
          }) (lets period activity))

  -- of two invocations of one task that overlap, none comes before the other
  not_before : (q r : ℕ) (i j : Invocation) →
      clashes overlap (each (λ activity. invoked scope period activity activity.what) acts) ≡ [] → q < r →
      slice_get (invocations_of scope period acts) q ≡ Some i → slice_get (invocations_of scope period acts) r ≡ Some j →
      i.task.0 ≡ j.task.0 → i.s.0 < j.e.0 → j.s.0 < i.e.0 → ⊥
  not_before q r i j none lt at at' task early late =
      let seen = each (λ activity. invoked scope period activity activity.what) acts in
      let a = zip-right IsInvoked (invocations_of scope period acts) seen invoked-zip q i at in
      let b = zip-right IsInvoked (invocations_of scope period acts) seen invoked-zip r j at' in
      let x = a.holds in
      let y = b.holds in
      let same : a.item.task ≡ b.item.task =
      ordinal-same is_task scope.tree.decls a.item.task b.item.task x.declared y.declared x.at x.task y.at y.task
      (sym x.number ∙ task ∙ y.number) in
      let is : i.s.0 ≡ a.item.span.s = x.s in
      let ie : i.e.0 ≡ a.item.span.e = x.e in
      let js : j.s.0 ≡ b.item.span.s = y.s in
      let je : j.e.0 ≡ b.item.span.e = y.e in
      let first : a.item.span.s < b.item.span.e = omega (arith, early, is, je) in
      let second : b.item.span.s < a.item.span.e = omega (arith, late, js, ie) in
      let meets : overlap a.item b.item ≡ true =
      and_from (a.item.task == b.item.task)
      (nat_lt a.item.span.s b.item.span.e && nat_lt b.item.span.s a.item.span.e)
      (eq-eqb a.item.task b.item.task same)
      (and_from (nat_lt a.item.span.s b.item.span.e) (nat_lt b.item.span.s a.item.span.e)
      (lt-ltb a.item.span.s b.item.span.e first) (lt-ltb b.item.span.s a.item.span.e second)) in
      both_ways (overlap a.item b.item) (no-clash overlap seen q r a.item b.item none lt a.at b.at) meets

  -- two invocations of one task that overlap are one
  pub apart : (q r : ℕ) (i j : Invocation) →
      clashes overlap (each (λ activity. invoked scope period activity activity.what) acts) ≡ [] →
      invocation_of (invocations_of scope period acts) q ≡ Some i →
      invocation_of (invocations_of scope period acts) r ≡ Some j →
      i.task.0 ≡ j.task.0 → i.s.0 < j.e.0 → j.s.0 < i.e.0 → q ≡ r
  apart zero r i j none at at' task early late = absurd (cc at)
  apart (suc q) zero i j none at at' task early late = absurd (cc at')
  apart (suc q) (suc r) i j none at at' task early late =
      elim (cases_order q r) [
        | inl same ↦ ap (λ n. suc n) same
        | inr other ↦ elim other [
          | inl lt ↦ absurd (not_before q r i j none lt at at' task early late)
          | inr gt ↦ absurd (not_before r q j i none gt at' at (sym task) late early)
        ]
      ]

  -- ---- updates

  -- an update as the rules see it
  record IsUpdated (u : Update) (v : Updated) : Type 0 where
    declared : Decl
    at : slice_get scope.tree.decls v.actuator ≡ Some declared
    actuator : is_actuator declared ≡ true
    number : u.actuator ≡ ordinal is_actuator scope.tree.decls v.actuator
    offset : u.at.0 ≡ v.time

  -- the updates of a mode are those that the rules see, in the same order
  updated-zip : Zip IsUpdated (updates_of scope period acts)
      (each (λ activity. updated scope period activity activity.what) acts)
  updated-zip =
      zip-joined IsUpdated (λ n activity. updates_in scope period n activity activity.what)
      (λ activity. updated scope period activity activity.what) 0 acts
      (λ n activity at. by_what (0 + n) activity activity.what (meant' n activity at))
    where
      by_what : (n : ℕ) (activity : Act) (what : ActKind) → is_activity_meant scope what ≡ true →
          Zip IsUpdated (updates_in scope period n activity what) (updated scope period activity what)
      by_what n activity (act.Task task args) m = tt
      by_what n activity (act.Switch target) m = tt
      by_what n activity (act.Update actuator value) m =
          let t = actuator-meant scope.tree actuator m in
          rw t.is (zip-map IsUpdated (update_at scope n activity actuator value)
          (λ (time : ℕ). record { actuator = t.number; name = actuator; time = time })
          (λ time. record {
            declared = decl.Actuator t.kind t.name t.initial;
            at = t.at;
            actuator = refl;
            number = ap (λ o. unwrap_or (option_map (λ (a : ℕ × Kind). ordinal is_actuator scope.tree.decls a.0) o) 0) t.is;
            offset = refl;
          }) (times period activity))

  -- of two updates of one actuator at one offset, none comes before the other
  not_earlier : (q r : ℕ) (u v : Update) →
      clashes same_update (each (λ activity. updated scope period activity activity.what) acts) ≡ [] → q < r →
      slice_get (updates_of scope period acts) q ≡ Some u → slice_get (updates_of scope period acts) r ≡ Some v →
      u.actuator ≡ v.actuator → u.at.0 ≡ v.at.0 → ⊥
  not_earlier q r u v none lt at at' actuator offset =
      let seen = each (λ activity. updated scope period activity activity.what) acts in
      let a = zip-right IsUpdated (updates_of scope period acts) seen updated-zip q u at in
      let b = zip-right IsUpdated (updates_of scope period acts) seen updated-zip r v at' in
      let x = a.holds in
      let y = b.holds in
      let same : a.item.actuator ≡ b.item.actuator =
      ordinal-same is_actuator scope.tree.decls a.item.actuator b.item.actuator x.declared y.declared x.at x.actuator
      y.at y.actuator (sym x.number ∙ actuator ∙ y.number) in
      let meets : same_update a.item b.item ≡ true =
      and_from (a.item.actuator == b.item.actuator) (a.item.time == b.item.time)
      (eq-eqb a.item.actuator b.item.actuator same)
      (eq-eqb a.item.time b.item.time (sym x.offset ∙ offset ∙ y.offset)) in
      both_ways (same_update a.item b.item) (no-clash same_update seen q r a.item b.item none lt a.at b.at) meets

  -- two updates of one actuator at one offset are one
  pub once : (q r : ℕ) (u v : Update) →
      clashes same_update (each (λ activity. updated scope period activity activity.what) acts) ≡ [] →
      slice_get (updates_of scope period acts) q ≡ Some u → slice_get (updates_of scope period acts) r ≡ Some v →
      u.actuator ≡ v.actuator → u.at.0 ≡ v.at.0 → q ≡ r
  once q r u v none at at' actuator offset =
      elim (cases_order q r) [
        | inl same ↦ same
        | inr other ↦ elim other [
          | inl lt ↦ absurd (not_earlier q r u v none lt at at' actuator offset)
          | inr gt ↦ absurd (not_earlier r q v u none gt at' at (sym actuator) (sym offset))
        ]
      ]

-- ---- switches

-- an offset of a switch stands inside no invocation
pub closed : (scope : Scope) (period : ℕ) (acts : List Act) (w : Switch) (i : Invocation) →
    Switches scope period acts w → Invokes scope period acts i →
    ((n : ℕ) (activity : Act) (target : Id) → slice_get acts n ≡ Some activity → activity.what ≡ act.Switch target →
    list_any (cuts (mode_lets period acts)) (times period activity) ≡ false) →
    i.s.0 < w.at.0 → w.at.0 < i.e.0 → ⊥
closed scope period acts w i a b uncut early late =
    let uncut' = none-passing (cuts (mode_lets period acts)) (times period a.activity) a.place a.offset
    (uncut w.act a.activity a.target a.at a.what) a.within in
    let span : In b.span (task_lets period b.activity b.activity.what) =
    subst (λ (what : ActKind). In b.span (task_lets period b.activity what)) (sym b.what)
    (record { place = b.place; at = b.within }) in
    let among = in-each (λ (activity : Act). task_lets period activity activity.what) acts i.act b.activity b.span b.at span in
    let outside = none-passing (λ (span : Let). nat_lt span.s a.offset && nat_lt a.offset span.e) (mode_lets period acts)
    among.place b.span uncut' among.at in
    let at : a.offset ≡ w.at.0 = ap (λ (w : Switch). w.at.0) a.is in
    let start : b.span.s ≡ i.s.0 = ap (λ (i : Invocation). i.s.0) b.is in
    let end : b.span.e ≡ i.e.0 = ap (λ (i : Invocation). i.e.0) b.is in
    let first : b.span.s < a.offset = omega (arith, at, start, early) in
    let second : a.offset < b.span.e = omega (arith, at, end, late) in
    both_ways (nat_lt b.span.s a.offset && nat_lt a.offset b.span.e) outside
    (and_from (nat_lt b.span.s a.offset) (nat_lt a.offset b.span.e) (lt-ltb b.span.s a.offset first)
    (lt-ltb a.offset b.span.e second))
