-- The tables of a hosted module, from the facts of a well-formed mode.
use Rattle.std.proofs.Common.{◌≡◌, ℕ, zero, suc, ◌+◌, ℤ, List, [], ◌∷◌, ◌++◌, map, Bool, true, false, ◌&&◌, ◌==◌, Option, Some, None, filter, refl, ap, ap₂, sym, ◌∙◌, subst, arith}
use Rattle.std.specs.Prelude.{slice_get, option_map, option_and_then, unwrap_or, if◌then◌else◌, find, is_some}
use Rattle.std.specs.Option.{option_or}
use Rattle.std.specs.List.{list_any}
use Rattle.std.proofs.lemmas.Bool.{eqb-true, eq-eqb, ne_eqb, or_left, or_right, and_parts}
use Rattle.std.proofs.lemmas.List.Folds.{list_any-append}
use Rattle.std.proofs.lemmas.Option.{slice_get-map}
use Rattle.tdl_body.specs.declared.tree.Expr.{Expr}
use Rattle.tdl_body.specs.Values.{Look}
use Rattle.tdl_mode.specs.declared.program.Module.{Module}
use Rattle.tdl_mode.specs.declared.program.Mode.{Mode}
use Rattle.tdl_mode.specs.declared.program.Task.{Task}
use Rattle.tdl_mode.specs.declared.program.Invocation.{Invocation}
use Rattle.tdl_mode.specs.declared.program.Update.{Update}
use Rattle.tdl_mode.specs.declared.program.Switch.{Switch}
use Rattle.tdl_mode.specs.States.{invocation_of}
use Rattle.tdl_image.specs.declared.hosted.Hosted.{Hosted}
use Rattle.tdl_image.specs.declared.hosted.TaskTable.{TaskTable}
use Rattle.tdl_base.specs.Sensed.{Sensed}
use Rattle.tdl_verify.specs.States.{Part, Times}
use Rattle.tdl_gen.specs.BlockNames.{guard_names, call_names, release_names, number_in}
use Rattle.tdl_gen.specs.Tables.{coded, task_table, guard_in, hosted_of}
use Rattle.tdl_gen.proofs.TablePlaces.{guard_acts, guard_found, call_found, driver_found}
use Rattle.tdl_gen.proofs.ReleasePlaces.{release_found}
use Rattle.tdl_base.proofs.Finding.{passing-any}
use Rattle.tdl_base.proofs.Among.{any-found, find-none}
use Rattle.tdl_gen.proofs.Guards.{HasGuard}
use Rattle.tdl_gen.proofs.UpdateBlocks.{AtMostOne, HasUpdate, AllHave, AllOnce}
use Rattle.tdl_gen.proofs.SwitchBlocks.{AllGuards}
use Rattle.tdl_gen.proofs.StartBlocks.{HasStart}
use Rattle.tdl_mode.specs.WellFormed.{WellMode}
use Rattle.tdl_meaning.specs.Accepted.{Accepted}
use Rattle.tdl_meaning.proofs.FilterCounts.{filter-none}
use Rattle.tdl_meaning.proofs.Every.{every-filtered}
use Rattle.tdl_meaning.specs.AllItems.{Every}

-- ---- lists

-- at most one place passes, so at most one item is left
pub once-filtered : {A : Type 0} (p : A → Bool) (xs : List A) →
    ((q r : ℕ) (a b : A) → slice_get xs q ≡ Some a → slice_get xs r ≡ Some b → p a ≡ true → p b ≡ true → q ≡ r) →
    AtMostOne (filter p xs)
once-filtered p [] h = tt
once-filtered p (x ∷ xs) h = by_test (once-filtered p xs (λ q r a b at bt pa pb. let e =
    h (suc q) (suc r) a b at bt pa pb in omega (arith, e))) (p x) refl
  where
    by_test : AtMostOne (filter p xs) → (t : Bool) → p x ≡ t → AtMostOne (if t then x ∷ filter p xs else filter p xs)
    by_test rest true e = subst (λ l. AtMostOne (x ∷ l)) (sym
        (filter-none p xs (λ n a at pa. let z = h 0 (suc n) x a refl at e pa in absurd (omega (arith, z))))) tt
    by_test rest false e = rest

-- a guarded item is among the guarded ones
any-guarded : {A : Type 0} (act : A → ℕ) (guard : A → Option Expr) (g : Expr) (xs : List A) (n : ℕ) (x : A) →
    slice_get xs n ≡ Some x → guard x ≡ Some g →
    list_any (λ b. b == act x) (map act (filter (λ y. is_some (guard y)) xs)) ≡ true
any-guarded act guard g [] n x at q = absurd (cc at)
any-guarded act guard g (y ∷ ys) zero x at q =
    let here : is_some (guard y) ≡ true = ap (λ o. is_some (guard (unwrap_or o y))) at ∙ ap is_some q in
    ap (λ t. list_any (λ b. b == act x) (map act (if t then y ∷ filter (λ y. is_some (guard y)) ys else filter
    (λ y. is_some (guard y)) ys))) here
    ∙ or_left (act y == act x) _ (eq-eqb (act y) (act x) (ap (λ o. act (unwrap_or o y)) at))
any-guarded act guard g (y ∷ ys) (suc n) x at q = by_test (any-guarded act guard g ys n x at q) (is_some (guard y))
  where
    by_test : list_any (λ b. b == act x) (map act (filter (λ y. is_some (guard y)) ys)) ≡ true → (t : Bool) →
        list_any (λ b. b == act x) (map act (if t then y ∷ filter (λ y. is_some (guard y)) ys else filter
        (λ y. is_some (guard y)) ys)) ≡ true
    by_test rest true = or_right (act y == act x) _ rest
    by_test rest false = rest

module _ {A : Type 0} (act : A → ℕ) (guard : A → Option Expr) (a : ℕ) where
  -- the guard of the first item of an activity, where there is one
  abbrev first_guard : List A → Option Expr
  first_guard xs = option_and_then guard (find (λ x. act x == a) xs)

  -- all items of an activity have one guard, so the first one has it
  first_guard-is : (g : Option Expr) (xs : List A) (n : ℕ) (x : A) → slice_get xs n ≡ Some x → act x ≡ a →
      ((q : ℕ) (y : A) → slice_get xs q ≡ Some y → act y ≡ a → guard y ≡ g) → first_guard xs ≡ g
  first_guard-is g xs n x at is alike =
      let first = any-found (λ y. act y == a) xs (passing-any (λ y. act y == a) xs n x at (eq-eqb (act x) a is)) in
      ap (option_and_then guard) first.is ∙ alike first.place first.item first.at
      (eqb-true (act first.item) a first.passes)

  -- no item is of the activity, so there is no guard
  first_guard-none : (xs : List A) → ((q : ℕ) (y : A) → slice_get xs q ≡ Some y → act y ≡ a → ⊥) → first_guard xs ≡ None
  first_guard-none xs none =
      ap (option_and_then guard) (find-none (λ y. act y == a) xs (λ q y at. ne_eqb (act y) a (none q y at)))

-- ---- the tables of a module

-- a table without ports and body
pub no_table : TaskTable
no_table = record { name = []; worst = 0; inputs = []; outputs = []; locals = []; body = record { instrs = [] } }

-- a table, or the empty one
abbrev pub or_none : Option TaskTable → TaskTable
or_none None = no_table
or_none (Some t) = t

-- the table of task t, empty where there is none
abbrev pub tables_of : Module → ℕ → TaskTable
tables_of m t = or_none (option_map task_table (slice_get m.tasks t))

-- the table of a task that is there
pub tables_of-is : (m : Module) (t : ℕ) (task : Task) → slice_get m.tasks t ≡ Some task →
    tables_of m t ≡ task_table task
tables_of-is m t task at = ap (λ o. or_none (option_map task_table o)) at

module _ (given : Accepted) (kk : ℕ) (m : Module) (k : ℕ) (mode : Mode) (is : slice_get m.modes k ≡ Some mode)
    (well : WellMode given.program kk m k mode) where
  -- the compiler's tables of the module
  abbrev h : Hosted
  h = hosted_of given.schedule kk m

  -- the guarded activities of the invocations
  abbrev acts_i : List ℕ
  acts_i = map (λ i. i.act) (filter (λ i. is_some i.guard) mode.invocations)

  -- those of the updates
  abbrev acts_u : List ℕ
  acts_u = map (λ u. u.act) (filter (λ u. is_some u.guard) mode.updates)

  -- those of the switches
  abbrev acts_s : List ℕ
  acts_s = map (λ s. s.act) (filter (λ s. is_some s.guard) mode.switches)

  -- a guarded activity of an invocation is among all
  among_i : (a : ℕ) → list_any (λ b. b == a) acts_i ≡ true → list_any (λ b. b == a) (guard_acts mode) ≡ true
  among_i a h = list_any-append (λ b. b == a) (acts_i ++ acts_u) acts_s
      ∙ or_left _ _ (list_any-append (λ b. b == a) acts_i acts_u ∙ or_left _ _ h)

  -- one of an update is among all
  among_u : (a : ℕ) → list_any (λ b. b == a) acts_u ≡ true → list_any (λ b. b == a) (guard_acts mode) ≡ true
  among_u a h = list_any-append (λ b. b == a) (acts_i ++ acts_u) acts_s
      ∙ or_left _ _ (list_any-append (λ b. b == a) acts_i acts_u ∙ or_right (list_any (λ b. b == a) acts_i) _ h)

  -- one of a switch is among all
  among_s : (a : ℕ) → list_any (λ b. b == a) acts_s ≡ true → list_any (λ b. b == a) (guard_acts mode) ≡ true
  among_s a h = list_any-append (λ b. b == a) (acts_i ++ acts_u) acts_s
      ∙ or_right (list_any (λ b. b == a) (acts_i ++ acts_u)) _ h

  -- the guard of the first invocation of an activity
  abbrev guard_by_call : ℕ → Option Expr
  guard_by_call a = first_guard (λ (j : Invocation). j.act) (λ j. j.guard) a mode.invocations

  -- that of the first update
  abbrev guard_by_driver : ℕ → Option Expr
  guard_by_driver a = first_guard (λ (v : Update). v.act) (λ v. v.guard) a mode.updates

  -- that of the first switch
  abbrev guard_by_turn : ℕ → Option Expr
  guard_by_turn a = first_guard (λ (v : Switch). v.act) (λ v. v.guard) a mode.switches

  -- the guard of an item is in the table, where all items of its activity have its guard, its activity is among the
  -- guarded ones, and the mode's guard of it is the first of these items
  guard_of : {A : Type 0} (act : A → ℕ) (guard : A → Option Expr) (xs : List A) (n : ℕ) (x : A) →
      slice_get xs n ≡ Some x →
      ((q : ℕ) (y : A) → slice_get xs q ≡ Some y → act y ≡ act x → guard y ≡ guard x) →
      (list_any (λ b. b == act x) (map act (filter (λ y. is_some (guard y)) xs)) ≡ true →
      list_any (λ b. b == act x) (guard_acts mode) ≡ true) →
      ((g : Expr) → first_guard act guard (act x) xs ≡ Some g → guard_in mode (act x) ≡ Some g) →
      HasGuard h (number_in (guard_names m) k (act x)) (guard x)
  guard_of act guard xs n x at alike among first = by_guard (guard x) refl
    where
      by_guard : (o : Option Expr) → guard x ≡ o → HasGuard h (number_in (guard_names m) k (act x)) o
      by_guard None e = tt
      by_guard (Some g) e =
          guard_found m k (act x) mode g is (among (any-guarded act guard g xs n x at e))
          (first g (first_guard-is act guard (act x) (Some g) xs n x at refl (λ q y yt same. alike q y yt same ∙ e)))

  -- the guard of an invocation is in the table
  pub guard_i : (n : ℕ) (i : Invocation) → slice_get mode.invocations n ≡ Some i →
      HasGuard h (number_in (guard_names m) k i.act) i.guard
  guard_i n i at =
      guard_of (λ (j : Invocation). j.act) (λ j. j.guard) mode.invocations n i at
      (λ q j jt same. (well.calls q n j i jt at same).2) (among_i i.act)
      (λ g. ap (λ o. option_or o (option_or (guard_by_driver i.act) (guard_by_turn i.act))))

  -- the guard of an update is in the table
  pub guard_u : (n : ℕ) (u : Update) → slice_get mode.updates n ≡ Some u →
      HasGuard h (number_in (guard_names m) k u.act) u.guard
  guard_u n u at =
      let no_call : guard_by_call u.act ≡ None =
      first_guard-none (λ (j : Invocation). j.act) (λ j. j.guard) u.act mode.invocations
      (λ q j jt same. well.call_or_driver q n j u jt at same) in
      guard_of (λ (v : Update). v.act) (λ v. v.guard) mode.updates n u at
      (λ q v vt same. (well.drivers q n v u vt at same).2) (among_u u.act)
      (λ g. ap₂ (λ o other. option_or o (option_or other (guard_by_turn u.act))) no_call)

  -- the guard of a switch is in the table
  pub guard_s : (n : ℕ) (w : Switch) → slice_get mode.switches n ≡ Some w →
      HasGuard h (number_in (guard_names m) k w.act) w.guard
  guard_s n w at =
      let no_call : guard_by_call w.act ≡ None =
      first_guard-none (λ (j : Invocation). j.act) (λ j. j.guard) w.act mode.invocations
      (λ q j jt same. well.call_or_turn q n j w jt at same) in
      let no_driver : guard_by_driver w.act ≡ None =
      first_guard-none (λ (v : Update). v.act) (λ v. v.guard) w.act mode.updates
      (λ q v vt same. well.driver_or_turn q n v w vt at same) in
      guard_of (λ (v : Switch). v.act) (λ v. v.guard) mode.switches n w at
      (λ q v vt same. (well.turns q n v w vt at same).1) (among_s w.act)
      (λ g first q. option_or (no_call q) (option_or (no_driver q) (first q)))

  module _ (x node : ℕ) (sensed : Sensed) (times : Times) (look : Look) where
    -- the driver and the guard of an update are in their tables
    has_update : (b : ℕ) (front back : List Part) (a n : ℕ) (u : Update) → slice_get mode.updates n ≡ Some u →
        u.actuator ≡ a → HasUpdate x node sensed times h b front back m k look a u
    has_update b front back a n u at is_a = record {
      driver = driver_found m k mode is n u at (λ q v vt va. let d = well.drivers q n v u vt at va in (d.0, d.1))
          ∙ ap (λ c. Some (record { actuator = c; value = coded u.value })) is_a;
      guard = guard_u n u at;
    }

    -- so are those of all updates at an offset, one at most for each actuator
    pub has_updates : (o b : ℕ) (front back : List Part) (n : ℕ) (vs : List ℤ) →
        AllOnce x node sensed times h b front back m k look (λ a. filter
        (λ u. u.actuator == a && u.at.0 == o) mode.updates) n vs
    has_updates o b front back n [] = tt
    has_updates o b front back n (v ∷ vs) = (
      (
        once-filtered (λ (u : Update). u.actuator == n && u.at.0 == o) mode.updates
            (λ q r u w ut wt pu pw.
            let a = and_parts (u.actuator == n) (u.at.0 == o) pu in
            let c = and_parts (w.actuator == n) (w.at.0 == o) pw in
            well.once q r u w ut wt (eqb-true u.actuator n a.0 ∙ sym (eqb-true w.actuator n c.0)) (eqb-true u.at.0 o a.1
            ∙ sym (eqb-true w.at.0 o c.1))),
        all (filter (λ u. u.actuator == n && u.at.0 == o) mode.updates)
            (every-filtered (HasUpdate x node sensed times h b front back m k look n)
            (λ (u : Update). u.actuator == n && u.at.0 == o) mode.updates
            (λ q u ut pu. has_update b front back n q u ut (eqb-true u.actuator n
            (and_parts (u.actuator == n) (u.at.0 == o) pu).0))),
      ),
      has_updates o b front back (suc n) vs,
    )
      where
        all : (us : List Update) → Every (HasUpdate x node sensed times h b front back m k look n) us →
            AllHave x node sensed times h b front back m k look n us
        all [] e = tt
        all (u ∷ us) e = (e.0, all us e.1)

    -- so are the guards of all switches at an offset
    pub has_guards : (o b : ℕ) (front back : List Part) → AllGuards x node sensed times h b front back m k look
        (filter (λ s. s.at.0 == o) mode.switches)
    has_guards o b front back =
        all (filter (λ s. s.at.0 == o) mode.switches)
        (every-filtered (λ w. HasGuard h (number_in (guard_names m) k w.act) w.guard)
        (λ (w : Switch). w.at.0 == o) mode.switches (λ q w wt pw. guard_s q w wt))
      where
        all : (ws : List Switch) → Every (λ w. HasGuard h (number_in (guard_names m) k w.act) w.guard) ws →
            AllGuards x node sensed times h b front back m k look ws
        all [] e = tt
        all (w ∷ ws) e = (e.0, all ws e.1)

    -- so are the guard, the release and the call of an invocation
    pub has_start : (o b : ℕ) (front back : List Part) (n : ℕ) (i : Invocation) →
        invocation_of mode.invocations n ≡ Some i → HasStart x node sensed times h b front back m k o look n i
        (tables_of m i.task.0)
    has_start o b front back zero i at = absurd (cc at)
    has_start o b front back (suc n) i at =
        let one : 1 + n ≡ suc n = omega arith in
        let w = well.invocations (suc n) i at in
        record {
          guard = guard_i n i at;
          release = ap (λ c. slice_get h.releases (number_in (release_names m) k c)) (sym one)
              ∙ release_found m k n mode i is at ∙ ap (λ c. Some
              (record { mode = k; invocation = c; call = number_in (call_names m) k i.act })) one;
          call = call_found m k mode is n i at (λ q j jt ja. let c = well.calls q n j i jt at ja in (c.0, c.1));
          tasks = slice_get-map task_table m.tasks i.task.0 ∙ ap (option_map task_table) w.task
              ∙ ap Some (sym (tables_of-is m i.task.0 w.definition w.task));
        }
