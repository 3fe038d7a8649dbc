-- The windows of a schedule that passes, in the order of the images: each comes from the schedule, and those of an
-- invocation cover nothing before its start and its worst case at its end.
use Rattle.std.proofs.Common.{◌≡◌, ℕ, ◌+◌, ◌≤◌, List, [], ◌∷◌, map, Bool, true, false, not, ◌&&◌, ◌==◌, Option, Some, None, filter, refl, ap, ◌∙◌, arith}
use Rattle.std.specs.Prelude.{slice_get, option_map, unwrap_or, if◌then◌else◌, find}
use Rattle.std.proofs.lemmas.Bool.{eqb-true, and_parts}
use Rattle.tdl_mode.specs.declared.program.Module.{Module}
use Rattle.tdl_mode.specs.declared.program.Task.{Task}
use Rattle.tdl_mode.specs.declared.program.Invocation.{Invocation}
use Rattle.tdl_mode.specs.States.{invocation_of}
use Rattle.tdl_deploy.specs.declared.schedule.Schedule.{Schedule}
use Rattle.tdl_deploy.specs.declared.schedule.Window.{Window}
use Rattle.tdl_image.specs.declared.hosted.ImageWindow.{ImageWindow}
use Rattle.tdl_deploy.specs.Passes.{is_bus, Invoked, is_of, is_cpu_of, is_bus_of, deadline}
use Rattle.tdl_gen.specs.Tables.{image_window, windows_of, hosted_of}
use Rattle.tdl_verify.proofs.Covered.{Between, covered_none}
use Rattle.tdl_verify.specs.Covered.{is_own}
use Rattle.tdl_mode.specs.WellFormed.{WellModule}
use Rattle.tdl_meaning.proofs.Pairwise.{every-made, every-ordered}
use Rattle.tdl_meaning.proofs.PhaseFour.{AllCovered}
use Rattle.tdl_meaning.specs.Accepted.{Accepted}
use Rattle.tdl_base.proofs.Finding.{found_by}
use Rattle.tdl_deploy.specs.AtRelease.{worst_case_of}
use Rattle.tdl_meaning.specs.AllItems.{Every}
use Rattle.tdl_meaning.proofs.WindowsCover.{covers_all}

-- a window of an image is one of the schedule, for module m
pub record FromSchedule (sch : Schedule) (m : ℕ) (w : ImageWindow) : Type 0 where
  pub place : ℕ
  pub window : Window
  pub at : slice_get sch.windows place ≡ Some window
  pub is : image_window window ≡ w
  pub owner : window.module.0 ≡ m

-- all windows of an image are of the schedule
pub all_from : (sch : Schedule) (m : ℕ) → Every (FromSchedule sch m) (windows_of sch m)
all_from sch m =
    every-ordered (FromSchedule sch m) [] (map image_window (filter (λ w. w.module.0 == m) sch.windows)) tt
    (every-made (FromSchedule sch m) image_window (λ (w : Window). w.module.0 == m) sch.windows
    (λ n w at e. record { place = n; window = w; at = at; is = refl; owner = eqb-true w.module.0 m e }))

-- ---- what the windows of an invocation cover

module _ (given : Accepted) where
  -- an invocation of these numbers under other names
  abbrev named_as : (m k n a b c : ℕ) → a ≡ m → b ≡ k → c ≡ n → (i : Invoked given.program m k n) →
      Invoked given.program a b c
  named_as m k n a b c e f g i = record {
    owner = i.owner;
    mode = i.mode;
    invocation = i.invocation;
    task = i.task;
    owner_at = ap (slice_get given.program.modules) e ∙ i.owner_at;
    mode_at = ap (slice_get i.owner.modes) f ∙ i.mode_at;
    invocation_at = ap (invocation_of i.mode.invocations) g ∙ i.invocation_at;
    task_at = i.task_at;
  }

  -- the deadline is the invocation's end or earlier
  deadline-below : (m k n : ℕ) (i : Invoked given.program m k n) →
      deadline given.schedule m k n i.invocation.e.0 ≤ i.invocation.e.0
  deadline-below m k n i = by_found (find (is_bus_of m k n) given.schedule.windows) refl
    where
      by_found : (o : Option Window) → find (is_bus_of m k n) given.schedule.windows ≡ o →
          unwrap_or (option_map (λ (w : Window). w.offset) o) i.invocation.e.0 ≤ i.invocation.e.0
      by_found None e = omega arith
      by_found (Some w) e =
          let f = found_by (is_bus_of m k n) given.schedule.windows w e in
          let a = and_parts (is_bus w.resource) (is_of m k n w) f.passes in
          let b = and_parts (w.module.0 == m) (w.mode.0 == k && w.invocation == n) a.1 in
          let c = and_parts (w.mode.0 == k) (w.invocation == n) b.1 in
          let on = given.passes.on_bus f.place w f.at a.0
          (named_as m k n w.module.0 w.mode.0 w.invocation
          (eqb-true w.module.0 m b.0) (eqb-true w.mode.0 k c.0) (eqb-true w.invocation n c.1) i) in
          let r = on.1 in
          omega (arith, r)

  -- the own windows of an invocation lie between its start and its end
  between : (kk k n : ℕ) (i : Invoked given.program kk k n) (vs : List ImageWindow) →
      Every (FromSchedule given.schedule kk) vs → Between k n i.invocation.s.0 i.invocation.e.0 vs
  between kk k n i [] e = tt
  between kk k n i (v ∷ vs) e = (λ own. inside own, between kk k n i vs e.1)
    where
      inside : is_own k n v ≡ true → (i.invocation.s.0 ≤ v.offset) × (v.offset + v.length ≤ i.invocation.e.0)
      inside own =
          let f = e.0 in
          let w : Window = f.window in
          let own' : (not (is_bus w.resource) && (w.mode.0 == k && w.invocation == n)) ≡ true =
          ap (is_own k n) f.is ∙ own in
          let a = and_parts (not (is_bus w.resource)) (w.mode.0 == k && w.invocation == n) own' in
          let b = and_parts (w.mode.0 == k) (w.invocation == n) a.1 in
          let named : Invoked given.program w.module.0 w.mode.0 w.invocation =
          named_as kk k n w.module.0 w.mode.0 w.invocation f.owner (eqb-true w.mode.0 k b.0)
          (eqb-true w.invocation n b.1) i in
          let q = given.passes.within f.place w f.at (cpu (is_bus w.resource) a.0) named in
          let d : deadline given.schedule w.module.0 w.mode.0 w.invocation i.invocation.e.0 ≤ i.invocation.e.0 =
          deadline-below w.module.0 w.mode.0 w.invocation named in
          let o : w.offset ≡ v.offset = ap (λ (u : ImageWindow). u.offset) f.is in
          let l : w.length ≡ v.length = ap (λ (u : ImageWindow). u.length) f.is in
          let q0 = q.0 in
          let q1 = q.1 in
          (omega (arith, q0, o), omega (arith, q1, d, o, l))
        where
          cpu : (b : Bool) → not b ≡ true → b ≡ false
          cpu true h = absurd (cc h)
          cpu false h = refl

  -- the processor windows of an invocation end by its end
  end_by : (kk k n : ℕ) (i : Invoked given.program kk k n) (j : ℕ) (w : Window) →
      slice_get given.schedule.windows j ≡ Some w → is_cpu_of kk k n w ≡ true →
      w.offset + w.length ≤ i.invocation.e.0
  end_by kk k n i j w at is_cpu =
      let a = and_parts (if is_bus w.resource then false else true) (is_of kk k n w) is_cpu in
      let b = and_parts (w.module.0 == kk) (w.mode.0 == k && w.invocation == n) a.1 in
      let c = and_parts (w.mode.0 == k) (w.invocation == n) b.1 in
      let named : Invoked given.program w.module.0 w.mode.0 w.invocation =
      named_as kk k n w.module.0 w.mode.0 w.invocation (eqb-true w.module.0 kk b.0) (eqb-true w.mode.0 k c.0)
      (eqb-true w.invocation n c.1) i in
      let q = (given.passes.within j w at (cpu (is_bus w.resource) a.0) named).1 in
      let d = deadline-below w.module.0 w.mode.0 w.invocation named in
      omega (arith, q, d)
    where
      cpu : (b : Bool) → (if b then false else true) ≡ true → b ≡ false
      cpu true h = absurd (cc h)
      cpu false h = refl

  -- the windows of each invocation of a module cover nothing before its start, and its worst case at its end
  pub all_covered : (kk : ℕ) (m : Module) → slice_get given.program.modules kk ≡ Some m →
      WellModule given.program kk m → AllCovered m (hosted_of given.schedule kk m)
  all_covered kk m at well k mode is = record {
    early = λ n i it. covered_none k n i.s.0 i.e.0 (windows_of given.schedule kk) (all_between n (invoked n i it));
    full = λ n i it.
        let v = invoked n i it in
        let w = (well.modes k mode is).invocations n i it in
        let c = covers_all given.schedule kk k n i.e.0 (end_by kk k n v) in
        let e = given.passes.enough kk k n v in
        let worst : worst_case_of m i.task.0 ≡ w.definition.worst.0 =
        ap (λ o. unwrap_or (option_map (λ (u : Task). u.worst.0) o) 0) w.task in
        omega (arith, c, e, worst);
  }
    where
      invoked : (n : ℕ) (i : Invocation) → invocation_of mode.invocations n ≡ Some i → Invoked given.program kk k n
      invoked n i it =
          let w = (well.modes k mode is).invocations n i it in
          record {
            owner = m;
            mode = mode;
            invocation = i;
            task = w.definition;
            owner_at = at;
            mode_at = is;
            invocation_at = it;
            task_at = w.task;
          }

      all_between : (n : ℕ) (v : Invoked given.program kk k n) →
          Between k n v.invocation.s.0 v.invocation.e.0 (windows_of given.schedule kk)
      all_between n v = between kk k n v (windows_of given.schedule kk) (all_from given.schedule kk)
