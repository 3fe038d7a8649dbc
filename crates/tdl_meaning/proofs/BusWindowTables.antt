-- The bus windows of remote invocations in a schedule that passes, and that the stubs' receive entries fit them.
use Rattle.std.proofs.Common.{◌≡◌, ℕ, ◌+◌, ◌<◌, ◌≤◌, List, [], ◌∷◌, map, filter, length, Bool, true, false, ◌&&◌, ◌==◌, Some, refl, ap, ap₂, sym, ◌∙◌, subst₂, arith, ◌-◌}
use Rattle.std.specs.Prelude.{slice_get, option_map, unwrap_or, if◌then◌else◌, find, sum}
use Rattle.std.proofs.lemmas.Bool.{eqb-true, eq-eqb, and_parts, and_from}
use Rattle.std.proofs.lemmas.Option.{same_Some}
use Rattle.tdl_mode.specs.declared.program.Module.{Module}
use Rattle.tdl_mode.specs.declared.program.Mode.{Mode}
use Rattle.tdl_mode.specs.declared.program.Task.{Task}
use Rattle.tdl_mode.specs.declared.program.Invocation.{Invocation}
use Rattle.tdl_mode.specs.States.{invocation_of}
use Rattle.tdl_deploy.specs.declared.schedule.Window.{Window}
use Rattle.tdl_deploy.specs.Placed.{is_remote}
use Rattle.tdl_image.specs.declared.stub.Receive.{Receive}
use Rattle.tdl_deploy.specs.Passes.{is_bus, Invoked, is_of, is_bus_of, is_cpu_of, deadline}
use Rattle.tdl_gen.specs.Tables.{windows_of, bus_end, receives}
use Rattle.tdl_mode.specs.WellFormed.{WellModule}
use Rattle.tdl_meaning.proofs.FilterCounts.{some-passes, find-only}
use Rattle.tdl_meaning.proofs.ImageWindows.{scheduled_window, imaged_window}
use Rattle.tdl_gen.proofs.EntryTables.{origin}
use Rattle.tdl_meaning.specs.Accepted.{Accepted}
use Rattle.tdl_meaning.specs.BusTables.{WellReceive, Sender}

module _ (given : Accepted) (kk : ℕ) (m : Module) (there : slice_get given.program.modules kk ≡ Some m)
    (well : WellModule given.program kk m) where
  -- the bus window of a remote invocation: the only one, inside the invocation, and after all its processor windows
  pub record BusOf (k n : ℕ) (i : Invocation) : Type 0 where
    pub place : ℕ
    pub window : Window
    pub at : slice_get given.schedule.windows place ≡ Some window
    pub passes : is_bus_of kk k n window ≡ true
    pub found : find (is_bus_of kk k n) given.schedule.windows ≡ Some window
    pub one : length (filter (is_bus_of kk k n) given.schedule.windows) ≡ 1
    pub starts : i.s.0 < window.offset
    pub ends : window.offset + window.length ≤ i.e.0
    pub lasts : 0 < window.length
    pub done : (j : ℕ) (c : Window) → slice_get given.schedule.windows j ≡ Some c → is_cpu_of kk k n c ≡ true →
        c.offset + c.length ≤ window.offset

  -- what the test of a window of an invocation says
  of_invocation : (k n : ℕ) (w : Window) → is_of kk k n w ≡ true →
      (w.module.0 ≡ kk) × (w.mode.0 ≡ k) × (w.invocation ≡ n)
  of_invocation k n w e =
      let a = and_parts (w.module.0 == kk) (w.mode.0 == k && w.invocation == n) e in
      let b = and_parts (w.mode.0 == k) (w.invocation == n) a.1 in
      (eqb-true w.module.0 kk a.0, eqb-true w.mode.0 k b.0, eqb-true w.invocation n b.1)

  -- a window that passes the test is of this invocation of the program
  invoked : (k n : ℕ) (mode : Mode) (i : Invocation) (task : Task) → slice_get m.modes k ≡ Some mode →
      invocation_of mode.invocations n ≡ Some i → slice_get m.tasks i.task.0 ≡ Some task → (w : Window) →
      is_of kk k n w ≡ true →
      (j : Invoked given.program w.module.0 w.mode.0 w.invocation) × (j.invocation ≡ i)
  invoked k n mode i task km ni ti w e =
      let f = of_invocation k n w e in (
        record {
          owner = m;
          mode = mode;
          invocation = i;
          task = task;
          owner_at = ap (slice_get given.program.modules) f.0 ∙ there;
          mode_at = ap (slice_get m.modes) f.1 ∙ km;
          invocation_at = ap (invocation_of mode.invocations) f.2 ∙ ni;
          task_at = ti;
        },
        refl,
      )

  -- each remote invocation has a bus window
  pub bus_of : (k n : ℕ) (mode : Mode) (i : Invocation) (task : Task) → slice_get m.modes k ≡ Some mode →
      invocation_of mode.invocations n ≡ Some i → slice_get m.tasks i.task.0 ≡ Some task →
      is_remote given.program given.placement kk task ≡ true → BusOf k n i
  unfolding invoked
  bus_of k n mode i task km ni ti remote =
      let inv : Invoked given.program kk k n = record {
        owner = m;
        mode = mode;
        invocation = i;
        task = task;
        owner_at = there;
        mode_at = km;
        invocation_at = ni;
        task_at = ti;
      } in
      let one : length (filter (is_bus_of kk k n) given.schedule.windows) ≡ 1 =
      given.passes.one_bus kk k n inv ∙ ap (λ b. if b then 1 else 0) remote in
      let v = some-passes (is_bus_of kk k n) given.schedule.windows (omega (arith, one)) in
      let found = find-only (is_bus_of kk k n) given.schedule.windows one v.place v.item v.at v.passes in
      let vb = and_parts (is_bus v.item.resource) (is_of kk k n v.item) v.passes in
      let vi = invoked k n mode i task km ni ti v.item vb.1 in
      let on = given.passes.on_bus v.place v.item v.at vb.0 vi.0 in
      let worst = well.worsts i.task.0 task ti in
      let enough = given.passes.enough kk k n inv in
      let c = some-passes (is_cpu_of kk k n) given.schedule.windows
      (above (filter (is_cpu_of kk k n) given.schedule.windows) (omega (arith, worst, enough))) in
      let cb = and_parts (if is_bus c.item.resource then false else true) (is_of kk k n c.item) c.passes in
      let ci = invoked k n mode i task km ni ti c.item cb.1 in
      let inside = given.passes.within c.place c.item c.at (not_bus (is_bus c.item.resource) cb.0) ci.0 in
      let due : deadline given.schedule c.item.module.0 c.item.mode.0 c.item.invocation i.e.0 ≡ v.item.offset =
      deadline_is c.item cb.1 i.e.0 ∙ ap (λ o. unwrap_or (option_map (λ (w : Window). w.offset) o) i.e.0) found in
      let long = given.passes.lengths c.place c.item c.at in
      let from = inside.0 in
      let until = inside.1 in
      record {
        place = v.place;
        window = v.item;
        at = v.at;
        passes = v.passes;
        found = found;
        one = one;
        starts = omega (arith, from, until, long, due);
        ends = on.1;
        lasts = given.passes.lengths v.place v.item v.at;
        done = λ j c cat ct.
            let cb = and_parts (if is_bus c.resource then false else true) (is_of kk k n c) ct in
            let ci = invoked k n mode i task km ni ti c cb.1 in
            let until = (given.passes.within j c cat (not_bus (is_bus c.resource) cb.0) ci.0).1 in
            let due : deadline given.schedule c.module.0 c.mode.0 c.invocation i.e.0 ≡ v.item.offset =
            deadline_is c cb.1 i.e.0 ∙ ap (λ o. unwrap_or (option_map (λ (w : Window). w.offset) o) i.e.0) found in
            omega (arith, until, due);
      }
    where
      above : (l : List Window) → 0 < sum (map (λ (w : Window). w.length) l) → 0 < length l
      above [] lt = lt
      above (w ∷ l) lt = omega arith

      not_bus : (b : Bool) → (if b then false else true) ≡ true → b ≡ false
      not_bus true e = absurd (cc e)
      not_bus false e = refl

      deadline_is : (w : Window) → is_of kk k n w ≡ true → (e : ℕ) →
          deadline given.schedule w.module.0 w.mode.0 w.invocation e ≡ deadline given.schedule kk k n e
      deadline_is w t e =
          let f = of_invocation k n w t in
          ap (λ j. deadline given.schedule j w.mode.0 w.invocation e) f.0
          ∙ ap₂ (λ j l. deadline given.schedule kk j l e) f.1 f.2

  -- the receive entries of the module's stubs
  abbrev entries : List Receive
  entries = receives given.program given.placement given.schedule kk m

  -- the bus window of the invocation that a receive entry is of
  record EntryWindow (e : Receive) : Type 0 where
    mode : Mode
    mode_at : slice_get m.modes e.mode ≡ Some mode
    invocation : Invocation
    at : invocation_of mode.invocations e.invocation ≡ Some invocation
    task : invocation.task.0 ≡ e.task
    delta : e.delta ≡ invocation.e.0 - bus_end given.schedule kk e.mode e.invocation
    window : BusOf e.mode e.invocation invocation

  -- each receive entry has the bus window of its invocation
  entry_window : (j : ℕ) (e : Receive) → slice_get entries j ≡ Some e → EntryWindow e
  entry_window j e at =
      let o = origin given.program given.placement given.schedule kk m j e at in
      let there' : invocation_of o.mode.invocations e.invocation ≡ Some o.invocation =
      ap (invocation_of o.mode.invocations) o.number ∙ o.at in
      let task_there : slice_get m.tasks o.invocation.task.0 ≡ Some o.task =
      ap (slice_get m.tasks) o.of_task ∙ o.task_at in
      record {
        mode = o.mode;
        mode_at = o.mode_at;
        invocation = o.invocation;
        at = there';
        task = o.of_task;
        delta = o.delta;
        window = bus_of e.mode e.invocation o.mode o.invocation o.task o.mode_at there' task_there o.remote;
      }

  -- the invocation of a receive entry's mode and number is the one that its bus window is of
  entry_invocation : (e : Receive) (o : EntryWindow e) (mode : Mode) (i : Invocation) →
      slice_get m.modes e.mode ≡ Some mode → invocation_of mode.invocations e.invocation ≡ Some i → i ≡ o.invocation
  entry_invocation e o mode i mode_at at =
      let same_mode : mode ≡ o.mode = same_Some mode o.mode (sym mode_at ∙ o.mode_at) in
      same_Some i o.invocation
      (sym at ∙ ap (λ (d : Mode). invocation_of d.invocations e.invocation) same_mode ∙ o.at)

  -- each receive entry is of its invocation's task, and waits from the end of its bus window to the invocation's end
  pub well_receive : (j : ℕ) (e : Receive) → slice_get entries j ≡ Some e →
      WellReceive m (windows_of given.schedule kk) e
  unfolding entry_window
  well_receive j e at mode i n w mode_at iat wat bus wmode winv =
      let o = entry_window j e at in
      let b = o.window in
      let same = entry_invocation e o mode i mode_at iat in
      let v = scheduled_window given.schedule kk n w wat bus in
      let is : is_bus_of kk e.mode e.invocation v.window ≡ true =
      and_from _ _ v.bus' (and_from _ _ (eq-eqb v.window.module.0 kk v.module')
      (and_from _ _ (eq-eqb v.window.mode.0 e.mode (v.mode' ∙ wmode))
      (eq-eqb v.window.invocation e.invocation (v.invocation' ∙ winv)))) in
      let found = find-only (is_bus_of kk e.mode e.invocation) given.schedule.windows b.one v.place v.window v.at is in
      let only : b.window ≡ v.window = same_Some b.window v.window (sym b.found ∙ found) in
      let end : bus_end given.schedule kk e.mode e.invocation ≡ w.offset + w.length =
      ap (λ q. unwrap_or (option_map (λ (w : Window). w.offset + w.length) q) 0) found
      ∙ ap₂ (λ c d. c + d) v.offset' v.length' in
      let within : w.offset + w.length ≤ o.invocation.e.0 =
      subst₂ (λ c d. c + d ≤ o.invocation.e.0) (ap (λ (v : Window). v.offset) only ∙ v.offset')
      (ap (λ (v : Window). v.length) only ∙ v.length') b.ends in
      let delta = o.delta in
      let ie : i.e.0 ≡ o.invocation.e.0 = ap (λ (i : Invocation). i.e.0) same in
      (ap (λ (i : Invocation). i.task.0) same ∙ o.task, omega (arith, end, within, delta, ie))

  -- each receive entry has a bus window in the image, after its invocation's start
  pub sender : (j : ℕ) (e : Receive) → slice_get entries j ≡ Some e → Sender m (windows_of given.schedule kk) e
  unfolding entry_window
  sender j e at =
      let o = entry_window j e at in
      let b = o.window in
      let tests = and_parts (is_bus b.window.resource) (is_of kk e.mode e.invocation b.window) b.passes in
      let f = of_invocation e.mode e.invocation b.window tests.1 in
      let w = imaged_window given.schedule kk b.place b.window b.at f.0 tests.0 in
      let lasts = b.lasts in
      let len = w.length' in
      record {
        place = w.place;
        window = w.window;
        at = w.at;
        bus = w.bus';
        mode' = w.mode' ∙ f.1;
        invocation = w.invocation' ∙ f.2;
        lasts = omega (arith, lasts, len);
        begins = λ mode i mode_at iat.
            let same : i.s.0 ≡ o.invocation.s.0 =
            ap (λ (i : Invocation). i.s.0) (entry_invocation e o mode i mode_at iat) in
            let starts = b.starts in
            let off = w.offset' in
            omega (arith, same, starts, off);
      }
