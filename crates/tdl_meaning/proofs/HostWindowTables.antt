-- Each bus window of a compiled module lies inside its invocation, after windows that cover the worst case.
use Rattle.std.proofs.Common.{◌≡◌, ℕ, ◌<◌, ◌≤◌, filter, length, Bool, true, false, Some, refl, ap, ap₂, sym, ◌∙◌, subst₂, arith}
use Rattle.std.specs.Prelude.{slice_get, option_map, unwrap_or, if◌then◌else◌}
use Rattle.std.proofs.lemmas.Bool.{eq-eqb, and_from}
use Rattle.std.proofs.lemmas.Option.{same_Some, slice_get_within}
use Rattle.tdl_mode.specs.declared.program.Module.{Module}
use Rattle.tdl_mode.specs.declared.program.Mode.{Mode}
use Rattle.tdl_mode.specs.declared.program.Task.{Task}
use Rattle.tdl_mode.specs.declared.program.Invocation.{Invocation}
use Rattle.tdl_mode.specs.States.{invocation_of}
use Rattle.tdl_deploy.specs.declared.schedule.Window.{Window}
use Rattle.tdl_deploy.specs.Placed.{is_remote}
use Rattle.tdl_image.specs.declared.hosted.Hosted.{Hosted}
use Rattle.tdl_image.specs.declared.hosted.ImageWindow.{ImageWindow}
use Rattle.tdl_verify.specs.Bus.{task_of}
use Rattle.tdl_deploy.specs.Passes.{Invoked, is_bus_of}
use Rattle.tdl_gen.specs.Tables.{windows_of}
use Rattle.tdl_verify.specs.Covered.{covered_by}
use Rattle.tdl_mode.specs.WellFormed.{WellModule}
use Rattle.tdl_meaning.proofs.FilterCounts.{filter-some, find-only}
use Rattle.tdl_meaning.proofs.ImageWindows.{scheduled_window}
use Rattle.tdl_meaning.proofs.BusWindowTables.{bus_of}
use Rattle.tdl_meaning.proofs.WindowsCover.{covers_all}
use Rattle.tdl_meaning.specs.Accepted.{Accepted}
use Rattle.tdl_deploy.specs.AtRelease.{worst_case_of}
use Rattle.tdl_meaning.specs.BusTables.{WellWindow}

module _ (given : Accepted) (kk : ℕ) (m : Module) (there : slice_get given.program.modules kk ≡ Some m)
    (well : WellModule given.program kk m) (h : Hosted) (windows : h.windows ≡ windows_of given.schedule kk) where
  -- each bus window is such, where the tables name the task of each invocation
  pub well_window : ((mode : Mode) (i : Invocation) (k n : ℕ) → slice_get m.modes k ≡ Some mode →
      invocation_of mode.invocations n ≡ Some i → task_of h k n ≡ i.task.0) →
      (n : ℕ) (w : ImageWindow) → slice_get h.windows n ≡ Some w → w.bus ≡ true → WellWindow m h w
  well_window tasks n w at wb =
      let v = scheduled_window given.schedule kk n w (ap (λ ws. slice_get ws n) (sym windows) ∙ at) wb in
      let inv = given.passes.invoked v.place v.window v.at in
      let own : inv.owner ≡ m =
      same_Some inv.owner m (sym inv.owner_at ∙ ap (slice_get given.program.modules) v.module' ∙ there) in
      let km : slice_get m.modes w.mode ≡ Some inv.mode =
      ap₂ (λ (t : Module) k. slice_get t.modes k) (sym own) (sym v.mode') ∙ inv.mode_at in
      let ni : invocation_of inv.mode.invocations w.invocation ≡ Some inv.invocation =
      ap (invocation_of inv.mode.invocations) (sym v.invocation') ∙ inv.invocation_at in
      let ti : slice_get m.tasks inv.invocation.task.0 ≡ Some inv.task =
      ap (λ (t : Module). slice_get t.tasks inv.invocation.task.0) (sym own) ∙ inv.task_at in
      let is : is_bus_of kk w.mode w.invocation v.window ≡ true =
      and_from _ _ v.bus' (and_from _ _ (eq-eqb v.window.module.0 kk v.module')
      (and_from _ _ (eq-eqb v.window.mode.0 w.mode v.mode')
      (eq-eqb v.window.invocation w.invocation v.invocation'))) in
      let mine : Invoked given.program kk w.mode w.invocation = record {
        owner = m;
        mode = inv.mode;
        invocation = inv.invocation;
        task = inv.task;
        owner_at = there;
        mode_at = km;
        invocation_at = ni;
        task_at = ti;
      } in
      let some = filter-some (is_bus_of kk w.mode w.invocation) given.schedule.windows v.place v.window v.at is in
      let remote : is_remote given.program given.placement kk inv.task ≡ true =
      is_there (is_remote given.program given.placement kk inv.task)
      (length (filter (is_bus_of kk w.mode w.invocation) given.schedule.windows))
      (given.passes.one_bus kk w.mode w.invocation mine) some in
      let b = bus_of given kk m there well w.mode w.invocation inv.mode inv.invocation inv.task km ni ti remote in
      let found = find-only (is_bus_of kk w.mode w.invocation) given.schedule.windows b.one v.place v.window v.at is in
      let only : b.window ≡ v.window = same_Some b.window v.window (sym b.found ∙ found) in
      let offset : b.window.offset ≡ w.offset = ap (λ (v : Window). v.offset) only ∙ v.offset' in
      let size : b.window.length ≡ w.length = ap (λ (v : Window). v.length) only ∙ v.length' in
      let starts = b.starts in
      let ends = b.ends in
      let lasts = b.lasts in
      let enough = given.passes.enough kk w.mode w.invocation mine in
      let cover = covers_all given.schedule kk w.mode w.invocation b.window.offset b.done in
      let worst : worst_case_of m inv.invocation.task.0 ≡ inv.task.worst.0 =
      ap (λ o. unwrap_or (option_map (λ (u : Task). u.worst.0) o) 0) ti in
      let full : worst_case_of m inv.invocation.task.0
      ≤ covered_by w.mode w.invocation b.window.offset (windows_of given.schedule kk) =
      omega (arith, worst, enough, cover) in
      record {
        mode = inv.mode;
        mode_at = km;
        invocation = inv.invocation;
        at = ni;
        after = omega (arith, starts, offset);
        within = omega (arith, ends, offset, size);
        lasts = omega (arith, lasts, size);
        full = subst₂ (λ d ws. worst_case_of m inv.invocation.task.0 ≤ covered_by w.mode w.invocation d ws) offset
            (sym windows) full;
        task = tasks inv.mode inv.invocation w.mode w.invocation km ni;
        there = slice_get_within m.tasks inv.invocation.task.0 inv.task ti;
      }
    where
      is_there : (r : Bool) (n : ℕ) → n ≡ (if r then 1 else 0) → 0 < n → r ≡ true
      is_there true n e lt = refl
      is_there false n e lt = absurd (omega (arith, e, lt))
