-- In a run of a well-formed program the active jobs of each module are open.
use Rattle.std.proofs.Common.{◌≡◌, inl, inr, ℕ, zero, suc, ℤ, ◌+◌, ◌<◌, List, [], ◌∷◌, map, length, Bool, true, false, ◌&&◌, ◌==◌, Option, Some, None, refl, ap, ap₂, sym, ◌∙◌, subst, arith}
use Rattle.std.specs.Prelude.{slice_get, option_map, unwrap_or, if◌then◌else◌, find}
use Rattle.std.proofs.lemmas.Bool.{eqb-true, eq-eqb, and_parts}
use Rattle.std.proofs.lemmas.Bool.Decides.{nat_tests}
use Rattle.std.proofs.lemmas.Option.{slice_get_within, same_Some}
use Rattle.tdl_base.specs.Lists.{changed_at}
use Rattle.tdl_base.specs.Sensed.{Sensed, Course}
use Rattle.tdl_base.specs.declared.numbers.PortKey.{PortKey}
use Rattle.tdl_base.proofs.Finding.{found_by}
use Rattle.tdl_body.specs.Values.{Look, holds}
use Rattle.tdl_mode.specs.declared.program.Program.{Program}
use Rattle.tdl_mode.specs.declared.program.Module.{Module}
use Rattle.tdl_mode.specs.declared.program.Mode.{Mode}
use Rattle.tdl_mode.specs.declared.program.Switch.{Switch}
use Rattle.tdl_mode.specs.declared.program.Invocation.{Invocation}
use Rattle.tdl_mode.specs.States.{Job, TaskState, ModuleState, State, invocation_of, invocations_now, look_of, outputs_in}
use Rattle.tdl_mode.specs.Phases.{job_ends, ended, task_after, phase_one, phase_two, phase_three, switched, switch_target, switches_now, is_over, released, releases, phase_four}
use Rattle.tdl_mode.specs.Instants.{look_in, begun_task, entered, begun, alone, state_at}
use Rattle.tdl_mode.specs.WellFormed.{WellFormed, WellModule}
use Rattle.tdl_mode.specs.Laws.{KeptOrReleased}
use Rattle.tdl_mode.proofs.ModuleByModule.{logical-alone}
use Rattle.tdl_quiet.specs.Standing.{IsOpen, JobsOpen}
use Rattle.tdl_quiet.proofs.Places.{item_at, numbered-from, mapped-from}
use Rattle.tdl_quiet.proofs.Standing.{switched-definition, state_at-definition}

-- the job is open at x, and still at y
record IsStillOpen (x y : ℕ) (m : ModuleState) (t : ℕ) (job : Job) : Type 0 where
  open' : IsOpen x m t job
  later : y < m.base + open'.invocation.e.0

-- ---- phase 1

-- a module m whose jobs are open at x, at the next instant y
module _ (x y : ℕ) (m : ModuleState) (next : y ≡ suc x) (jobs : JobsOpen x m) where
  -- a job that does not end is still open
  still_open : (t : ℕ) (job : Job) → IsOpen x m t job → job_ends m y job ≡ false → IsStillOpen x y m t job
  still_open t job o goes = record {
    open' = o;
    later = let u = o.unended in past (m.base + o.invocation.e.0) u (sym ends_there ∙ goes);
  }
    where
      ends_at : Option Invocation → Bool
      ends_at None = false
      ends_at (Some i) = m.base + i.e.0 == y

      ends_there : job_ends m y job ≡ (m.base + o.invocation.e.0 == y)
      ends_there =
          ap₂ (λ own i. own && ends_at i) (eq-eqb job.mode m.mode o.own)
          (ap (λ o. invocation_of (unwrap_or (option_map (λ (mode : Mode). mode.invocations) o) []) job.invocation)
          o.now ∙ o.there)

      past : (n : ℕ) → x < n → (n == y) ≡ false → y < n
      past n lt ne = grind (arith, nat_tests, lt, ne, next)

  -- a job that is active after its task's termination did not end
  task_after-open : (t : ℕ) (u : TaskState) (job : Job) → slice_get m.tasks t ≡ Some u →
      (task_after m y u).active ≡ Some job → IsStillOpen x y m t job
  task_after-open t u job at is = by_active u.active refl
    where
      active_after : Option Job → Option Job
      active_after o =
          (if unwrap_or (option_map (job_ends m y) o) false then unwrap_or (option_map (ended u) o) u else u).active

      by_end : (j : Job) → u.active ≡ Some j → (b : Bool) → job_ends m y j ≡ b →
          (if b then ended u j else u).active ≡ Some job → IsStillOpen x y m t job
      by_end j e true ends after = absurd (cc after)
      by_end j e false ends after =
          let same : j ≡ job = same_Some j job (sym e ∙ after) in
          still_open t job (jobs t u job at after) (ap (job_ends m y) (sym same) ∙ ends)

      by_active : (o : Option Job) → u.active ≡ o → IsStillOpen x y m t job
      by_active None e =
          let after : u.active ≡ Some job = sym (ap active_after e) ∙ is in absurd (cc (e, after))
      by_active (Some j) e = by_end j e (job_ends m y j) refl (sym (ap active_after e) ∙ is)

  -- so the jobs that are active after phase 1 are still open
  phase_one-open : (t : ℕ) (u : TaskState) (job : Job) → slice_get (phase_one y m).tasks t ≡ Some u →
      u.active ≡ Some job → IsStillOpen x y m t job
  phase_one-open t u job at is =
      let from = mapped-from (task_after m y) t m.tasks u at in
      task_after-open t from.item job from.at (ap (λ (u : TaskState). u.active) from.is ∙ is)

-- ---- phase 3

-- a module u whose active jobs are still open at the next instant y, in its phase 3
module _ (program : Program) (kk x y : ℕ) (u : ModuleState) (look : Look) (next : y ≡ suc x)
    (well : WellModule program kk u.definition)
    (jobs : (t : ℕ) (w : TaskState) (job : Job) → slice_get u.tasks t ≡ Some w → w.active ≡ Some job →
    IsStillOpen x y u t job) where
  -- the switch stands at y, and its guard holds
  abbrev is_taken : Switch → Bool
  is_taken w = u.base + w.at.0 == y && holds w.guard look

  -- where a switch is taken no job is open
  none-switched : (w : Switch) → find is_taken (switches_now u) ≡ Some w → (t : ℕ) (job : Job) →
      IsStillOpen x y u t job → ⊥
  none-switched w found t job g =
      let o = g.open' in
      let here = found_by is_taken o.mode.switches w
      (sym (ap (λ o. find is_taken (unwrap_or (option_map (λ mode. mode.switches) o) [])) o.now) ∙ found) in
      let at : u.base + w.at.0 ≡ y =
      eqb-true (u.base + w.at.0) y (and_parts (u.base + w.at.0 == y) (holds w.guard look) here.passes).0 in
      let started = o.started in
      let later = g.later in
      (well.modes u.mode o.mode o.now).closed here.place job.invocation w o.invocation here.at o.there
      (omega (arith, at, started, next)) (omega (arith, at, later))

  -- where the period is over none is either
  none-over : is_over u y ≡ true → (t : ℕ) (job : Job) → IsStillOpen x y u t job → ⊥
  none-over over t job g =
      let o = g.open' in
      let at : u.base + o.mode.period.0 ≡ y =
      eqb-true (u.base + o.mode.period.0) y
      (sym (ap (λ o. unwrap_or (option_map (λ (mode : Mode). u.base + mode.period.0 == y) o) false) o.now) ∙ over) in
      let ends = ((well.modes u.mode o.mode o.now).invocations job.invocation o.invocation o.there).ends in
      let later = g.later in
      omega (arith, at, ends, later)

  -- so the jobs that are active after phase 3 are open
  phase_three-open : JobsOpen y (phase_three y look u)
  phase_three-open = by_switch (find is_taken (switches_now u)) refl
    where
      by_over : (over : Bool) → is_over u y ≡ over → JobsOpen y (if over then record u { base = y } else u)
      by_over true e t w job at is = absurd (none-over e t job (jobs t w job at is))
      by_over false e t w job at is =
          let g = jobs t w job at is in
          let o = g.open' in
          record {
            mode = o.mode;
            now = o.now;
            own = o.own;
            invocation = o.invocation;
            there = o.there;
            task = o.task;
            started = let started = o.started in omega (arith, started, next);
            unended = g.later;
          }

      by_switch : (o : Option Switch) → find is_taken (switches_now u) ≡ o →
          JobsOpen y (switched y u (option_map (λ w. w.target.0) o))
      by_switch None found t z job at is = by_over (is_over u y) refl t z job at is
      by_switch (Some w) found t z job at is = absurd (none-switched w found t job (jobs t z job at is))

-- ---- phase 4

-- a change of one item leaves the number of items
length-changed : {A : Type 0} (k : ℕ) (f : A → A) (xs : List A) → length (changed_at k f xs) ≡ length xs
length-changed k f [] = refl
length-changed zero f (x ∷ xs) = refl
length-changed (suc k) f (x ∷ xs) = ap suc (length-changed k f xs)

-- releases leave the number of tasks
length-releases : (m : ModuleState) (x : ℕ) (look : Look) (k : ℕ) (is : List Invocation) (us : List TaskState) →
    length (releases m x look k is us) ≡ length us
length-releases m x look k [] us = refl
length-releases m x look k (i ∷ is) us =
    length-releases m x look (suc k) is _ ∙ by_test (m.base + i.s.0 == x && holds i.guard look)
  where
    by_test : (b : Bool) →
        length (if b then changed_at i.task.0 (released m.mode k i look) us else us) ≡ length us
    by_test true = length-changed i.task.0 (released m.mode k i look) us
    by_test false = refl

-- a task after the releases is as it was, or has a new job
abbrev pub KeepsOrReleases : Type 0
KeepsOrReleases = (x t : ℕ) (m : ModuleState) (look : Look) (before after : TaskState) →
    slice_get m.tasks t ≡ Some before → slice_get (phase_four x look m).tasks t ≡ Some after →
    KeptOrReleased x m look t before after

-- since that is so, the jobs that are active after phase 4 are open
phase_four-open : KeepsOrReleases → (program : Program) (kk y : ℕ) (look : Look) (v : ModuleState) →
    WellModule program kk v.definition → JobsOpen y v → JobsOpen y (phase_four y look v)
phase_four-open keeps program kk y look v well jobs t u job at is =
    let within = slice_get_within (phase_four y look v).tasks t u at in
    let size = length-releases v y look 1 (invocations_now v) v.tasks in
    let before = item_at v.tasks t (omega (arith, within, size)) in
    by_release before.item before.at (keeps y t v look before.item u before.at at)
  where
    by_release : (before : TaskState) → slice_get v.tasks t ≡ Some before → KeptOrReleased y v look t before u →
        IsOpen y (phase_four y look v) t job
    by_release before there (inl same) =
        let o = jobs t before job there (ap (λ (u : TaskState). u.active) (sym same) ∙ is) in
        record {
          mode = o.mode;
          now = o.now;
          own = o.own;
          invocation = o.invocation;
          there = o.there;
          task = o.task;
          started = o.started;
          unended = o.unended;
        }
    by_release before there (inr r) =
        let new : r.job ≡ job = same_Some r.job job (sym (ap (λ (u : TaskState). u.active) r.active) ∙ is) in
        let at = r.at in
        let lasts = ((well.modes v.mode r.mode r.now).invocations r.job.invocation r.invocation r.there).lasts in
        subst (IsOpen y (phase_four y look v) t) new (record {
          mode = r.mode;
          now = r.now;
          own = r.own;
          invocation = r.invocation;
          there = r.there;
          task = r.task;
          started = omega (arith, at);
          unended = omega (arith, at, lasts);
        })

-- ---- the whole instant, and a run

module _ (keeps : KeepsOrReleases) (program : Program) where
  -- where the jobs are open at x, they are at the next instant
  alone-open : (kk k x : ℕ) (sensed : Sensed) (seen : PortKey → ℤ) (m : ModuleState) →
      WellModule program kk m.definition → JobsOpen x m → JobsOpen (suc x) (alone k (suc x) sensed seen m)
  unfolding alone
  alone-open kk k x sensed seen m well jobs =
      let look : Look = look_of k (phase_one (suc x) m).tasks sensed seen in
      let two : ModuleState = phase_two (suc x) look (phase_one (suc x) m) in
      phase_four-open keeps program kk (suc x) look (phase_three (suc x) look two)
      (subst (WellModule program kk) (sym (switched-definition (suc x) two (switch_target two (suc x) look))) well)
      (phase_three-open program kk x (suc x) two look refl well (λ t u job at is.
      let g = phase_one-open x (suc x) m refl jobs t u job at is in
      let o = g.open' in
      record {
        open' = record {
          mode = o.mode;
          now = o.now;
          own = o.own;
          invocation = o.invocation;
          there = o.there;
          task = o.task;
          started = o.started;
          unended = o.unended;
        };
        later = g.later;
      }))

  -- a module begins without jobs
  entered-open : (d : Module) → JobsOpen 0 (entered d)
  entered-open d t u job at is =
      let from = mapped-from begun_task t d.tasks u at in
      absurd (cc (ap (λ (u : TaskState). u.active) from.is, is))

  -- so at each instant of a run the active jobs of each module are open
  pub state_at-open : (course : Course) (x k : ℕ) (m : ModuleState) → WellFormed program →
      slice_get (state_at program course x) k ≡ Some m → JobsOpen x m
  unfolding state_at begun
  state_at-open course zero k m well at =
      let first : State = map entered program.modules in
      let from = numbered-from (λ k r. phase_four 0 (look_in first (course 0) k r) r) 0 k first m at in
      let d = mapped-from entered k program.modules from.item from.at in
      subst (JobsOpen 0) from.is
      (subst (λ r. JobsOpen 0 (phase_four 0 (look_in first (course 0) (0 + k) r) r)) d.is
      (phase_four-open keeps program k 0 (look_in first (course 0) (0 + k) (entered d.item)) (entered d.item)
      (well.modules k d.item d.at) (entered-open d.item)))
  state_at-open course (suc x) k m well at =
      let before : State = state_at program course x in
      let seen : PortKey → ℤ = outputs_in (map (phase_one (suc x)) before) in
      let from = numbered-from (λ k r. alone k (suc x) (course (suc x)) seen r) 0 k before m
      (sym (ap (λ s. slice_get s k) (logical-alone (suc x) (course (suc x)) before)) ∙ at) in
      subst (JobsOpen (suc x)) from.is
      (alone-open k (0 + k) x (course (suc x)) seen from.item
      (well.modules k from.item.definition (state_at-definition program course x k from.item from.at))
      (state_at-open course x k from.item well from.at))
