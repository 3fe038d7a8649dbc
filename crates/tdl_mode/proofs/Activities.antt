-- What ends, is updated, switches or is released at an instant stands at it in the text of the mode.
use Rattle.std.proofs.Common.{◌≡◌, ◌⊎◌, inl, inr, ℕ, zero, suc, ◌+◌, ℤ, List, [], ◌∷◌, Bool, true, false, ◌&&◌, ◌==◌, Option, Some, None, refl, ap, sym, ◌∙◌, subst, arith}
use Rattle.std.specs.Prelude.{slice_get, option_map, unwrap_or, if◌then◌else◌, find}
use Rattle.std.proofs.lemmas.Bool.{eqb-true, and_parts}
use Rattle.std.proofs.lemmas.Option.{same_Some}
use Rattle.tdl_base.specs.Lists.{changed_at}
use Rattle.tdl_base.specs.Numbers.{narrowed}
use Rattle.tdl_base.specs.declared.kinds.Kind.{Kind}
use Rattle.tdl_base.specs.declared.kinds.Kind.TheVariants.{Long}
use Rattle.tdl_body.specs.Values.{Look, holds, value_of}
use Rattle.tdl_mode.specs.declared.program.Mode.{Mode}
use Rattle.tdl_mode.specs.declared.program.Invocation.{Invocation}
use Rattle.tdl_mode.specs.declared.program.Update.{Update}
use Rattle.tdl_mode.specs.declared.program.Switch.{Switch}
use Rattle.tdl_mode.specs.States.{Job, TaskState, ModuleState, present, invocation_of}
use Rattle.tdl_mode.specs.Phases.{job_ends, update_value, switch_target, released, releases, phase_four}
use Rattle.tdl_mode.specs.Laws.{EndsAt, UpdatesTo, SwitchesTo, KeptOrReleased}
use Rattle.tdl_base.proofs.Finding.{found_by}

-- the invocations of a mode that was looked up
abbrev invocations_in : Option Mode → List Invocation
invocations_in found = unwrap_or (option_map (λ mode. mode.invocations) found) []

-- ---- phase 1

-- a job that ends does so at the end of its invocation
pub job_ends-at : (x : ℕ) (m : ModuleState) (job : Job) → job_ends m x job ≡ true → EndsAt x m job
job_ends-at x m job ends = by_mode (present m) refl ends
  where
    ends_at : Option Invocation → Bool
    ends_at None = false
    ends_at (Some i) = m.base + i.e.0 == x

    by_invocation : (mode : Mode) → present m ≡ Some mode → (job.mode == m.mode) ≡ true →
        (o : Option Invocation) → invocation_of mode.invocations job.invocation ≡ o → ends_at o ≡ true → EndsAt x m job
    by_invocation mode now own None there at = absurd (cc at)
    by_invocation mode now own (Some i) there at =
        record {
          mode = mode;
          now = now;
          own = eqb-true job.mode m.mode own;
          invocation = i;
          there = there;
          at = eqb-true (m.base + i.e.0) x at;
        }

    by_mode : (o : Option Mode) → present m ≡ o →
        (job.mode == m.mode && ends_at (invocation_of (invocations_in o) job.invocation)) ≡ true → EndsAt x m job
    by_mode None now ends =
        let parts = and_parts (job.mode == m.mode) (ends_at (invocation_of [] job.invocation)) ends in
        absurd (nowhere job.invocation parts.1)
      where
        nowhere : (n : ℕ) → ends_at (invocation_of [] n) ≡ true → ⊥
        nowhere zero h = cc h
        nowhere (suc n) h = cc h
    by_mode (Some mode) now ends =
        let parts = and_parts (job.mode == m.mode) (ends_at (invocation_of mode.invocations job.invocation)) ends in
        by_invocation mode now parts.0 (invocation_of mode.invocations job.invocation) refl parts.1

-- ---- phase 2

-- an actuator's new number is that of an update of it that stands at x and whose guard holds
pub update_value-from : (x : ℕ) (m : ModuleState) (look : Look) (a : ℕ) (v : ℤ) →
    update_value m x look a ≡ Some v → UpdatesTo x m look a v
update_value-from x m look a v is = by_mode (present m) refl is
  where
    kind : Kind
    kind = unwrap_or (option_map (λ p. p.kind) (slice_get m.definition.actuators a)) Long

    test : Update → Bool
    test u = u.actuator == a && (m.base + u.at.0 == x && holds u.guard look)

    number : Update → ℤ
    number u = narrowed kind (value_of u.value look)

    by_update : (mode : Mode) → present m ≡ Some mode → (o : Option Update) → find test mode.updates ≡ o →
        option_map number o ≡ Some v → UpdatesTo x m look a v
    by_update mode now None found is = absurd (cc is)
    by_update mode now (Some u) found is =
        let here = found_by test mode.updates u found in
        let parts = and_parts (u.actuator == a) (m.base + u.at.0 == x && holds u.guard look) here.passes in
        let rest = and_parts (m.base + u.at.0 == x) (holds u.guard look) parts.1 in
        record {
          mode = mode;
          now = now;
          place = here.place;
          update = u;
          there = here.at;
          actuator = eqb-true u.actuator a parts.0;
          at = eqb-true (m.base + u.at.0) x rest.0;
          guard = rest.1;
          value = sym (same_Some (number u) v is);
        }

    by_mode : (o : Option Mode) → present m ≡ o →
        option_map number (find test (unwrap_or (option_map (λ mode. mode.updates) o) [])) ≡ Some v →
        UpdatesTo x m look a v
    by_mode None now is = absurd (cc is)
    by_mode (Some mode) now is = by_update mode now (find test mode.updates) refl is

-- ---- phase 3

-- the mode that is switched to is that of a switch that stands at x and whose guard holds
pub switch_target-from : (x : ℕ) (m : ModuleState) (look : Look) (k : ℕ) →
    switch_target m x look ≡ Some k → SwitchesTo x m look k
switch_target-from x m look k is = by_mode (present m) refl is
  where
    test : Switch → Bool
    test w = m.base + w.at.0 == x && holds w.guard look

    by_switch : (mode : Mode) → present m ≡ Some mode → (o : Option Switch) → find test mode.switches ≡ o →
        option_map (λ w. w.target.0) o ≡ Some k → SwitchesTo x m look k
    by_switch mode now None found is = absurd (cc is)
    by_switch mode now (Some w) found is =
        let here = found_by test mode.switches w found in
        let parts = and_parts (m.base + w.at.0 == x) (holds w.guard look) here.passes in
        record {
          mode = mode;
          now = now;
          place = here.place;
          switch = w;
          there = here.at;
          target = same_Some w.target.0 k is;
          at = eqb-true (m.base + w.at.0) x parts.0;
          guard = parts.1;
        }

    by_mode : (o : Option Mode) → present m ≡ o →
        option_map (λ w. w.target.0) (find test (unwrap_or (option_map (λ mode. mode.switches) o) [])) ≡ Some k →
        SwitchesTo x m look k
    by_mode None now is = absurd (cc is)
    by_mode (Some mode) now is = by_switch mode now (find test mode.switches) refl is

-- ---- phase 4

-- the item of place t after a change of item k: as it was, or the change of item k where t is k
changed_at-cases : {A : Type 0} (k : ℕ) (f : A → A) (xs : List A) (t : ℕ) (u : A) → slice_get xs t ≡ Some u →
    (slice_get (changed_at k f xs) t ≡ Some u) ⊎ ((k ≡ t) × (slice_get (changed_at k f xs) t ≡ Some (f u)))
changed_at-cases k f [] t u at = absurd (cc at)
changed_at-cases zero f (x ∷ xs) zero u at = inr (refl, ap (option_map f) at)
changed_at-cases zero f (x ∷ xs) (suc t) u at = inl at
changed_at-cases (suc k) f (x ∷ xs) zero u at = inl at
changed_at-cases (suc k) f (x ∷ xs) (suc t) u at = later (changed_at-cases k f xs t u at)
  where
    later : (slice_get (changed_at k f xs) t ≡ Some u) ⊎ ((k ≡ t) × (slice_get (changed_at k f xs) t ≡ Some (f u))) →
        (slice_get (changed_at k f xs) t ≡ Some u) ⊎ ((suc k ≡ suc t) × (slice_get (changed_at k f xs) t ≡ Some (f u)))
    later (inl same) = inl same
    later (inr (e, is)) = inr (ap suc e, is)

-- a module m that is in `mode`, at x, and one of its tasks: number t, `before` the releases
module _ (x : ℕ) (m : ModuleState) (look : Look) (mode : Mode) (now : present m ≡ Some mode)
    (t : ℕ) (before : TaskState) where
  -- the task, as it was or with a job of an invocation that starts
  abbrev Kept : TaskState → Type 0
  Kept after = KeptOrReleased x m look t before after

  -- these are the invocations of the mode from place n on
  abbrev From : ℕ → List Invocation → Type 0
  From n is = (q : ℕ) → slice_get is q ≡ slice_get mode.invocations (n + q)

  -- so are those after the first
  from_next : (n : ℕ) (i : Invocation) (is : List Invocation) → From n (i ∷ is) → From (suc n) is
  from_next n i is from q =
      let e : n + suc q ≡ suc n + q = omega arith in from (suc q) ∙ ap (slice_get mode.invocations) e

  -- a release gives the task a job of its invocation
  released-kept : (n : ℕ) (i : Invocation) (is : List Invocation) → From n (i ∷ is) → i.task.0 ≡ t →
      (m.base + i.s.0 == x && holds i.guard look) ≡ true →
      (u : TaskState) → Kept u → Kept (released m.mode (suc n) i look u)
  released-kept n i is from task passes u kept = inr record {
    job = record { mode = m.mode; invocation = suc n; inputs = _ };
    active = same kept;
    mode = mode;
    now = now;
    own = refl;
    invocation = i;
    there = let e : n ≡ n + 0 = omega arith in ap (slice_get mode.invocations) e ∙ sym (from 0);
    task = task;
    at = eqb-true (m.base + i.s.0) x (and_parts (m.base + i.s.0 == x) (holds i.guard look) passes).0;
    guard = (and_parts (m.base + i.s.0 == x) (holds i.guard look) passes).1;
    inputs = refl;
  }
    where
      same : Kept u → released m.mode (suc n) i look u ≡ released m.mode (suc n) i look before
      same (inl e) = ap (released m.mode (suc n) i look) e
      same (inr r) = ap (released m.mode (suc n) i look) r.active

  -- the task after the releases of the invocations from place n on
  releases-kept : (n : ℕ) (is : List Invocation) → From n is → (ts : List TaskState) (u after : TaskState) →
      slice_get ts t ≡ Some u → Kept u → slice_get (releases m x look (suc n) is ts) t ≡ Some after → Kept after
  releases-kept n [] from ts u after at kept is = subst Kept (same_Some u after (sym at ∙ is)) kept
  releases-kept n (i ∷ is) from ts u after at kept found =
      by_test (releases-kept (suc n) is (from_next n i is from)) (m.base + i.s.0 == x && holds i.guard look) refl found
    where
      changed : List TaskState
      changed = changed_at i.task.0 (released m.mode (suc n) i look) ts

      by_test : ((ts : List TaskState) (u after : TaskState) → slice_get ts t ≡ Some u → Kept u →
          slice_get (releases m x look (suc (suc n)) is ts) t ≡ Some after → Kept after) →
          (b : Bool) → (m.base + i.s.0 == x && holds i.guard look) ≡ b →
          slice_get (releases m x look (suc (suc n)) is (if b then changed else ts)) t ≡ Some after → Kept after
      by_test rest false e found = rest ts u after at kept found
      by_test rest true e found = by_place (changed_at-cases i.task.0 (released m.mode (suc n) i look) ts t u at)
        where
          by_place : (slice_get changed t ≡ Some u) ⊎
              ((i.task.0 ≡ t) × (slice_get changed t ≡ Some (released m.mode (suc n) i look u))) → Kept after
          by_place (inl same) = rest changed u after same kept found
          by_place (inr (task, is')) =
              rest changed (released m.mode (suc n) i look u) after is' (released-kept n i is from task e u kept) found

-- a task after the releases is as it was, or has the job of an invocation that starts
pub phase_four-released : (x : ℕ) (m : ModuleState) (look : Look) (t : ℕ) (before after : TaskState) →
    slice_get m.tasks t ≡ Some before → slice_get (phase_four x look m).tasks t ≡ Some after →
    KeptOrReleased x m look t before after
phase_four-released x m look t before after at found = by_mode (present m) refl found
  where
    by_mode : (o : Option Mode) → present m ≡ o →
        slice_get (releases m x look 1 (invocations_in o) m.tasks) t ≡ Some after →
        KeptOrReleased x m look t before after
    by_mode None now found = inl (same_Some after before (sym found ∙ at))
    by_mode (Some mode) now found =
        releases-kept x m look mode now t before 0 mode.invocations
        (λ q. let e : q ≡ 0 + q = omega arith in ap (slice_get mode.invocations) e)
        m.tasks before after at (inl refl) found
