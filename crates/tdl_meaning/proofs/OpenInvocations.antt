-- A job that goes on across an instant: its task is left as it is, and so are its module's mode and base.
use Rattle.std.proofs.Common.{◌≡◌, ℕ, zero, suc, ◌+◌, ◌<◌, ◌≤◌, ℤ, List, [], ◌∷◌, filter, Bool, true, false, ◌&&◌, ◌==◌, Some, None, refl, ap, ap₂, sym, ◌∙◌, arith}
use Rattle.std.specs.Prelude.{slice_get, option_map, unwrap_or, if◌then◌else◌, find}
use Rattle.std.proofs.lemmas.Bool.{eqb-true, eq-eqb, ne_eqb}
use Rattle.std.proofs.lemmas.Option.{slice_get-map, same_Some}
use Rattle.tdl_base.specs.Lists.{changed_at}
use Rattle.tdl_base.specs.declared.numbers.PortKey.{PortKey}
use Rattle.tdl_body.specs.Values.{Look, holds}
use Rattle.tdl_mode.specs.declared.program.Module.{Module}
use Rattle.tdl_mode.specs.declared.program.Mode.{Mode}
use Rattle.tdl_mode.specs.declared.program.Invocation.{Invocation}
use Rattle.tdl_mode.specs.declared.program.Switch.{Switch}
use Rattle.tdl_base.specs.Sensed.{Sensed}
use Rattle.tdl_mode.specs.States.{Job, TaskState, ModuleState, invocation_of, invocations_now, look_of}
use Rattle.tdl_mode.specs.Phases.{job_ends, has_ended, task_after, ended, phase_one, phase_two, phase_three, phase_four, switch_target, released, releases}
use Rattle.tdl_mode.specs.Instants.{alone}
use Rattle.tdl_mode.specs.WellFormed.{WellMode}
use Rattle.tdl_mode.specs.declared.program.Program.{Program}
use Rattle.tdl_meaning.proofs.PhasesAtOffset.{AtOffset, at_now, present-is, switch_target-is}
use Rattle.tdl_meaning.proofs.NothingOpen.{goes_on}
use Rattle.tdl_meaning.proofs.FilterCounts.{filter-none}
use Rattle.tdl_meaning.specs.HostInStep.{IsJob}

-- what is asked of the times of a mode: each invocation lasts and ends within the period, those of one task are apart,
-- and no switch cuts one
pub record WellTimes (mode : Mode) : Type 0 where
  pub lasts : (n : ℕ) (i : Invocation) → invocation_of mode.invocations n ≡ Some i → i.s.0 < i.e.0
  pub within : (n : ℕ) (i : Invocation) → invocation_of mode.invocations n ≡ Some i → i.e.0 ≤ mode.period.0
  pub apart : (p q : ℕ) (i j : Invocation) → invocation_of mode.invocations p ≡ Some i →
      invocation_of mode.invocations q ≡ Some j → i.task.0 ≡ j.task.0 → i.s.0 < j.e.0 → j.s.0 < i.e.0 → p ≡ q
  pub uncut : (n : ℕ) (i : Invocation) (k : ℕ) (s : Switch) → invocation_of mode.invocations n ≡ Some i →
      slice_get mode.switches k ≡ Some s → i.s.0 < s.at.0 → s.at.0 < i.e.0 → ⊥

-- a well-formed mode has such times
pub times_of : (program : Program) (kk : ℕ) (m : Module) (n : ℕ) (mode : Mode) → WellMode program kk m n mode →
    WellTimes mode
times_of program kk m n mode well = record {
  lasts = λ n i at. (well.invocations n i at).lasts;
  within = λ n i at. (well.invocations n i at).ends;
  apart = well.apart;
  uncut = λ n i k s at here a b. well.closed k n s i here at a b;
}

-- a change of one place leaves every other place
changed-other : {A : Type 0} (f : A → A) (a t : ℕ) (xs : List A) → (a ≡ t → ⊥) →
    slice_get (changed_at a f xs) t ≡ slice_get xs t
changed-other f a t [] ne = refl
changed-other f zero zero (x ∷ xs) ne = absurd (ne refl)
changed-other f zero (suc t) (x ∷ xs) ne = refl
changed-other f (suc a) zero (x ∷ xs) ne = refl
changed-other f (suc a) (suc t) (x ∷ xs) ne = changed-other f a t xs (λ e. ne (ap suc e))

-- two offsets from one base that are the same instant are equal
shifted : (base o s : ℕ) → (base + s == base + o) ≡ true → s ≡ o
shifted base o s e = let h = eqb-true (base + s) (base + o) e in omega (arith, h)

-- tasks of which no invocation starts are left by the releases
releases_kept : (r : ModuleState) (x : ℕ) (look : Look) (n : ℕ) (is : List Invocation) (ts : List TaskState) (t : ℕ) →
    ((j : ℕ) (i : Invocation) → slice_get is j ≡ Some i → (r.base + i.s.0 == x) ≡ true → i.task.0 ≡ t → ⊥) →
    slice_get (releases r x look n is ts) t ≡ slice_get ts t
releases_kept r x look n [] ts t none = refl
releases_kept r x look n (i ∷ is) ts t none =
    releases_kept r x look (suc n) is
    (if r.base + i.s.0 == x && holds i.guard look then changed_at i.task.0 (released r.mode n i look) ts else ts) t
    (λ j a here. none (suc j) a here)
    ∙ by_test (r.base + i.s.0 == x) (holds i.guard look) refl
  where
    by_test : (b c : Bool) → (r.base + i.s.0 == x) ≡ b →
        slice_get (if b && c then changed_at i.task.0 (released r.mode n i look) ts else ts) t ≡ slice_get ts t
    by_test true true e = changed-other (released r.mode n i look) i.task.0 t ts (λ q. none 0 i refl e q)
    by_test true false e = refl
    by_test false c e = refl

module _ (m : Module) (k o x : ℕ) (mode : Mode) (is : slice_get m.modes k ≡ Some mode) (well : WellTimes mode) where
  -- the lemma on phase 3 asks for a count of windows, which does not matter here
  abbrev no_covers : ℕ → ℕ → ℕ
  no_covers a b = 0

  -- and for worst cases, which do not either
  abbrev no_worst : ℕ → ℕ
  no_worst a = 0

  -- a job has ended where its invocation ends at o
  pub ends-at : (r : ModuleState) → AtOffset m k o x mode is r → (t d : ℕ) (u : TaskState) (job : Job) →
      u.active ≡ Some job → (j : IsJob k mode t d job) → has_ended r x u ≡ (j.invocation.e.0 == o)
  ends-at r stands t d u job active j =
      ap (λ a. unwrap_or (option_map (job_ends r x) a) false) active
      ∙ (let a : (job.mode == r.mode) ≡ true = eq-eqb job.mode r.mode (j.mode' ∙ sym stands.mode') in
      let b : slice_get r.definition.modes r.mode ≡ Some mode = present-is m k o x mode is r stands in
      rw (a, b, j.at) (at_now m k o x mode is r stands j.invocation.e.0))

  -- at an offset inside an invocation no switch stands
  no_switch : (n : ℕ) (i : Invocation) → invocation_of mode.invocations n ≡ Some i → i.s.0 < o → o < i.e.0 →
      filter (λ (s : Switch). s.at.0 == o) mode.switches ≡ []
  no_switch n i at begun open' = filter-none (λ (s : Switch). s.at.0 == o) mode.switches
      (λ k s here e.
      let q = eqb-true s.at.0 o e in
      well.uncut n i k s at here (omega (arith, begun, q)) (omega (arith, open', q)))

  -- at an offset inside an invocation phase 3 leaves the state
  phase_three-inside : (r : ModuleState) → AtOffset m k o x mode is r → (look : Look) (n : ℕ) (i : Invocation) →
      invocation_of mode.invocations n ≡ Some i → i.s.0 < o → o < i.e.0 → phase_three x look r ≡ r
  phase_three-inside r stands look n i at begun open' =
      let none : switch_target r x look ≡ None = switch_target-is m k o x mode is r stands look
      ∙ ap (λ ss. option_map (λ (s : Switch). s.target.0) (find (λ s. holds s.guard look) ss))
      (no_switch n i at begun open') in
      let within = well.within n i at in
      goes_on m k o x mode is no_covers no_worst r stands look none
      (ne_eqb o mode.period.0 (λ e. omega (arith, e, within, open')))

  -- at an offset inside an invocation no invocation of its task starts
  no_start : (r : ModuleState) → r.base + o ≡ x → (t q : ℕ) (i : Invocation) →
      invocation_of mode.invocations q ≡ Some i → i.task.0 ≡ t → i.s.0 < o → o < i.e.0 →
      (n : ℕ) (j : Invocation) → slice_get mode.invocations n ≡ Some j → (r.base + j.s.0 == x) ≡ true → j.task.0 ≡ t → ⊥
  no_start r now t q i at task begun open' n j here e task' =
      let start : j.s.0 ≡ o = shifted r.base o j.s.0 (ap (λ y. r.base + j.s.0 == y) now ∙ e) in
      let lasts = well.lasts (suc n) j here in
      let same : q ≡ suc n = well.apart q (suc n) i j at here (task ∙ sym task') (omega (arith, begun, start, lasts))
      (omega (arith, open', start)) in
      let it : i ≡ j = same_Some i j (sym at ∙ ap (invocation_of mode.invocations) same ∙ here) in
      let s : i.s.0 ≡ j.s.0 = ap (λ (i : Invocation). i.s.0) it in
      omega (arith, s, start, begun)

  -- definition, mode and base are as before, and task t is as phase 1 leaves it
  pub record KeptOpen (r r' : ModuleState) (t : ℕ) : Type 0 where
    pub definition : r'.definition ≡ r.definition
    pub mode' : r'.mode ≡ r.mode
    pub base : r'.base ≡ r.base
    pub at : slice_get r'.tasks t ≡ option_map (task_after r x) (slice_get r.tasks t)

  -- inside an invocation the module goes on, and the invocation's task has phase 1 alone
  pub open_task : (r : ModuleState) → AtOffset m k o x mode is r →
      (kk : ℕ) (sensed : Sensed) (seen : PortKey → ℤ) (t q : ℕ) (i : Invocation) →
      invocation_of mode.invocations q ≡ Some i → i.task.0 ≡ t → i.s.0 < o → o < i.e.0 →
      KeptOpen r (alone kk x sensed seen r) t
  unfolding alone
  open_task r stands kk sensed seen t q i at task begun open' =
      let look : Look = look_of kk (phase_one x r).tasks sensed seen in
      let one : ModuleState = phase_one x r in
      let two : ModuleState = phase_two x look one in
      let in_two : AtOffset m k o x mode is two =
      record { definition = stands.definition; mode' = stands.mode'; now = stands.now } in
      let three : phase_three x look two ≡ two = phase_three-inside two in_two look q i at begun open' in
      let after : slice_get one.tasks t ≡ option_map (task_after r x) (slice_get r.tasks t) =
      slice_get-map (task_after r x) r.tasks t in
      let these : invocations_now two ≡ mode.invocations =
      ap (λ o. unwrap_or (option_map (λ (d : Mode). d.invocations) o) []) (present-is m k o x mode is two in_two) in
      let four : slice_get (releases two x look 1 (invocations_now two) two.tasks) t ≡ slice_get two.tasks t =
      releases_kept two x look 1 (invocations_now two) two.tasks t
      (λ n j here s task'. no_start two (sym stands.now) t q i at task begun open' n j
      (ap (λ l. slice_get l n) (sym these) ∙ here) s task') in
      let whole : phase_four x look (phase_three x look two) ≡ phase_four x look two = ap (phase_four x look) three in
      record {
        definition = ap (λ (q : ModuleState). q.definition) whole;
        mode' = ap (λ (q : ModuleState). q.mode) whole;
        base = ap (λ (q : ModuleState). q.base) whole;
        at = ap (λ (q : ModuleState). slice_get q.tasks t) whole ∙ four ∙ after;
      }

  -- a job that ends here is over
  pub ended_task : (r : ModuleState) → AtOffset m k o x mode is r → (t : ℕ) (u : TaskState) (job : Job) →
      slice_get r.tasks t ≡ Some u → u.active ≡ Some job → (j : IsJob k mode t o job) → j.invocation.e.0 ≡ o →
      slice_get (phase_one x r).tasks t ≡ Some (ended u job)
  ended_task r stands t u job at active j end =
      let e : has_ended r x u ≡ true = ends-at r stands t o u job active j ∙ eq-eqb j.invocation.e.0 o end in
      slice_get-map (task_after r x) r.tasks t ∙ ap (option_map (task_after r x)) at
      ∙ ap₂ (λ b a. Some (if b then unwrap_or (option_map (ended u) a) u else u)) e active
