-- The active jobs of a module, from one instant to the next.
use Rattle.std.proofs.Common.{◌≡◌, ℕ, suc, ◌+◌, ◌<◌, ◌≤◌, ℤ, Bool, true, false, Option, Some, None, refl, ap, sym, ◌∙◌, arith}
use Rattle.std.specs.Prelude.{slice_get, option_map, unwrap_or, if◌then◌else◌}
use Rattle.std.proofs.lemmas.Bool.{eq-eqb, ne_eqb}
use Rattle.std.proofs.lemmas.Option.{same_Some}
use Rattle.tdl_base.specs.declared.numbers.PortKey.{PortKey}
use Rattle.tdl_body.specs.Values.{Look}
use Rattle.tdl_mode.specs.declared.program.Module.{Module}
use Rattle.tdl_mode.specs.declared.program.Mode.{Mode}
use Rattle.tdl_mode.specs.declared.program.Invocation.{Invocation}
use Rattle.tdl_base.specs.Sensed.{Sensed}
use Rattle.tdl_mode.specs.States.{Job, TaskState, ModuleState, invocation_of, look_of}
use Rattle.tdl_mode.specs.Phases.{has_ended, task_after, ended, phase_one, phase_two, phase_three, switch_target, switched, is_over}
use Rattle.tdl_mode.specs.Instants.{alone}
use Rattle.tdl_meaning.proofs.PhasesAtOffset.{AtOffset}
use Rattle.tdl_meaning.proofs.OpenInvocations.{times_of, WellTimes, KeptOpen, open_task, ends-at, ended_task}
use Rattle.tdl_meaning.specs.Accepted.{Accepted}
use Rattle.tdl_meaning.specs.HostInStep.{IsJob}
use Rattle.tdl_meaning.specs.Entries.{ActiveJob, job_end, made_by}

-- the times of all modes of a module
abbrev pub WellModes : Module → Type 0
WellModes m = (k : ℕ) (mode : Mode) → slice_get m.modes k ≡ Some mode → WellTimes mode

-- the times of all modes of an accepted program's modules
pub well_modes : (given : Accepted) (kk : ℕ) (m : Module) → slice_get given.program.modules kk ≡ Some m → WellModes m
well_modes given kk m there k mode at = times_of given.program kk m k mode
    ((given.well_formed.modules kk m there).modes k mode at)

-- a module's cycle before instant x: its mode, and how far it is
pub record Standing (m : Module) (x : ℕ) (r : ModuleState) : Type 0 where
  pub mode : Mode
  pub at : slice_get m.modes r.mode ≡ Some mode
  pub definition : r.definition ≡ m
  pub offset : ℕ
  pub now : x ≡ r.base + offset

-- the same job an instant later, in the same cycle
pub record SameJob (m : Module) (x : ℕ) (r r' : ModuleState) (t : ℕ) (a : ActiveJob m x r t) : Type 0 where
  pub next : ActiveJob m (suc x) r' t
  pub base : r'.base ≡ r.base
  pub mode' : r'.mode ≡ r.mode
  pub job : next.job ≡ a.job
  pub ends : job_end m (suc x) r' t next ≡ job_end m x r t a
  pub made : made_by m (suc x) r' t next ≡ made_by m x r t a

module _ (m : Module) (well : WellModes m) (x : ℕ) (r : ModuleState) (stood : Standing m x r) (kk : ℕ) (sensed : Sensed)
    (seen : PortKey → ℤ) where
  -- the state after x
  abbrev next_of : ModuleState
  next_of = alone kk x sensed seen r

  -- the module stands at an offset of its mode
  stands : AtOffset m r.mode stood.offset x stood.mode stood.at r
  stands = record { definition = stood.definition; mode' = refl; now = stood.now }

  -- the mode of the state's number is the one that the module stands in
  same_mode : (mode : Mode) → slice_get m.modes r.mode ≡ Some mode → Some stood.mode ≡ Some mode
  same_mode mode at = sym stood.at ∙ at

  -- an invocation that is open across x keeps definition, mode and base, and leaves its task as phase 1 does
  pub kept_across : (t q : ℕ) (i : Invocation) → invocation_of stood.mode.invocations q ≡ Some i → i.task.0 ≡ t →
      r.base + i.s.0 < x → x < r.base + i.e.0 →
      KeptOpen m r.mode stood.offset x stood.mode stood.at (well r.mode stood.mode stood.at) r next_of t
  kept_across t q i at task begun open' =
      let now = stood.now in
      open_task m r.mode stood.offset x stood.mode stood.at (well r.mode stood.mode stood.at) r stands kk sensed seen
      t q i at task (omega (arith, begun, now)) (omega (arith, open', now))

  -- the invocation of a number, where there is a mode
  abbrev invocation_at : ℕ → Option Mode → Option Invocation
  invocation_at q None = None
  invocation_at q (Some mode) = invocation_of mode.invocations q

  -- an invocation of the mode is one of the mode that the module stands in
  pub at_mode : (mode : Mode) → slice_get m.modes r.mode ≡ Some mode → (q : ℕ) (i : Invocation) →
      invocation_of mode.invocations q ≡ Some i → invocation_of stood.mode.invocations q ≡ Some i
  at_mode mode is q i at = ap (invocation_at q) (same_mode mode is) ∙ at

  -- an active job, as a job that began before the offset where the module stands
  is_job : (t : ℕ) (a : ActiveJob m x r t) → IsJob r.mode stood.mode t stood.offset a.job
  is_job t a =
      let now = stood.now in
      record {
        mode' = a.job_mode;
        invocation = a.invocation;
        at = at_mode a.mode a.mode_at a.job.invocation a.invocation a.at;
        task = a.task;
        begun = let b = a.begun in omega (arith, b, now);
        open' = let b = a.open' in omega (arith, b, now);
      }

  -- a job whose invocation goes on at x has not ended
  pub not_ended : (t : ℕ) (a : ActiveJob m x r t) → x < r.base + a.invocation.e.0 → has_ended r x a.state ≡ false
  unfolding is_job
  not_ended t a open' =
      let now = stood.now in
      ends-at m r.mode stood.offset x stood.mode stood.at (well r.mode stood.mode stood.at) r stands t stood.offset
      a.state a.job a.active (is_job t a) ∙ ne_eqb a.invocation.e.0 stood.offset (λ e. omega (arith, e, open', now))

  -- a job whose invocation ends at x has ended
  pub is_ended : (t : ℕ) (a : ActiveJob m x r t) → r.base + a.invocation.e.0 ≡ x → has_ended r x a.state ≡ true
  unfolding is_job
  is_ended t a end =
      let now = stood.now in
      ends-at m r.mode stood.offset x stood.mode stood.at (well r.mode stood.mode stood.at) r stands t stood.offset
      a.state a.job a.active (is_job t a) ∙ eq-eqb a.invocation.e.0 stood.offset (omega (arith, end, now))

  -- a job that does not end at x is the same after it
  pub stays : (t : ℕ) (a : ActiveJob m x r t) → x < r.base + a.invocation.e.0 → SameJob m x r next_of t a
  stays t a open' =
      let at = at_mode a.mode a.mode_at a.job.invocation a.invocation a.at in
      let k = kept_across t a.job.invocation a.invocation at a.task a.begun open' in
      let e = not_ended t a open' in
      let begun = a.begun in
      let base = k.base in
      record {
        next = record {
          mode = a.mode;
          mode_at = ap (λ j. slice_get m.modes j) k.mode' ∙ a.mode_at;
          state = a.state;
          there = k.at ∙ ap (option_map (task_after r x)) a.there
              ∙ ap (λ b. Some (if b then unwrap_or (option_map (ended a.state) a.state.active) a.state else a.state)) e;
          job = a.job;
          active = a.active;
          job_mode = a.job_mode ∙ sym k.mode';
          invocation = a.invocation;
          at = a.at;
          task = a.task;
          begun = omega (arith, begun, base);
          open' = omega (arith, open', base);
        };
        base = k.base;
        mode' = k.mode';
        job = refl;
        ends = ap (λ b. b + a.invocation.e.0) k.base;
        made = refl;
      }

  -- a job that ends at x: its task's outputs are its result
  pub ends : (t : ℕ) (a : ActiveJob m x r t) → r.base + a.invocation.e.0 ≡ x →
      slice_get (phase_one x r).tasks t ≡ Some (ended a.state a.job)
  unfolding is_job
  ends t a end =
      let now = stood.now in
      ended_task m r.mode stood.offset x stood.mode stood.at (well r.mode stood.mode stood.at) r stands t a.state a.job
      a.there a.active (is_job t a) (omega (arith, end, now))

  -- phase 3 leaves a state whose base it leaves below x
  three_kept : (q : ModuleState) (look : Look) (s : ℕ) → (phase_three x look q).base + s < x → phase_three x look q ≡ q
  three_kept q look s lt = by_target (switch_target q x look) lt
    where
      by_over : (b : Bool) → (if b then record q { base = x } else q).base + s < x →
          (if b then record q { base = x } else q) ≡ q
      by_over true lt = absurd (omega (arith, lt))
      by_over false lt = refl

      by_target : (t : Option ℕ) → (switched x q t).base + s < x → switched x q t ≡ q
      by_target (Some target) lt = absurd (omega (arith, lt))
      by_target None lt = by_over (is_over q x) lt

  -- definition, mode and base after x are those before x
  pub record SameCycle : Type 0 where
    pub definition : next_of.definition ≡ r.definition
    pub mode' : next_of.mode ≡ r.mode
    pub base : next_of.base ≡ r.base

  -- where an offset of the cycle after x lies before x, that cycle is the one from before x
  pub same_cycle : (s : ℕ) → next_of.base + s < x → SameCycle
  unfolding alone
  same_cycle s lt =
      let look : Look = look_of kk (phase_one x r).tasks sensed seen in
      let two : ModuleState = phase_two x look (phase_one x r) in
      let three : phase_three x look two ≡ two = three_kept two look s lt in
      record {
        definition = ap (λ (q : ModuleState). q.definition) three;
        mode' = ap (λ (q : ModuleState). q.mode) three;
        base = ap (λ (q : ModuleState). q.base) three;
      }

  -- a task that has a job after phase 1 was left by it
  if_active : (u : TaskState) (job : Job) (b : Bool) (a : Option Job) →
      (if b then unwrap_or (option_map (ended u) a) u else u).active ≡ Some job →
      (if b then unwrap_or (option_map (ended u) a) u else u) ≡ u
  if_active u job true None e = refl
  if_active u job true (Some j) e = absurd (cc e)
  if_active u job false a e = refl

  -- the job from before x that a job after x is
  pub record Before (t : ℕ) (a' : ActiveJob m (suc x) next_of t) : Type 0 where
    pub job : ActiveJob m x r t
    pub cycle : SameCycle
    pub same : a'.job ≡ job.job
    pub ends : job_end m (suc x) next_of t a' ≡ job_end m x r t job
    pub made : made_by m (suc x) next_of t a' ≡ made_by m x r t job

  -- a job that is active after x and began before x was active before x
  pub was_active : (t : ℕ) (a' : ActiveJob m (suc x) next_of t) → next_of.base + a'.invocation.s.0 < x → Before t a'
  was_active t a' lt =
      let b : SameCycle = same_cycle a'.invocation.s.0 lt in
      let base = b.base in
      let open' = a'.open' in
      let mode_at : slice_get m.modes r.mode ≡ Some a'.mode =
      ap (λ j. slice_get m.modes j) (sym b.mode') ∙ a'.mode_at in
      let at = at_mode a'.mode mode_at a'.job.invocation a'.invocation a'.at in
      let k = kept_across t a'.job.invocation a'.invocation at a'.task (omega (arith, lt, base))
      (omega (arith, open', base)) in
      by_state (slice_get r.tasks t) refl (sym k.at ∙ a'.there) b mode_at (omega (arith, lt, base))
      (omega (arith, open', base))
    where
      by_state : (o : Option TaskState) → slice_get r.tasks t ≡ o →
          option_map (task_after r x) (slice_get r.tasks t) ≡ Some a'.state → SameCycle →
          slice_get m.modes r.mode ≡ Some a'.mode →
          r.base + a'.invocation.s.0 < x → x ≤ r.base + a'.invocation.e.0 → Before t a'
      by_state None at e b mode_at lt le = absurd (cc (ap (option_map (task_after r x)) at, e))
      by_state (Some u) at e b mode_at lt le =
          let is : task_after r x u ≡ a'.state =
          same_Some (task_after r x u) a'.state (sym (ap (option_map (task_after r x)) at) ∙ e) in
          let same : task_after r x u ≡ u = if_active u a'.job (has_ended r x u) u.active
          (ap (λ (v : TaskState). v.active) is ∙ a'.active) in
          let state : u ≡ a'.state = sym same ∙ is in
          record {
            job = record {
              mode = a'.mode;
              mode_at = mode_at;
              state = a'.state;
              there = at ∙ ap Some state;
              job = a'.job;
              active = a'.active;
              job_mode = a'.job_mode ∙ b.mode';
              invocation = a'.invocation;
              at = a'.at;
              task = a'.task;
              begun = lt;
              open' = le;
            };
            cycle = b;
            same = refl;
            ends = ap (λ j. j + a'.invocation.e.0) b.base;
            made = refl;
          }
