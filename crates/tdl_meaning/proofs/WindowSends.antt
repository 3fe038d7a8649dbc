-- What a bus window sends at its start: the job's result, or that there is none; never late.
use Rattle.std.proofs.Common.{◌≡◌, ℕ, suc, ◌+◌, ◌≤◌, ℤ, List, [], ◌∷◌, length, Bool, true, false, ◌&&◌, ◌==◌, Option, Some, None, refl, ap, ap₂, sym, ◌∙◌, subst, arith}
use Rattle.std.specs.Prelude.{slice_get, if◌then◌else◌}
use Rattle.std.proofs.lemmas.Bool.{eqb-true, eq-eqb, and_parts, and_from}
use Rattle.std.proofs.lemmas.List.{length-map}
use Rattle.std.proofs.lemmas.Option.{same_Some}
use Rattle.tdl_mode.specs.declared.program.Module.{Module}
use Rattle.tdl_mode.specs.States.{Job, TaskState, ModuleState, result_of}
use Rattle.tdl_frame.specs.Frames.{Member}
use Rattle.tdl_image.specs.declared.hosted.Hosted.{Hosted}
use Rattle.tdl_image.specs.declared.hosted.ImageWindow.{ImageWindow}
use Rattle.tdl_verify.specs.States.{Slot, TaskNow, HostNow}
use Rattle.tdl_verify.specs.Bus.{Start, task_of, start_of, window_member, member_by, start_by}
use Rattle.tdl_verify.specs.Covered.{covered_by}
use Rattle.tdl_meaning.proofs.HostFacts.{PairAt, pair_at}
use Rattle.tdl_meaning.proofs.HostJobs.{active_from}
use Rattle.tdl_deploy.specs.AtRelease.{worst_case_of}
use Rattle.tdl_meaning.specs.HostInStep.{SlotPair, TaskPair, HostAfter}
use Rattle.tdl_meaning.specs.Entries.{ActiveJob}
use Rattle.tdl_meaning.specs.BusFrames.{Executed, Carries}
use Rattle.tdl_meaning.specs.BusTables.{WellWindow}

-- ---- the start of a bus window, by the slot of its task

-- the start of a bus window is the start by the slot of its task
start_of-is : (h : Hosted) (s : HostNow) (w : ImageWindow) (outputs : List ℤ) (slot : Slot) (count : ℕ) →
    slice_get s.tasks (task_of h w.mode w.invocation)
    ≡ Some (record { outputs = outputs; slot = slot; released = count }) →
    start_of h s w ≡ start_by h s w (member_by h w outputs slot)
start_of-is h s w outputs Slot.Idle count at = rw at refl
start_of-is h s w outputs (Slot.Ready mode invocation left cells) count at = rw at refl
start_of-is h s w outputs (Slot.Done mode invocation made) count at = rw at refl

-- ---- what it sends

-- the window of an invocation of task t sends a frame of one member: executed with the result of the invocation's job,
-- or not executed where there is no such job
pub record SendsFrame (m : Module) (h : Hosted) (x : ℕ) (r : ModuleState) (s : HostNow) (w : ImageWindow) (t : ℕ) :
    Type 0 where
  pub member : Member
  pub is : start_of h s w ≡ Start.Sends (record { owner = h.number.0; mode = w.mode; members = member ∷ [] })
      (s.base + w.offset + w.length)
  pub number : member.invocation ≡ w.invocation
  pub executed : member.executed ≡ true → Executed m (suc x) r t w.invocation member.values
  pub idle : member.executed ≡ false → (a : ActiveJob m (suc x) r t) → a.job.invocation ≡ w.invocation → ⊥

module _ (m : Module) (h : Hosted) (x : ℕ) (r : ModuleState) (s : HostNow) (f : HostAfter m h x r s) (w : ImageWindow)
    (ok : WellWindow m h w) (same_mode : w.mode ≡ r.mode) (starts : s.base + w.offset ≡ x) where
  -- how far the cycle is
  abbrev o : ℕ
  o = f.offset

  -- the task of the window's invocation
  abbrev t : ℕ
  t = ok.invocation.task.0

  -- how much of an invocation's windows lies before an offset
  abbrev covers : ℕ → ℕ → ℕ
  covers n d = covered_by r.mode n d h.windows

  -- a job of the task beside a slot
  abbrev Slotted : TaskState → Option Job → Slot → Type 0
  Slotted u active slot =
      SlotPair r.mode f.facts.mode covers (worst_case_of m) t (suc o) o u.definition u.outputs active slot

  -- the task's outputs and slot on the node
  abbrev Stored : List ℤ → Slot → ℕ → Type 0
  Stored outputs slot count = slice_get s.tasks (task_of h w.mode w.invocation)
      ≡ Some (record { outputs = outputs; slot = slot; released = count })

  -- the window stands at that offset
  offset_is : w.offset ≡ o
  offset_is =
      let b = f.facts.base in
      let n = f.now in
      omega (arith, b, n, starts)

  -- no active job is of the window's invocation
  abbrev NoJob : Type 0
  NoJob = (a : ActiveJob m (suc x) r t) → a.job.invocation ≡ w.invocation → ⊥

  -- a window without a job sends that there is none
  unsent : (outputs : List ℤ) → start_of h s w ≡ start_by h s w (Some (window_member h w false outputs)) → NoJob →
      SendsFrame m h x r s w t
  unsent outputs is none = record {
    member = window_member h w false outputs;
    is = is;
    number = refl;
    executed = λ e. absurd (cc e);
    idle = λ e a n. none a n;
  }

  -- an active job of the task is the job of its state
  its_job : (u : TaskState) → slice_get r.tasks t ≡ Some u → (a : ActiveJob m (suc x) r t) → u.active ≡ Some a.job
  its_job u there a = ap (λ (v : TaskState). v.active) (same_Some u a.state (sym there ∙ a.there)) ∙ a.active

  -- where the slot's job is another one, no job is of the window's invocation
  other_job : (u : TaskState) (job : Job) (k i : ℕ) → slice_get r.tasks t ≡ Some u → u.active ≡ Some job →
      k ≡ r.mode → i ≡ job.invocation → (k == w.mode && i == w.invocation) ≡ false → NoJob
  other_job u job k i there active mode number e a n =
      let same : job ≡ a.job = same_Some job a.job (sym active ∙ its_job u there a) in
      let this_number : i ≡ w.invocation = number ∙ ap (λ (j : Job). j.invocation) same ∙ n in
      cc (and_from _ _ (eq-eqb k w.mode (mode ∙ sym same_mode)) (eq-eqb i w.invocation this_number), e)

  -- what is sent, by the slot of the task
  sends_by : (u : TaskState) (outs : List ℤ) (active : Option Job) (slot : Slot) (count : ℕ) →
      slice_get r.tasks t ≡ Some u → u.active ≡ active → Stored outs slot count → Slotted u active slot →
      SendsFrame m h x r s w t
  sends_by u outs None Slot.Idle count there active at pair =
      unsent outs (start_of-is h s w outs Slot.Idle count at)
      (λ a n. let q = its_job u there a in absurd (cc (q, active)))
  sends_by u outs None (Slot.Ready k i left cells) count there active at pair = absurd pair
  sends_by u outs None (Slot.Done k i made) count there active at pair = absurd pair
  sends_by u outs (Some job) Slot.Idle count there active at pair = absurd pair
  sends_by u outs (Some job) (Slot.Ready k i left cells) count there active at pair =
      by_test (k == w.mode && i == w.invocation) refl
    where
      by_test : (b : Bool) → (k == w.mode && i == w.invocation) ≡ b → SendsFrame m h x r s w t
      by_test true e =
          let q = and_parts (k == w.mode) (i == w.invocation) e in
          let n : job.invocation ≡ w.invocation = sym pair.2 ∙ eqb-true i w.invocation q.1 in
          let full : worst_case_of m t ≤ covers job.invocation o =
          subst (λ k. worst_case_of m t ≤ covered_by k job.invocation o h.windows) same_mode
          (subst (λ j. worst_case_of m t ≤ covered_by w.mode j o h.windows) (sym n)
          (subst (λ d. worst_case_of m t ≤ covered_by w.mode w.invocation d h.windows) offset_is ok.full)) in
          let more = pair.4 in
          let within = pair.5 in
          absurd (omega (arith, full, more, within))
      by_test false e =
          unsent outs (start_of-is h s w outs (Slot.Ready k i left cells) count at
          ∙ ap (λ b. start_by h s w (if b then None else Some (window_member h w false outs))) e)
          (other_job u job k i there active (pair.1 ∙ pair.0.mode') pair.2 e)
  sends_by u outs (Some job) (Slot.Done k i made) count there active at pair =
      by_test (k == w.mode && i == w.invocation) refl
    where
      start_is : (b : Bool) → (k == w.mode && i == w.invocation) ≡ b → start_of h s w
          ≡ start_by h s w (if b then Some (window_member h w true made) else Some (window_member h w false outs))
      start_is b e = start_of-is h s w outs (Slot.Done k i made) count at
          ∙ ap (λ c. start_by h s w
          (if c then Some (window_member h w true made) else Some (window_member h w false outs))) e

      by_test : (b : Bool) → (k == w.mode && i == w.invocation) ≡ b → SendsFrame m h x r s w t
      by_test true e =
          let q = and_parts (k == w.mode) (i == w.invocation) e in
          let n : job.invocation ≡ w.invocation = sym pair.2 ∙ eqb-true i w.invocation q.1 in
          let now = f.now in
          let own = active_from m (suc x) r f.facts.mode f.facts.at (suc o) (omega (arith, now)) t u job there active
          pair.0 in
          record {
            member = window_member h w true made;
            is = start_is true e;
            number = refl;
            executed = λ e'. record {
              job = own.active;
              invocation = ap (λ (j : Job). j.invocation) own.same ∙ n;
              values' =
                  pair.3 ∙ ap₂ (λ (v : TaskState) (j : Job). result_of v.definition j.inputs v.outputs) (sym own.state)
                  (sym own.same);
            };
            idle = λ e'. absurd (cc e');
          }
      by_test false e =
          unsent outs (start_is false e) (other_job u job k i there active (pair.1 ∙ pair.0.mode') pair.2 e)

  -- a task beside its state on the node
  abbrev TaskAt : ℕ → TaskState → TaskNow → Type 0
  TaskAt j u v = TaskPair r.mode f.facts.mode covers (worst_case_of m) j (suc o) o u v

  -- the window's task beside its state on the node makes the window send a frame
  sends_at : PairAt TaskAt 0 t r.tasks s.tasks → SendsFrame m h x r s w t
  sends_at p =
      let z : 0 + t ≡ t = omega arith in
      let pair : TaskAt t p.u p.w = subst (λ j. TaskAt j p.u p.w) z p.pair in
      sends_by p.u p.w.outputs p.u.active p.w.slot p.w.released p.state refl
      (ap (slice_get s.tasks) ok.task ∙ p.now) pair.slot

  -- so the window sends a frame
  pub sends_frame : SendsFrame m h x r s w t
  sends_frame =
      let size : length r.tasks ≡ length m.tasks =
      sym (length-map r.tasks (λ (u : TaskState). u.definition)) ∙ ap length f.facts.definitions in
      let there = ok.there in
      sends_at (pair_at TaskAt 0 t r.tasks s.tasks (omega (arith, size, there)) f.facts.tasks)

  -- so the frame that it puts on the bus carries what the window's must
  pub carries_sent : (q : SendsFrame m h x r s w t) (number : ℕ) →
      Carries m h.number.0 (suc x) r w (record {
        number = number;
        sent_at = x;
        until = s.base + w.offset + w.length;
        frame = record { owner = h.number.0; mode = w.mode; members = q.member ∷ [] };
      })
  carries_sent q number =
      let b = f.facts.base in
      let lasts = ok.lasts in
      record {
        mode' = same_mode;
        mode = ok.mode;
        mode_at = ap (slice_get m.modes) (sym same_mode) ∙ ok.mode_at;
        invocation = ok.invocation;
        at = ok.at;
        after = ok.after;
        within = ok.within;
        from = omega (arith, starts, b);
        until = omega (arith, b);
        begun = omega arith;
        open' = omega (arith, starts, lasts);
        member = q.member;
        frame = refl;
        number = q.number;
        executed = q.executed;
        idle = q.idle;
      }
