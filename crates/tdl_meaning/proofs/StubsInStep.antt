-- The outputs that a stub holds are those of the module's tasks, as long as no commit is gone.
use Rattle.std.proofs.Common.{◌≡◌, ℕ, zero, suc, ◌+◌, ◌<◌, ◌≤◌, ℤ, List, [], ◌∷◌, map, length, Bool, true, false, ◌&&◌, ◌==◌, Option, Some, None, refl, ap, sym, ◌∙◌, subst, inl, inr, arith}
use Rattle.std.specs.Prelude.{◌⊎◌, slice_get, option_map, unwrap_or, if◌then◌else◌}
use Rattle.std.proofs.lemmas.Bool.{eqb-true, eq-eqb}
use Rattle.std.proofs.lemmas.Option.{slice_get-map, same_Some}
use Rattle.tdl_base.specs.Lists.{changed_at}
use Rattle.tdl_base.specs.declared.numbers.PortKey.{PortKey}
use Rattle.tdl_body.specs.Values.{Look, holds}
use Rattle.tdl_mode.specs.declared.program.Module.{Module}
use Rattle.tdl_mode.specs.declared.program.Invocation.{Invocation}
use Rattle.tdl_base.specs.Sensed.{Sensed}
use Rattle.tdl_mode.specs.States.{Job, TaskState, ModuleState, invocations_now, look_of}
use Rattle.tdl_mode.specs.Phases.{has_ended, job_ends, task_after, ended, phase_one, phase_two, phase_three, released, releases, switch_target}
use Rattle.tdl_mode.specs.Instants.{alone}
use Rattle.tdl_image.specs.declared.stub.Stub.{Stub}
use Rattle.tdl_image.specs.declared.stub.Receive.{Receive}
use Rattle.tdl_verify.specs.States.{EntryNow, StubNow, stub_outputs}
use Rattle.tdl_verify.specs.Turns.{is_at}
use Rattle.tdl_mode.proofs.ModuleByModule.{switched-tasks}
use Rattle.tdl_gen.proofs.StubMoves.{taken}
use Rattle.tdl_meaning.proofs.ActiveJobs.{WellModes, Standing, is_ended, not_ended}
use Rattle.tdl_meaning.proofs.HostJobs.{JobsActive}
use Rattle.tdl_meaning.proofs.EntryFacts.{takes_commit}
use Rattle.tdl_meaning.proofs.EntryLists.{entries_map, entry_at}
use Rattle.tdl_verify.proofs.Replaced.{is_numbered}
use Rattle.tdl_meaning.proofs.TaskOutputsTaken.{Holds, taken_none, taken_comes}
use Rattle.tdl_meaning.specs.Entries.{ActiveJob, job_end, EntryFact, Got}
use Rattle.tdl_meaning.specs.AllItems.{AllEntries}
use Rattle.tdl_meaning.specs.BusTables.{AllReceived}
use Rattle.tdl_meaning.specs.WithoutLosses.{InStep}
use Rattle.tdl_meaning.specs.BusTurn.{Took, TookTask}

-- ---- whether an entry of a task is due

-- an entry of task t is due at x
record DueEntry (x t : ℕ) (es : List Receive) (nows : List EntryNow) : Type 0 where
  place : ℕ
  entry : Receive
  now : EntryNow
  at : slice_get es place ≡ Some entry
  here : slice_get nows place ≡ Some now
  due : is_at x now.due ≡ true
  task : entry.task ≡ t

-- one is, or none
due_or_none : (P : Receive → EntryNow → Type 0) (x t : ℕ) (es : List Receive) (nows : List EntryNow) →
    AllEntries P es nows →
    DueEntry x t es nows ⊎ AllEntries (λ e now. is_at x now.due ≡ true → e.task ≡ t → ⊥) es nows
due_or_none P x t [] [] ps = inr tt
due_or_none P x t [] (now ∷ more) ps = absurd ps
due_or_none P x t (e ∷ es) [] ps = absurd ps
due_or_none P x t (e ∷ es) (now ∷ more) ps =
    by_tests (is_at x now.due) refl (e.task == t) refl (due_or_none P x t es more ps.1)
  where
    by_rest : (is_at x now.due ≡ true → e.task ≡ t → ⊥) →
        DueEntry x t es more ⊎ AllEntries (λ e now. is_at x now.due ≡ true → e.task ≡ t → ⊥) es more →
        DueEntry x t (e ∷ es) (now ∷ more)
        ⊎ AllEntries (λ e now. is_at x now.due ≡ true → e.task ≡ t → ⊥) (e ∷ es) (now ∷ more)
    by_rest n (inl d) = inl (record {
      place = suc d.place;
      entry = d.entry;
      now = d.now;
      at = d.at;
      here = d.here;
      due = d.due;
      task = d.task;
    })
    by_rest n (inr none) = inr (n, none)

    by_tests : (a : Bool) → is_at x now.due ≡ a → (b : Bool) → (e.task == t) ≡ b →
        DueEntry x t es more ⊎ AllEntries (λ e now. is_at x now.due ≡ true → e.task ≡ t → ⊥) es more →
        DueEntry x t (e ∷ es) (now ∷ more)
        ⊎ AllEntries (λ e now. is_at x now.due ≡ true → e.task ≡ t → ⊥) (e ∷ es) (now ∷ more)
    by_tests true due true task rest = inl (record {
      place = 0;
      entry = e;
      now = now;
      at = refl;
      here = refl;
      due = due;
      task = eqb-true e.task t task;
    })
    by_tests true due false other rest = by_rest (λ d task. let q = eq-eqb e.task t task in cc (q, other)) rest
    by_tests false late b task rest = by_rest (λ d task. cc (d, late)) rest

-- ---- phases 2 to 4 leave outputs

-- the committed outputs of all tasks
abbrev committed : List TaskState → List (List ℤ)
committed us = map (λ (u : TaskState). u.outputs) us

-- a change of one task that leaves its outputs leaves all
changed-outputs : (f : TaskState → TaskState) → ((u : TaskState) → (f u).outputs ≡ u.outputs) →
    (t : ℕ) (us : List TaskState) → committed (changed_at t f us) ≡ committed us
changed-outputs f h t [] = refl
changed-outputs f h zero (u ∷ us) = ap (λ o. o ∷ committed us) (h u)
changed-outputs f h (suc t) (u ∷ us) = ap (λ os. u.outputs ∷ os) (changed-outputs f h t us)

-- releases leave the outputs of all tasks
pub releases-outputs : (r : ModuleState) (x : ℕ) (look : Look) (n : ℕ) (is : List Invocation) (us : List TaskState) →
    committed (releases r x look n is us) ≡ committed us
releases-outputs r x look n [] us = refl
releases-outputs r x look n (i ∷ is) us =
    releases-outputs r x look (suc n) is
    (if r.base + i.s.0 == x && holds i.guard look then changed_at i.task.0 (released r.mode n i look) us else us)
    ∙ by_test (r.base + i.s.0 == x && holds i.guard look)
  where
    by_test : (b : Bool) →
        committed (if b then changed_at i.task.0 (released r.mode n i look) us else us) ≡ committed us
    by_test true = changed-outputs (released r.mode n i look) (λ u. refl) i.task.0 us
    by_test false = refl

-- an instant of a module leaves the outputs that phase 1 made
alone-outputs : (kk x : ℕ) (sensed : Sensed) (seen : PortKey → ℤ) (r : ModuleState) →
    committed (alone kk x sensed seen r).tasks ≡ committed (phase_one x r).tasks
unfolding alone
alone-outputs kk x sensed seen r =
    let look : Look = look_of kk (phase_one x r).tasks sensed seen in
    let two : ModuleState = phase_two x look (phase_one x r) in
    let three : ModuleState = phase_three x look two in
    releases-outputs three x look 1 (invocations_now three) three.tasks
    ∙ ap committed (switched-tasks x two (switch_target two x look))

-- ---- a stub after phase 1, and after the instant

module _ (m : Module) (well : WellModes m) (x : ℕ) (r : ModuleState) (stood : Standing m x r) (kk : ℕ) (sensed : Sensed)
    (seen : PortKey → ℤ) (p : Stub) (gone : ℕ → Type 0) where
  -- a job that has ended ends at x
  pub ended_now : (t : ℕ) (a : ActiveJob m x r t) → has_ended r x a.state ≡ true → job_end m x r t a ≡ x
  ended_now t a e = by_order (job_end m x r t a) a.open' refl
    where
      apart : (a b : ℕ) → a ≤ b → (a < b → ⊥) → b ≡ a
      apart a b le ne = grind (arith, le, ne)

      by_order : (n : ℕ) → x ≤ n → job_end m x r t a ≡ n → job_end m x r t a ≡ x
      by_order n le is =
          is ∙ apart x n le (λ lt. cc (not_ended m well x r stood kk sensed seen t a (omega (arith, lt, is)), e))

  -- a task whose job has ended has one
  pub has_job : (u : TaskState) → has_ended r x u ≡ true → (job : Job) × (u.active ≡ Some job)
  has_job u e = by_active u.active refl
    where
      by_active : (o : Option Job) → u.active ≡ o → (job : Job) × (u.active ≡ Some job)
      by_active None q = absurd (cc (ap (λ a. unwrap_or (option_map (job_ends r x) a) false) q, e))
      by_active (Some job) q = (job, q)

  -- each task after phase 1
  after_is : (t : ℕ) (u : TaskState) → slice_get r.tasks t ≡ Some u →
      slice_get (phase_one x r).tasks t ≡ Some (task_after r x u)
  after_is t u at = slice_get-map (task_after r x) r.tasks t ∙ ap (option_map (task_after r x)) at

  -- an active job of task s and invocation n ends at x
  abbrev Ending : ℕ → ℕ → Type 0
  Ending s n = (a : ActiveJob m x r s) × (job_end m x r s a ≡ x) × (n ≡ a.job.invocation)

  -- an active job of a task whose state has no job that ends does not end
  not_both : (s t : ℕ) (u : TaskState) (a : ActiveJob m x r s) → s ≡ t → slice_get r.tasks t ≡ Some u →
      job_end m x r s a ≡ x → has_ended r x u ≡ true
  not_both s t u a task at end =
      let same : a.state ≡ u =
      same_Some a.state u (sym a.there ∙ ap (slice_get r.tasks) task ∙ at) in
      ap (has_ended r x) (sym same) ∙ is_ended m well x r stood kk sensed seen s a end

  -- each task of a stub takes the commit of its job that ends at x, or keeps what it has, where no job of it ends or
  -- the commit is gone
  pub took : JobsActive m x r → AllReceived m p → (now : StubNow) → length p.tasks ≡ length now.outputs →
      AllEntries (EntryFact m x r) p.entries now.entries →
      AllEntries (Got gone m (suc x) x r) p.entries now.entries → Took gone x r p now
  took live all now size facts gots t u has at =
      by_due (due_or_none (Got gone m (suc x) x r) x t p.entries now.entries gots)
    where
      v : TaskState
      v = task_after r x u

      held : (d : Receive) (n : EntryNow) → EntryFact m x r d n → Holds x p t v.outputs d n
      held d n fact due task =
          let k = takes_commit m well x r stood kk sensed seen d n fact due in
          sym k.copy ∙ ap (λ (u : TaskState). u.outputs)
          (same_Some k.state v (sym k.there ∙ ap (slice_get (phase_one x r).tasks) task ∙ after_is t u at))

      fact_at : (n : ℕ) (d : Receive) (e : EntryNow) → slice_get p.entries n ≡ Some d →
          slice_get now.entries n ≡ Some e → EntryFact m x r d e
      fact_at n d e there here =
          let f = entry_at (EntryFact m x r) p.entries now.entries facts n d there in
          subst (EntryFact m x r d) (same_Some f.now e (sym f.at ∙ here)) f.holds

      due_now : (d : Receive) → Ending d.task d.invocation → d.mode ≡ r.mode → (e : EntryNow) →
          Got gone m (suc x) x r d e → (is_at x e.due ≡ true) ⊎ gone x
      due_now d (a, end, named) mode e got = by_got (got a mode named (omega (arith, end)))
        where
          by_got : (e.due ≡ Some (job_end m x r d.task a)) ⊎ gone (job_end m x r d.task a) →
              (is_at x e.due ≡ true) ⊎ gone x
          by_got (inl due) = inl (ap (is_at x) (due ∙ ap Some end) ∙ eq-eqb x x refl)
          by_got (inr g) = inr (subst gone end g)

      none_gone : AllEntries (λ e n. is_at x n.due ≡ true → e.task ≡ t → ⊥) p.entries now.entries →
          has_ended r x u ≡ true → gone x
      none_gone none e =
          let j = has_job u e in
          let l = live t u j.0 at j.1 in
          let a = l.active in
          let end : job_end m x r t a ≡ x = ended_now t a (ap (has_ended r x) l.state ∙ e) in
          let f = all r.mode a.job.invocation a.mode a.invocation a.mode_at a.at
          (subst (λ s. is_numbered s p.tasks ≡ true) (sym a.task) has) in
          let task : f.entry.task ≡ t = f.task ∙ a.task in
          let g = entry_at (Got gone m (suc x) x r) p.entries now.entries gots f.place f.entry f.at in
          let n = entry_at (λ e n. is_at x n.due ≡ true → e.task ≡ t → ⊥) p.entries now.entries none f.place f.entry
          f.at in
          let ending : Ending f.entry.task f.entry.invocation =
          subst (λ s. Ending s f.entry.invocation) (sym task) (a, end, f.invocation) in
          by_due (n.holds) task (ap (λ (e : EntryNow). is_at x e.due) (same_Some n.now g.now (sym n.at ∙ g.at)))
          (due_now f.entry ending f.mode' g.now g.holds)
        where
          by_due : {a b : Bool} {s : ℕ} → (a ≡ true → s ≡ t → ⊥) → s ≡ t → a ≡ b → (b ≡ true) ⊎ gone x → gone x
          by_due n task same (inl due) = absurd (n (same ∙ due) task)
          by_due n task same (inr g) = g

      by_due : DueEntry x t p.entries now.entries
          ⊎ AllEntries (λ e n. is_at x n.due ≡ true → e.task ≡ t → ⊥) p.entries now.entries →
          TookTask gone x r p now t u
      by_due (inl d) =
          let k = takes_commit m well x r stood kk sensed seen d.entry d.now
          (fact_at d.place d.entry d.now d.at d.here) d.due in
          inl (
            not_both d.entry.task t u k.job d.task at k.end,
            taken_comes x p t has v.outputs p.entries now.entries now.outputs size
                (entries_map (EntryFact m x r) (Holds x p t v.outputs) held p.entries now.entries facts)
                d.place d.entry d.now d.at d.here d.due d.task,
          )
      by_due (inr none) = inr (taken_none x p t p.entries now.entries now.outputs none, none_gone none)

  -- a stub in step takes what is due and is in step with the tasks after phase 1, where no commit is gone at x
  pub in_step_one : JobsActive m x r → AllReceived m p → (now : StubNow) → length p.tasks ≡ length now.outputs →
      AllEntries (EntryFact m x r) p.entries now.entries →
      AllEntries (Got gone m (suc x) x r) p.entries now.entries → (gone x → ⊥) →
      InStep p now.outputs r.tasks → InStep p (taken x p now).outputs (phase_one x r).tasks
  in_step_one live all now size facts gots kept step t v has at = by_state (slice_get r.tasks t) refl
    where
      by_state : (o : Option TaskState) → slice_get r.tasks t ≡ o →
          stub_outputs t p.tasks (taken x p now).outputs ≡ v.outputs
      by_state None q =
          absurd (cc (sym (slice_get-map (task_after r x) r.tasks t ∙ ap (option_map (task_after r x)) q) ∙ at))
      by_state (Some u) q = by_took (took live all now size facts gots t u has q)
        where
          after : task_after r x u ≡ v
          after = same_Some (task_after r x u) v (sym (after_is t u q) ∙ at)

          stays : (b : Bool) → has_ended r x u ≡ b → (has_ended r x u ≡ true → gone x) → u ≡ v
          stays true e g = absurd (kept (g e))
          stays false e g = sym (ap (λ b. if b then unwrap_or (option_map (ended u) u.active) u else u) e) ∙ after

          by_took : TookTask gone x r p now t u → stub_outputs t p.tasks (taken x p now).outputs ≡ v.outputs
          by_took (inl (e, is)) = is ∙ ap (λ (w : TaskState). w.outputs) after
          by_took (inr (is, g)) =
              is ∙ step t u has q ∙ ap (λ (w : TaskState). w.outputs) (stays (has_ended r x u) refl g)

  -- so it is in step after the instant
  pub in_step_next : (outs : List (List ℤ)) → InStep p outs (phase_one x r).tasks →
      InStep p outs (alone kk x sensed seen r).tasks
  in_step_next outs step t v has at = by_state (slice_get (phase_one x r).tasks t) refl
    where
      outputs_of : TaskState → List ℤ
      outputs_of u = u.outputs

      same : option_map outputs_of (slice_get (alone kk x sensed seen r).tasks t)
          ≡ option_map outputs_of (slice_get (phase_one x r).tasks t)
      same = sym (slice_get-map outputs_of (alone kk x sensed seen r).tasks t)
          ∙ ap (λ l. slice_get l t) (alone-outputs kk x sensed seen r)
          ∙ slice_get-map outputs_of (phase_one x r).tasks t

      by_state : (o : Option TaskState) → slice_get (phase_one x r).tasks t ≡ o →
          stub_outputs t p.tasks outs ≡ v.outputs
      by_state None q = absurd (cc (ap (option_map outputs_of) at, same, ap (option_map outputs_of) q))
      by_state (Some u) q = step t u has q ∙ same_Some u.outputs v.outputs
          (sym (ap (option_map outputs_of) q) ∙ sym same ∙ ap (option_map outputs_of) at)
