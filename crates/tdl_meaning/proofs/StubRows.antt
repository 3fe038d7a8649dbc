-- The rows of a stub at an instant are the port rows of its module.
use Rattle.std.proofs.Common.{◌≡◌, ℕ, suc, ◌+◌, ℤ, List, [], ◌∷◌, ◌++◌, map, Bool, true, false, ◌&&◌, ◌||◌, Some, refl, ap, ap₂, sym, ◌∙◌, subst, inl, inr, arith}
use Rattle.std.specs.Prelude.{◌⊎◌, slice_get, option_map, if◌then◌else◌}
use Rattle.std.proofs.lemmas.Option.{slice_get-map, same_Some}
use Rattle.tdl_base.specs.Lists.{numbered, joined}
use Rattle.tdl_base.specs.declared.numbers.PortKey.{PortKey}
use Rattle.tdl_mode.specs.declared.program.Program.{Program}
use Rattle.tdl_mode.specs.declared.program.Module.{Module}
use Rattle.tdl_mode.specs.declared.program.Mode.{Mode}
use Rattle.tdl_mode.specs.declared.program.Task.{Task}
use Rattle.tdl_mode.specs.declared.program.Invocation.{Invocation}
use Rattle.tdl_base.specs.Sensed.{Sensed}
use Rattle.tdl_mode.specs.States.{Job, TaskState, ModuleState, invocation_of}
use Rattle.tdl_mode.specs.Phases.{has_ended, task_after, phase_one}
use Rattle.tdl_trace.specs.Shown.{Shown}
use Rattle.tdl_deploy.specs.declared.placement.Placement.{Placement}
use Rattle.tdl_deploy.specs.Placed.{hosts, imports, sees}
use Rattle.tdl_image.specs.declared.stub.Stub.{Stub}
use Rattle.tdl_image.specs.declared.stub.Receive.{Receive}
use Rattle.tdl_verify.specs.States.{EntryNow}
use Rattle.tdl_verify.specs.Turns.{is_at, output_rows}
use Rattle.tdl_deploy.specs.Rows.{task_port_rows}
use Rattle.tdl_gen.proofs.StubMoves.{taken_rows}
use Rattle.tdl_meaning.proofs.ActiveJobs.{WellModes, Standing, is_ended}
use Rattle.tdl_meaning.proofs.EntryFacts.{takes_commit, at_is}
use Rattle.tdl_meaning.proofs.EntryLists.{entry_at}
use Rattle.tdl_base.proofs.Tests.{eq_self}
use Rattle.std.proofs.Math.Bool.{and-true}
use Rattle.tdl_meaning.proofs.TakenRows.{halves, rows-append, rows-empty, rows-none, rows-one, IsThatDue, Distinct, entries_weak}
use Rattle.tdl_meaning.proofs.StubsInStep.{ended_now, has_job}
use Rattle.tdl_meaning.proofs.HostJobs.{JobsActive}
use Rattle.tdl_meaning.specs.Entries.{ActiveJob, job_end, EntryFact, Got}
use Rattle.tdl_meaning.specs.AllItems.{AllEntries}

-- the entries of task n: one for each of its invocations, where it is public, and else none
pub record Segment (m : Module) (n : ℕ) (task : Task) (es : List Receive) : Type 0 where
  pub tasks : (j : ℕ) (e : Receive) → slice_get es j ≡ Some e → e.task ≡ n
  pub distinct : Distinct es
  pub hidden : task.public ≡ false → es ≡ []
  pub all : task.public ≡ true → (k q : ℕ) (mode : Mode) (i : Invocation) → slice_get m.modes k ≡ Some mode →
      invocation_of mode.invocations q ≡ Some i → i.task.0 ≡ n →
      (j : ℕ) × (e : Receive) × (slice_get es j ≡ Some e) × (e.mode ≡ k) × (e.invocation ≡ q)

-- the entries of task n, and after them the rest
pub record Cut (m : Module) (n : ℕ) (task : Task) (rest : List Receive → Type 0) (es : List Receive) : Type 0 where
  pub front : List Receive
  pub back : List Receive
  pub is : es ≡ front ++ back
  pub segment : Segment m n task front
  pub more : rest back

-- entries, task by task, the first having number n
abbrev pub Grouped : Module → ℕ → List Task → List Receive → Type 0
Grouped m n [] es = es ≡ []
Grouped m n (t ∷ ts) es = Cut m n t (Grouped m (suc n) ts) es

module _ (p : Program) (pl : Placement) (node : ℕ) (m : Module) (well : WellModes m) (x : ℕ) (r : ModuleState)
    (st : Standing m x r) (sensed : Sensed) (seen : PortKey → ℤ) (q : Stub) (gone : ℕ → Type 0)
    (live : JobsActive m x r)
    (safe : gone x → ⊥) (away : hosts pl node q.number.0 ≡ false) (near : imports p pl node q.number.0 ≡ true) where
  -- the module of the stub
  abbrev kk : ℕ
  kk = q.number.0

  -- what is known of an entry after delivery
  abbrev Both : Receive → EntryNow → Type 0
  Both e now = EntryFact m x r e now × Got gone m (suc x) x r e now

  -- the port rows of task n
  abbrev shown : ℕ → TaskState → List Shown
  shown n u = task_port_rows p pl node x kk r n u

  -- the node sees the public tasks of the module
  sees-is : (task : Task) → sees p pl node kk task ≡ task.public
  sees-is task = ap₂ (λ a b. a || (task.public && b)) away near ∙ and-true task.public

  -- the job of a due entry of task n ends at x, and the entry has its outputs
  record Due (n : ℕ) (u : TaskState) (e : Receive) (now : EntryNow) : Type 0 where
    job : Job
    active : u.active ≡ Some job
    same_mode : e.mode ≡ r.mode
    invocation : e.invocation ≡ job.invocation
    ends : has_ended r x u ≡ true
    copy : now.copy ≡ (task_after r x u).outputs

  -- a due entry has the commit of the job that ends
  due_is : (n : ℕ) (u : TaskState) → slice_get r.tasks n ≡ Some u → (e : Receive) (now : EntryNow) → e.task ≡ n →
      EntryFact m x r e now → is_at x now.due ≡ true → Due n u e now
  due_is n u here e now task fact due =
      let w = fact x (at_is x now.due due) in
      let c = takes_commit m well x r st kk sensed seen e now fact due in
      let state : w.job.state ≡ u = same_Some w.job.state u (sym w.job.there ∙ ap (slice_get r.tasks) task ∙ here) in
      let after : slice_get (phase_one x r).tasks n ≡ Some (task_after r x u) =
      slice_get-map (task_after r x) r.tasks n ∙ ap (option_map (task_after r x)) here in
      record {
        job = w.job.job;
        active = ap (λ (v : TaskState). v.active) (sym state) ∙ w.job.active;
        same_mode = w.mode';
        invocation = w.invocation;
        ends = ap (has_ended r x) (sym state) ∙ is_ended m well x r st kk sensed seen e.task w.job (sym w.when);
        copy = sym c.copy ∙ ap (λ (v : TaskState). v.outputs)
            (same_Some c.state (task_after r x u) (sym c.there ∙ ap (slice_get (phase_one x r).tasks) task ∙ after));
      }

  -- the rows of the entries of a task are its port rows
  segment_rows : (n : ℕ) (task : Task) (u : TaskState) → slice_get r.tasks n ≡ Some u → u.definition ≡ task →
      (es : List Receive) (nows : List EntryNow) → Segment m n task es → AllEntries Both es nows →
      taken_rows x node q es nows ≡ shown n u
  segment_rows n task u here definition es nows seg ps = by_ended (has_ended r x u) refl
    where
      rows : Bool → Bool → List Shown
      rows ended seen = if ended then (if seen then output_rows x node kk n (task_after r x u).outputs else []) else []

      seen-is : sees p pl node kk u.definition ≡ task.public
      seen-is = ap (sees p pl node kk) definition ∙ sees-is task

      Ending : ℕ → ℕ → Type 0
      Ending s n = (a : ActiveJob m x r s) × (job_end m x r s a ≡ x) × (n ≡ a.job.invocation)

      due_now : (d : Receive) → Ending d.task d.invocation → d.mode ≡ r.mode → (now : EntryNow) →
          Got gone m (suc x) x r d now → is_at x now.due ≡ true
      due_now d (a, end, named) mode now got = by_got (got a mode named (omega (arith, end)))
        where
          by_got : (now.due ≡ Some (job_end m x r d.task a)) ⊎ gone (job_end m x r d.task a) → is_at x now.due ≡ true
          by_got (inl due) = ap (is_at x) (due ∙ ap Some end) ∙ eq_self x
          by_got (inr g) = absurd (safe (subst gone end g))

      by_public : has_ended r x u ≡ true → (b : Bool) → task.public ≡ b →
          taken_rows x node q es nows ≡ rows (has_ended r x u) (sees p pl node kk u.definition)
      by_public f false g = rows-empty x node q es nows (seg.hidden g) ∙ sym (ap₂ rows f (seen-is ∙ g))
      by_public f true g =
          let j = has_job m well x r st kk sensed seen q gone u f in
          let l = live n u j.0 here j.1 in
          let a = l.active in
          let end : job_end m x r n a ≡ x =
          ended_now m well x r st kk sensed seen q gone n a (ap (has_ended r x) l.state ∙ f) in
          let s = seg.all g r.mode a.job.invocation a.mode a.invocation a.mode_at a.at a.task in
          let e : Receive = s.1 in
          let t = entry_at Both es nows ps s.0 e s.2 in
          let ending = subst (λ i. Ending i e.invocation) (sym (seg.tasks s.0 e s.2)) (a, end, s.4) in
          let due : is_at x t.now.due ≡ true = due_now e ending s.3 t.now t.holds.1 in
          let outs : List ℤ = (task_after r x u).outputs in
          rows-one x node q r.mode a.job.invocation n outs es nows
          (entries_weak Both (IsThatDue x r.mode a.job.invocation n outs) es nows (λ i d now di b due.
          let c = due_is n u here d now (seg.tasks i d di) b.0 due in (
            c.same_mode,
            c.invocation ∙ ap (λ (k : Job). k.invocation)
                (same_Some c.job a.job (sym c.active ∙ j.1 ∙ ap Some (sym l.same))),
            seg.tasks i d di,
            c.copy,
          )) ps) seg.distinct s.0 e t.now s.2 t.at due
          ∙ sym (ap₂ rows f (seen-is ∙ g))

      by_ended : (b : Bool) → has_ended r x u ≡ b →
          taken_rows x node q es nows ≡ rows (has_ended r x u) (sees p pl node kk u.definition)
      by_ended false f =
          rows-none x node q es nows (entries_weak Both (λ e now. is_at x now.due ≡ true → ⊥) es nows
          (λ j e now at b due. let d = due_is n u here e now (seg.tasks j e at) b.0 due in let g = d.ends in
          cc (g, f)) ps)
          ∙ ap (λ b. rows b (sees p pl node kk u.definition)) (sym f)
      by_ended true f = by_public f task.public refl

  -- the rows of the entries of all tasks are the port rows of the module
  pub stub_rows : (n : ℕ) (ts : List Task) (us : List TaskState) → map (λ (u : TaskState). u.definition) us ≡ ts →
      ((t : ℕ) (u : TaskState) → slice_get us t ≡ Some u → slice_get r.tasks (n + t) ≡ Some u) →
      (es : List Receive) (nows : List EntryNow) → Grouped m n ts es → AllEntries Both es nows →
      taken_rows x node q es nows ≡ joined (numbered n (task_port_rows p pl node x kk r) us)
  stub_rows n [] [] definitions here es nows g ps = rows-empty x node q es nows g
  stub_rows n [] (u ∷ us) definitions here es nows g ps = absurd (cc definitions)
  stub_rows n (t ∷ ts) [] definitions here es nows g ps = absurd (cc definitions)
  stub_rows n (t ∷ ts) (u ∷ us) definitions here es nows g ps =
      let h = halves Both g.front g.back nows (subst (λ l. AllEntries Both l nows) g.is ps) in
      let z : n + 0 ≡ n = omega arith in
      let heads : u.definition ≡ t = ap (head_or t) definitions in
      let one = segment_rows n t u (ap (slice_get r.tasks) (sym z) ∙ here 0 u refl) heads g.front h.one g.segment
      h.first in
      let rest =
      stub_rows (suc n) ts us (ap rest_of definitions) (λ i v at. let s : suc n + i ≡ n + suc i = omega arith in
      ap (slice_get r.tasks) s ∙ here (suc i) v at) g.back h.two g.more h.second in
      ap₂ (λ a b. taken_rows x node q a b) g.is h.is ∙ rows-append Both x node q g.front g.back h.one h.two h.first
      ∙ ap₂ (λ a b. a ++ b) one rest
    where
      head_or : {A : Type 0} → A → List A → A
      head_or a [] = a
      head_or a (b ∷ bs) = b

      rest_of : {A : Type 0} → List A → List A
      rest_of [] = []
      rest_of (b ∷ bs) = bs
