-- The blocks of a hosted module in step with the phases of its logical instant.
use Rattle.std.proofs.Common.{◌<◌, ◌≡◌, ℕ, zero, suc, ◌+◌, ◌≤◌, ℤ, List, [], ◌∷◌, map, Bool, true, false, ◌&&◌, ◌==◌, Option, Some, None, filter, refl, ap, ap₂, sym, ◌∙◌, subst₂, arith}
use Rattle.std.specs.Prelude.{slice_get, option_map, unwrap_or, if◌then◌else◌, find}
use Rattle.std.specs.List.{list_any}
use Rattle.std.proofs.lemmas.Bool.{eqb-true, eq-eqb, and_parts}
use Rattle.std.proofs.lemmas.Bool.Decides.{nat_tests}
use Rattle.tdl_base.specs.Numbers.{narrowed}
use Rattle.tdl_base.specs.declared.kinds.Kind.TheVariants.{Long}
use Rattle.tdl_body.specs.Values.{Look, value_of, holds}
use Rattle.tdl_mode.specs.declared.program.Module.{Module}
use Rattle.tdl_mode.specs.declared.program.Mode.{Mode}
use Rattle.tdl_mode.specs.declared.program.Task.{Task}
use Rattle.tdl_mode.specs.declared.program.Invocation.{Invocation}
use Rattle.tdl_mode.specs.declared.program.Switch.{Switch}
use Rattle.tdl_mode.specs.States.{Job, TaskState, ModuleState, present, invocation_of}
use Rattle.tdl_mode.specs.Phases.{has_ended, task_after, taken_update, update_value, switch_target, is_over}
use Rattle.tdl_verify.specs.States.{Slot, TaskNow}
use Rattle.tdl_verify.proofs.EndBlocks.{committed, ended_tasks}
use Rattle.tdl_meaning.proofs.HostFacts.{WellLets}
use Rattle.tdl_base.proofs.Finding.{find-filter, find-same, Passing, any-passing, passing-any}
use Rattle.tdl_meaning.specs.HostInStep.{TaskPairs, IsJob, SlotPair, TaskPair}

-- an offset of the cycle is at instant base + o where it is o
moved : (base at o : ℕ) → (base + at == base + o) ≡ (at == o)
moved base at o = grind (arith, nat_tests)

module _ (m : Module) (k o x : ℕ) (mode : Mode) (is : slice_get m.modes k ≡ Some mode) where
  -- the module is in this mode, and x is at offset o of its cycle
  pub record AtOffset (r : ModuleState) : Type 0 where
    pub definition : r.definition ≡ m
    pub mode' : r.mode ≡ k
    pub now : x ≡ r.base + o

  -- the present mode of the module
  pub present-is : (r : ModuleState) → AtOffset r → present r ≡ Some mode
  present-is r stands = ap₂ (λ (t : Module) n. slice_get t.modes n) stands.definition stands.mode' ∙ is

  -- an offset of the cycle is at this instant where it is o
  pub at_now : (r : ModuleState) → AtOffset r → (at : ℕ) → (r.base + at == x) ≡ (at == o)
  at_now r stands at = ap (λ y. r.base + at == y) stands.now ∙ moved r.base at o

  -- ---- phase 2

  -- the value that phase 2 gives an actuator is that of its first update at offset o whose guard holds
  pub update_value-is : (r : ModuleState) → AtOffset r → (look : Look) (a : ℕ) →
      update_value r x look a
      ≡ option_map (λ u. narrowed (unwrap_or (option_map (λ p. p.kind) (slice_get m.actuators a)) Long)
      (value_of u.value look))
      (find (λ u. holds u.guard look) (filter (λ u. u.actuator == a && u.at.0 == o) mode.updates))
  update_value-is r stands look a =
      let taken : taken_update r x look a
      ≡ find (λ u. holds u.guard look) (filter (λ u. u.actuator == a && u.at.0 == o) mode.updates) =
      ap (λ p. find (λ u. u.actuator == a && (r.base + u.at.0 == x && holds u.guard look))
      (unwrap_or (option_map (λ (d : Mode). d.updates) p) [])) (present-is r stands)
      ∙ find-same (λ u. u.actuator == a && (r.base + u.at.0 == x && holds u.guard look))
      (λ u. (u.actuator == a && u.at.0 == o) && holds u.guard look)
      (λ u. ap (λ t. u.actuator == a && (t && holds u.guard look)) (at_now r stands u.at.0)
      ∙ regroup (u.actuator == a) (u.at.0 == o) (holds u.guard look)) mode.updates
      ∙ find-filter (λ u. u.actuator == a && u.at.0 == o) (λ u. holds u.guard look) mode.updates in
      ap₂ (λ (t : Module) q. option_map (λ u.
      narrowed (unwrap_or (option_map (λ p. p.kind) (slice_get t.actuators a)) Long) (value_of u.value look)) q)
      stands.definition taken
    where
      regroup : (a b c : Bool) → (a && (b && c)) ≡ ((a && b) && c)
      regroup true b c = refl
      regroup false b c = refl

  -- ---- phase 3

  -- the target of phase 3 is that of the first switch at offset o whose guard holds
  pub switch_target-is : (r : ModuleState) → AtOffset r → (look : Look) →
      switch_target r x look
      ≡ option_map (λ s. s.target.0) (find (λ s. holds s.guard look) (filter (λ s. s.at.0 == o) mode.switches))
  switch_target-is r stands look =
      ap (option_map (λ (s : Switch). s.target.0))
      (ap (λ p. find (λ s. r.base + s.at.0 == x && holds s.guard look)
      (unwrap_or (option_map (λ (d : Mode). d.switches) p) [])) (present-is r stands)
      ∙ find-same (λ s. r.base + s.at.0 == x && holds s.guard look) (λ s. s.at.0 == o && holds s.guard look)
      (λ s. ap (λ t. t && holds s.guard look) (at_now r stands s.at.0)) mode.switches
      ∙ find-filter (λ s. s.at.0 == o) (λ s. holds s.guard look) mode.switches)

  -- the cycle is over where o is the period
  pub is_over-is : (r : ModuleState) → AtOffset r → is_over r x ≡ (o == mode.period.0)
  is_over-is r stands =
      ap (λ p. unwrap_or (option_map (λ (d : Mode). r.base + d.period.0 == x) p) false) (present-is r stands)
      ∙ at_now r stands mode.period.0 ∙ turned mode.period.0 o
    where
      turned : (a b : ℕ) → (a == b) ≡ (b == a)
      turned a b = grind (arith, nat_tests)

  -- ---- tasks

  -- the covered microseconds of an invocation at an offset, and the worst case of a task
  module _ (covers : ℕ → ℕ → ℕ) (worst : ℕ → ℕ) where
    -- an invocation of task t ends at offset o
    abbrev pub ends_here : ℕ → Bool
    ends_here t = list_any (λ i. i.task.0 == t && i.e.0 == o) mode.invocations

    -- the task of an active job has an end here exactly where the job ends here
    pub ends_is : WellLets mode covers worst → (t : ℕ) (job : Job) (j : IsJob k mode t o job) →
        ends_here t ≡ (j.invocation.e.0 == o)
    ends_is well t job j = by_test (j.invocation.e.0 == o) refl (ends_here t) refl
      where
        place : (n : ℕ) (i : Invocation) → invocation_of mode.invocations n ≡ Some i → ends_here t ≡ false →
            i.task.0 ≡ t → (i.e.0 == o) ≡ true → ⊥
        place zero i at f task e = absurd (cc at)
        place (suc n) i at f task e =
            let any = passing-any (λ i. i.task.0 == t && i.e.0 == o) mode.invocations n i at
            (ap₂ (λ a b. a && b) (eq-eqb i.task.0 t task) e) in
            absurd (cc (any, f))

        other : Passing (λ i. i.task.0 == t && i.e.0 == o) mode.invocations → (j.invocation.e.0 == o) ≡ false → ⊥
        other p f =
            let q = and_parts (p.item.task.0 == t) (p.item.e.0 == o) p.passes in
            let end : p.item.e.0 ≡ o = eqb-true p.item.e.0 o q.1 in
            let lasts = well.lasts (suc p.place) p.item p.at in
            let same : job.invocation ≡ suc p.place =
            well.apart job.invocation (suc p.place) j.invocation p.item j.at p.at
            (j.task ∙ sym (eqb-true p.item.task.0 t q.0))
            (omega (arith, j.begun, end)) (omega (arith, lasts, end, j.open')) in
            let item : Some j.invocation ≡ Some p.item = sym j.at ∙ ap (invocation_of mode.invocations) same ∙ p.at in
            let e : (j.invocation.e.0 == o) ≡ (p.item.e.0 == o) =
            ap (λ q. unwrap_or (option_map (λ (i : Invocation). i.e.0 == o) q) false) item in
            absurd (cc (f, e, q.1))

        by_test : (b : Bool) → (j.invocation.e.0 == o) ≡ b → (c : Bool) → ends_here t ≡ c →
            ends_here t ≡ (j.invocation.e.0 == o)
        by_test true e true f = f ∙ sym e
        by_test false e false f = f ∙ sym e
        by_test true e false f = absurd (place job.invocation j.invocation j.at f j.task e)
        by_test false e true f = absurd (other (any-passing (λ i. i.task.0 == t && i.e.0 == o) mode.invocations f) e)

    -- a job whose invocation ends at offset o has nothing left
    pub none_left : WellLets mode covers worst → (t : ℕ) (job : Job) (left : ℕ) (j : IsJob k mode t o job) →
        j.invocation.e.0 ≡ o → 0 < left → left + covers job.invocation o ≤ worst t → ⊥
    none_left well t job left j end some within =
        let full : worst t ≤ covers job.invocation o = subst₂ (λ a b. worst a ≤ covers job.invocation b) j.task end
        (well.full job.invocation j.invocation j.at) in
        omega (arith, full, some, within)

    -- ---- phase 1

    -- the logical job of a task has ended where its invocation ends at offset o
    pub has_ended-is : (r : ModuleState) → AtOffset r → (t d : ℕ) (task : Task) (outs : List ℤ) (job : Job)
        (j : IsJob k mode t d job) →
        has_ended r x (record { definition = task; outputs = outs; active = Some job }) ≡ (j.invocation.e.0 == o)
    has_ended-is r stands t d task outs job j =
        let a : (job.mode == r.mode) ≡ true = eq-eqb job.mode r.mode (j.mode' ∙ sym stands.mode') in
        let b : slice_get r.definition.modes r.mode ≡ Some mode = present-is r stands in
        rw (a, b, j.at) (at_now r stands j.invocation.e.0)

    -- a job that does not end at offset o is open at the next one
    later : (t : ℕ) (job : Job) (j : IsJob k mode t o job) → (j.invocation.e.0 == o) ≡ false →
        IsJob k mode t (suc o) job
    later t job j f = record {
      mode' = j.mode';
      invocation = j.invocation;
      at = j.at;
      task = j.task;
      begun = omega (arith, j.begun);
      open' = past j.invocation.e.0 o f j.open';
    }
      where
        past : (e o : ℕ) → (e == o) ≡ false → o ≤ e → suc o ≤ e
        past e o f le = grind (arith, nat_tests, f, le)

    -- a task and its slot after the end of its job, if it ends here
    abbrev pub Ended : ModuleState → ℕ → TaskState → TaskNow → Type 0
    Ended r t u w = TaskPair k mode covers worst t (suc o) o (task_after r x u) (if ends_here t then committed w else w)

    -- a task without a job stays so, whether an invocation ends here or not
    idle_pair : (r : ModuleState) (t : ℕ) (task : Task) (outs wouts : List ℤ) (count : ℕ) → wouts ≡ outs → (b : Bool) →
        TaskPair k mode covers worst t (suc o) o (record { definition = task; outputs = outs; active = None })
        (if b then record { outputs = wouts; slot = Slot.Idle; released = count }
        else record { outputs = wouts; slot = Slot.Idle; released = count })
    idle_pair r t task outs wouts count same true = record { outputs = same; slot = tt }
    idle_pair r t task outs wouts count same false = record { outputs = same; slot = tt }

    -- a pair at offset o is a pair after phase 1, a job that ends at o being gone on both sides
    pub ends_pair : (r : ModuleState) → AtOffset r → WellLets mode covers worst →
        (t : ℕ) (task : Task) (outs wouts : List ℤ) (active : Option Job) (slot : Slot) (count : ℕ) → wouts ≡ outs →
        SlotPair k mode covers worst t o o task outs active slot →
        Ended r t (record { definition = task; outputs = outs; active = active })
        (record { outputs = wouts; slot = slot; released = count })
    ends_pair r stands well t task outs wouts None Slot.Idle count same slot =
        idle_pair r t task outs wouts count same (ends_here t)
    ends_pair r stands well t task outs wouts None (Slot.Ready md i left cells) count same slot = absurd slot
    ends_pair r stands well t task outs wouts None (Slot.Done md i values) count same slot = absurd slot
    ends_pair r stands well t task outs wouts (Some job) Slot.Idle count same slot = absurd slot
    ends_pair r stands well t task outs wouts (Some job) (Slot.Ready md i left cells) count same slot =
        by_test (slot.0.invocation.e.0 == o) refl
      where
        u : TaskState
        u = record { definition = task; outputs = outs; active = Some job }

        w : TaskNow
        w = record { outputs = wouts; slot = Slot.Ready md i left cells; released = count }

        by_test : (b : Bool) → (slot.0.invocation.e.0 == o) ≡ b → Ended r t u w
        by_test true e =
            absurd (none_left well t job left slot.0 (eqb-true slot.0.invocation.e.0 o e) slot.4 slot.5)
        by_test false e =
            let a : has_ended r x u ≡ false = has_ended-is r stands t o task outs job slot.0 ∙ e in
            let b : ends_here t ≡ false = ends_is well t job slot.0 ∙ e in
            rw (a, b) (record { outputs = same; slot = (later t job slot.0 e, slot.1, slot.2, slot.3, slot.4, slot.5) })
    ends_pair r stands well t task outs wouts (Some job) (Slot.Done md i values) count same slot =
        by_test (slot.0.invocation.e.0 == o) refl
      where
        u : TaskState
        u = record { definition = task; outputs = outs; active = Some job }

        w : TaskNow
        w = record { outputs = wouts; slot = Slot.Done md i values; released = count }

        by_test : (b : Bool) → (slot.0.invocation.e.0 == o) ≡ b → Ended r t u w
        by_test true e =
            let a : has_ended r x u ≡ true = has_ended-is r stands t o task outs job slot.0 ∙ e in
            let b : ends_here t ≡ true = ends_is well t job slot.0 ∙ e in
            rw (a, b) (record { outputs = slot.3; slot = tt })
        by_test false e =
            let a : has_ended r x u ≡ false = has_ended-is r stands t o task outs job slot.0 ∙ e in
            let b : ends_here t ≡ false = ends_is well t job slot.0 ∙ e in
            rw (a, b) (record { outputs = same; slot = (later t job slot.0 e, slot.1, slot.2, slot.3) })

    -- the pairs of all tasks at offset o are pairs after phase 1
    pub ends_pairs : (r : ModuleState) → AtOffset r → WellLets mode covers worst →
        (n : ℕ) (us : List TaskState) (ws : List TaskNow) →
        TaskPairs k mode covers worst o o n us ws →
        TaskPairs k mode covers worst (suc o) o n (map (task_after r x) us)
        (ended_tasks ends_here n ws)
    ends_pairs r stands well n [] [] ps = tt
    ends_pairs r stands well n [] (w ∷ ws) ps = absurd ps
    ends_pairs r stands well n (u ∷ us) [] ps = absurd ps
    ends_pairs r stands well n (u ∷ us) (w ∷ ws) ps = (
      ends_pair r stands well n u.definition u.outputs w.outputs u.active w.slot w.released ps.0.outputs ps.0.slot,
      ends_pairs r stands well (suc n) us ws ps.1,
    )
