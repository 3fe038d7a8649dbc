-- Where no invocation stays open, at a switch or at the end of a cycle: all tasks are idle after phase 1, and ready for
-- any mode that is entered.
use Rattle.std.proofs.Common.{◌≡◌, ℕ, suc, ◌+◌, ◌<◌, ◌≤◌, ℤ, List, [], ◌∷◌, map, Bool, true, false, ◌==◌, Option, Some, None, refl, ap, sym, ◌∙◌, subst, subst₂, arith}
use Rattle.std.specs.Prelude.{slice_get, if◌then◌else◌}
use Rattle.std.proofs.lemmas.Bool.{eqb-true, eq-eqb}
use Rattle.std.proofs.lemmas.Bool.Decides.{nat_tests}
use Rattle.tdl_mode.specs.declared.program.Module.{Module}
use Rattle.tdl_mode.specs.declared.program.Mode.{Mode}
use Rattle.tdl_mode.specs.declared.program.Task.{Task}
use Rattle.tdl_mode.specs.declared.program.Invocation.{Invocation}
use Rattle.tdl_mode.specs.States.{Job, TaskState, ModuleState, invocation_of}
use Rattle.tdl_mode.specs.Phases.{has_ended, task_after, phase_three, switched, switch_target}
use Rattle.tdl_body.specs.Values.{Look}
use Rattle.tdl_verify.specs.States.{Slot, TaskNow}
use Rattle.tdl_verify.proofs.EndBlocks.{committed, ended_tasks}
use Rattle.tdl_meaning.proofs.HostFacts.{ReleasePairs, WellLets, Older}
use Rattle.tdl_meaning.proofs.PhasesAtOffset.{none_left, AtOffset, ends_here, ends_is, has_ended-is, is_over-is}
use Rattle.tdl_meaning.specs.HostInStep.{TaskPairs, IsJob, SlotPair, Pairs}

-- a task without a job, in its logical state and on the node, with the same outputs
pub record IdlePair (u : TaskState) (w : TaskNow) : Type 0 where
  pub active : u.active ≡ None
  pub slot : w.slot ≡ Slot.Idle
  pub outputs : w.outputs ≡ u.outputs

module _ (m : Module) (k o x : ℕ) (mode : Mode) (is : slice_get m.modes k ≡ Some mode) (covers : ℕ → ℕ → ℕ) (worst : ℕ →
    ℕ) where
  -- an invocation of task t ends at this offset
  abbrev ends : ℕ → Bool
  ends = ends_here m k o x mode is covers worst

  -- no invocation is open across the offset
  abbrev pub NoneOpen : Type 0
  NoneOpen = (n : ℕ) (i : Invocation) → invocation_of mode.invocations n ≡ Some i → i.s.0 < o → o < i.e.0 → ⊥

  -- a job that is active ends at this offset
  closes : NoneOpen → (t : ℕ) (job : Job) (j : IsJob k mode t o job) → j.invocation.e.0 ≡ o
  closes closed t job j = by_test (j.invocation.e.0 == o) refl
    where
      by_test : (b : Bool) → (j.invocation.e.0 == o) ≡ b → j.invocation.e.0 ≡ o
      by_test true e = eqb-true j.invocation.e.0 o e
      by_test false e = absurd (closed job.invocation j.invocation j.at j.begun (past j.invocation.e.0 o e j.open'))
        where
          past : (a b : ℕ) → (a == b) ≡ false → b ≤ a → b < a
          past a b e le = grind (arith, nat_tests, e, le)

  -- after phase 1 a task is idle on both sides
  idle_pair : (r : ModuleState) → AtOffset m k o x mode is r → WellLets mode covers worst → NoneOpen →
      (t : ℕ) (task : Task) (outs wouts : List ℤ) (active : Option Job) (slot : Slot) (count : ℕ) → wouts ≡ outs →
      SlotPair k mode covers worst t o o task outs active slot →
      IdlePair (task_after r x (record { definition = task; outputs = outs; active = active }))
      (if ends t then committed (record { outputs = wouts; slot = slot; released = count })
      else record { outputs = wouts; slot = slot; released = count })
  idle_pair r stands well closed t task outs wouts None Slot.Idle count same pair = by_test (ends t)
    where
      by_test : (b : Bool) → IdlePair (record { definition = task; outputs = outs; active = None })
          (if b then committed (record { outputs = wouts; slot = Slot.Idle; released = count })
          else record { outputs = wouts; slot = Slot.Idle; released = count })
      by_test true = record { active = refl; slot = refl; outputs = same }
      by_test false = record { active = refl; slot = refl; outputs = same }
  idle_pair r stands well closed t task outs wouts None (Slot.Ready md i left cells) count same pair = absurd pair
  idle_pair r stands well closed t task outs wouts None (Slot.Done md i values) count same pair = absurd pair
  idle_pair r stands well closed t task outs wouts (Some job) Slot.Idle count same pair = absurd pair
  idle_pair r stands well closed t task outs wouts (Some job) (Slot.Ready md i left cells) count same pair =
      absurd (none_left m k o x mode is covers worst well t job left pair.0 (closes closed t job pair.0) pair.4 pair.5)
  idle_pair r stands well closed t task outs wouts (Some job) (Slot.Done md i values) count same pair =
      let e : (pair.0.invocation.e.0 == o) ≡ true = eq-eqb pair.0.invocation.e.0 o (closes closed t job pair.0) in
      let a : has_ended r x (record { definition = task; outputs = outs; active = Some job }) ≡ true =
      has_ended-is m k o x mode is covers worst r stands t o task outs job pair.0 ∙ e in
      let b : ends t ≡ true = ends_is m k o x mode is covers worst well t job pair.0 ∙ e in
      rw (a, b) (record { active = refl; slot = refl; outputs = pair.3 })

  -- after phase 1 all tasks are idle on both sides
  pub idle_pairs : (r : ModuleState) → AtOffset m k o x mode is r → WellLets mode covers worst → NoneOpen →
      (n : ℕ) (us : List TaskState) (ws : List TaskNow) →
      TaskPairs k mode covers worst o o n us ws →
      Pairs (λ t u w. IdlePair u w) n (map (task_after r x) us) (ended_tasks ends n ws)
  idle_pairs r stands well closed n [] [] ps = tt
  idle_pairs r stands well closed n [] (w ∷ ws) ps = absurd ps
  idle_pairs r stands well closed n (u ∷ us) [] ps = absurd ps
  idle_pairs r stands well closed n (u ∷ us) (w ∷ ws) ps = (
    idle_pair r stands well closed n u.definition u.outputs w.outputs u.active w.slot w.released ps.0.outputs ps.0.slot,
    idle_pairs r stands well closed (suc n) us ws ps.1,
  )

  -- where a switch is taken, phase 3 enters its target
  pub switches-to : (r : ModuleState) → AtOffset m k o x mode is r → (look : Look) (target : ℕ) →
      switch_target r x look ≡ Some target → phase_three x look r ≡ record r { mode = target; base = x }
  switches-to r stands look target e = ap (switched x r) e

  -- where the cycle is over and no switch is taken, phase 3 begins it anew
  pub begins_anew : (r : ModuleState) → AtOffset m k o x mode is r → (look : Look) → switch_target r x look ≡ None →
      (o == mode.period.0) ≡ true → phase_three x look r ≡ record r { base = x }
  begins_anew r stands look e over = ap (switched x r) e ∙ ap (λ b. if b then record r { base = x } else r)
      (is_over-is m k o x mode is r stands ∙ over)

  -- where the cycle is not over and no switch is taken, phase 3 changes nothing
  pub goes_on : (r : ModuleState) → AtOffset m k o x mode is r → (look : Look) → switch_target r x look ≡ None →
      (o == mode.period.0) ≡ false → phase_three x look r ≡ r
  goes_on r stands look e over = ap (switched x r) e ∙ ap (λ b. if b then record r { base = x } else r)
      (is_over-is m k o x mode is r stands ∙ over)

-- idle tasks are ready for the releases of any mode that is entered
pub fresh_pairs : (m : Module) (j : ℕ) (mode : Mode) (covers : ℕ → ℕ → ℕ) (worst : ℕ → ℕ)
    (n : ℕ) (us : List TaskState) (ws : List TaskNow) →
    ((t : ℕ) (u : TaskState) → slice_get us t ≡ Some u → slice_get m.tasks (n + t) ≡ Some u.definition) →
    Pairs (λ t u w. IdlePair u w) n us ws → ReleasePairs j mode covers worst 0 m.tasks 1 n us ws
fresh_pairs m j mode covers worst n [] [] definitions ps = tt
fresh_pairs m j mode covers worst n [] (w ∷ ws) definitions ps = absurd ps
fresh_pairs m j mode covers worst n (u ∷ us) [] definitions ps = absurd ps
fresh_pairs m j mode covers worst n (u ∷ us) (w ∷ ws) definitions ps =
    let z : n + 0 ≡ n = omega arith in (
      record {
        pair = record {
          outputs = ps.0.outputs;
          slot = subst₂ (λ a s. SlotPair j mode covers worst n 1 0 u.definition u.outputs a s)
              (sym ps.0.active) (sym ps.0.slot) tt;
        };
        older = subst (λ a. Older mode 0 n 1 a) (sym ps.0.active) tt;
        definition = ap (slice_get m.tasks) (sym z) ∙ definitions 0 u refl;
      },
      fresh_pairs m j mode covers worst (suc n) us ws
          (λ t v at. let s : suc n + t ≡ n + suc t = omega arith in ap (slice_get m.tasks) s
          ∙ definitions (suc t) v at) ps.1,
    )
