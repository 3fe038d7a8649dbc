-- The tasks of a hosted module after phase 1: no job that ends is still to be computed, and all are ready for the
-- releases of the same mode.
use Rattle.std.proofs.Common.{◌≡◌, ℕ, suc, ◌+◌, ℤ, List, [], ◌∷◌, map, Bool, true, false, ◌==◌, Option, Some, None, refl, ap, ap₂, sym, ◌∙◌, arith}
use Rattle.std.specs.Prelude.{slice_get, option_map, unwrap_or, if◌then◌else◌}
use Rattle.std.proofs.lemmas.Bool.{eqb-true}
use Rattle.std.proofs.lemmas.Option.{slice_get-map}
use Rattle.tdl_mode.specs.declared.program.Module.{Module}
use Rattle.tdl_mode.specs.declared.program.Mode.{Mode}
use Rattle.tdl_mode.specs.declared.program.Task.{Task}
use Rattle.tdl_mode.specs.declared.program.Invocation.{Invocation}
use Rattle.tdl_mode.specs.States.{Job, TaskState, ModuleState}
use Rattle.tdl_mode.specs.Phases.{ended, has_ended, task_after}
use Rattle.tdl_verify.specs.States.{Slot, TaskNow}
use Rattle.tdl_meaning.proofs.HostFacts.{ReleasePairs, WellLets, Older}
use Rattle.tdl_verify.proofs.EndBlocks.{NotReady, NoneReady, ended_tasks}
use Rattle.tdl_meaning.proofs.PhasesAtOffset.{none_left, AtOffset, ends_here, ends_is, ends_pair}
use Rattle.tdl_meaning.proofs.PhaseFour.{definitions}
use Rattle.tdl_meaning.specs.HostInStep.{TaskPairs, IsJob, SlotPair}

-- the definition of a task in a state is that of its place among the definitions
pub definitions-at : (us : List TaskState) (ts : List Task) (t : ℕ) (u : TaskState) → definitions us ≡ ts →
    slice_get us t ≡ Some u → slice_get ts t ≡ Some u.definition
definitions-at us ts t u e at = ap (λ l. slice_get l t) (sym e) ∙ slice_get-map (λ (u : TaskState). u.definition) us t
    ∙ ap (option_map (λ (u : TaskState). u.definition)) at

-- a task keeps its definition in phase 1
definition-after : (r : ModuleState) (x : ℕ) (u : TaskState) → (task_after r x u).definition ≡ u.definition
definition-after r x u = by_test (has_ended r x u) u.active
  where
    by_test : (b : Bool) (a : Option Job) →
        (if b then unwrap_or (option_map (ended u) a) u else u).definition ≡ u.definition
    by_test true None = refl
    by_test true (Some j) = refl
    by_test false a = refl

-- all tasks keep their definitions in phase 1
pub definitions-after : (r : ModuleState) (x : ℕ) (us : List TaskState) →
    definitions (map (task_after r x) us) ≡ definitions us
definitions-after r x [] = refl
definitions-after r x (u ∷ us) = ap₂ (λ t ts. t ∷ ts) (definition-after r x u) (definitions-after r x us)

module _ (m : Module) (k o x : ℕ) (mode : Mode) (is : slice_get m.modes k ≡ Some mode) (covers : ℕ → ℕ → ℕ)
    (worst : ℕ → ℕ) where
  -- an invocation of task t ends at offset o
  abbrev pub ends : ℕ → Bool
  ends = ends_here m k o x mode is covers worst

  -- no job that ends here is still to be computed
  pub none_ready : WellLets mode covers worst → (n : ℕ) (us : List TaskState) (ws : List TaskNow) →
      TaskPairs k mode covers worst o o n us ws →
      NoneReady ends n ws
  none_ready well n [] [] ps = tt
  none_ready well n [] (w ∷ ws) ps = absurd ps
  none_ready well n (u ∷ us) [] ps = absurd ps
  none_ready well n (u ∷ us) (w ∷ ws) ps = (
    λ e. by_slot u.active w.slot ps.0.slot e,
    none_ready well (suc n) us ws ps.1,
  )
    where
      by_slot : (active : Option Job) (slot : Slot) →
          SlotPair k mode covers worst n o o u.definition u.outputs active slot →
          ends n ≡ true → NotReady slot
      by_slot active Slot.Idle pair e = tt
      by_slot active (Slot.Done md i values) pair e = tt
      by_slot None (Slot.Ready md i left cells) pair e = absurd pair
      by_slot (Some job) (Slot.Ready md i left cells) pair e =
          let q : (pair.0.invocation.e.0 == o) ≡ true =
          sym (ends_is m k o x mode is covers worst well n job pair.0) ∙ e in
          absurd (none_left m k o x mode is covers worst well n job left pair.0
          (eqb-true pair.0.invocation.e.0 o q) pair.4 pair.5)

  -- a job that goes on began before this offset
  older_after : (r : ModuleState) → AtOffset m k o x mode is r →
      (t : ℕ) (task : Task) (outs : List ℤ) (active : Option Job) (slot : Slot) →
      SlotPair k mode covers worst t o o task outs active slot →
      Older mode o t 1 (task_after r x (record { definition = task; outputs = outs; active = active })).active
  older_after r stands t task outs None slot pair = tt
  older_after r stands t task outs (Some job) slot pair = by_test (has_ended r x u)
    where
      u : TaskState
      u = record { definition = task; outputs = outs; active = Some job }

      job_of : (slot : Slot) → SlotPair k mode covers worst t o o task outs (Some job) slot → IsJob k mode t o job
      job_of Slot.Idle pair = absurd pair
      job_of (Slot.Ready md i left cells) pair = pair.0
      job_of (Slot.Done md i values) pair = pair.0

      by_test : (b : Bool) →
          Older mode o t 1 (if b then unwrap_or (option_map (ended u) (Some job)) u else u).active
      by_test true = tt
      by_test false = λ i at le.
          let j = job_of slot pair in
          let e : j.invocation.s.0 ≡ i.s.0 =
          ap (λ q. unwrap_or (option_map (λ (i : Invocation). i.s.0) q) 0) (sym j.at ∙ at) in
          omega (arith, e, j.begun)

  -- after phase 1 the tasks are ready for the releases of the same mode
  pub at_release : (r : ModuleState) → AtOffset m k o x mode is r → WellLets mode covers worst →
      (n : ℕ) (us : List TaskState) (ws : List TaskNow) →
      ((t : ℕ) (u : TaskState) → slice_get us t ≡ Some u → slice_get m.tasks (n + t) ≡ Some u.definition) →
      TaskPairs k mode covers worst o o n us ws →
      ReleasePairs k mode covers worst o m.tasks 1 n (map (task_after r x) us)
      (ended_tasks ends n ws)
  at_release r stands well n [] [] at ps = tt
  at_release r stands well n [] (w ∷ ws) at ps = absurd ps
  at_release r stands well n (u ∷ us) [] at ps = absurd ps
  at_release r stands well n (u ∷ us) (w ∷ ws) at ps =
      let z : n ≡ n + 0 = omega arith in (
        record {
          pair = ends_pair m k o x mode is covers worst r stands well n u.definition u.outputs w.outputs u.active w.slot
              w.released ps.0.outputs ps.0.slot;
          older = older_after r stands n u.definition u.outputs u.active w.slot ps.0.slot;
          definition = ap (slice_get m.tasks) z ∙ at 0 u refl ∙ ap Some (sym (definition-after r x u));
        },
        at_release r stands well (suc n) us ws (λ t v e. let s : suc n + t ≡ n + suc t = omega arith in
            ap (slice_get m.tasks) s ∙ at (suc t) v e) ps.1,
      )
