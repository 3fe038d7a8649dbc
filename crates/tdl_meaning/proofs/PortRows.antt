-- The rows of ended jobs are the port rows of the logical instant.
use Rattle.std.proofs.Common.{◌≡◌, ℕ, suc, ℤ, List, [], ◌∷◌, ◌++◌, Bool, true, false, ◌&&◌, ◌||◌, ◌==◌, Option, Some, None, refl, ap, ap₂, ◌∙◌}
use Rattle.std.specs.Prelude.{slice_get, if◌then◌else◌}
use Rattle.std.proofs.lemmas.Bool.{eqb-true}
use Rattle.tdl_base.specs.Lists.{joined, numbered}
use Rattle.tdl_mode.specs.declared.program.Program.{Program}
use Rattle.tdl_mode.specs.declared.program.Module.{Module}
use Rattle.tdl_mode.specs.declared.program.Mode.{Mode}
use Rattle.tdl_mode.specs.declared.program.Task.{Task}
use Rattle.tdl_mode.specs.States.{Job, TaskState, ModuleState}
use Rattle.tdl_mode.specs.Phases.{has_ended}
use Rattle.tdl_trace.specs.Shown.{Shown}
use Rattle.tdl_deploy.specs.declared.placement.Placement.{Placement}
use Rattle.tdl_deploy.specs.Placed.{hosts, imports, sees}
use Rattle.tdl_deploy.specs.Rows.{task_port_rows}
use Rattle.tdl_verify.specs.States.{Slot, TaskNow}
use Rattle.tdl_verify.proofs.EndBlocks.{committed_rows, ended_rows}
use Rattle.tdl_meaning.proofs.HostFacts.{WellLets}
use Rattle.tdl_meaning.proofs.PhasesAtOffset.{none_left, AtOffset, ends_here, ends_is, has_ended-is}
use Rattle.tdl_meaning.specs.HostInStep.{TaskPairs, SlotPair}

module _ (p : Program) (pl : Placement) (node x : ℕ) where
  module _ (m : Module) (k o : ℕ) (mode : Mode) (is : slice_get m.modes k ≡ Some mode) (covers : ℕ → ℕ → ℕ)
      (worst : ℕ → ℕ) (kk : ℕ) (hosted : hosts pl node kk ≡ true) where
    -- an invocation of task t ends at offset o
    abbrev ends : ℕ → Bool
    ends = ends_here m k o x mode is covers worst

    -- a node sees all tasks of the modules it hosts
    sees-all : (task : Task) → sees p pl node kk task ≡ true
    sees-all task = ap (λ b. b || (task.public && imports p pl node kk)) hosted

    -- no rows, whatever a test says
    no_rows : Bool → List Shown
    no_rows b = if b then [] else []

    -- they are none
    none : (b : Bool) → no_rows b ≡ []
    unfolding no_rows
    none true = refl
    none false = refl

    -- the rows of a task on the node are those of its logical state
    Same : ModuleState → ℕ → TaskState → TaskNow → Type 0
    Same r t u w = (if ends t then committed_rows x node kk t w else []) ≡ task_port_rows p pl node x kk r t u

    -- a job that ends shows the rows of its outputs on both sides
    same_rows : (r : ModuleState) → AtOffset m k o x mode is r → WellLets mode covers worst →
        (t : ℕ) (task : Task) (outs wouts : List ℤ) (active : Option Job) (slot : Slot) (count : ℕ) →
        SlotPair k mode covers worst t o o task outs active slot →
        Same r t (record { definition = task; outputs = outs; active = active })
        (record { outputs = wouts; slot = slot; released = count })
    unfolding Same no_rows
    same_rows r stands well t task outs wouts None Slot.Idle count slot = none (ends t)
    same_rows r stands well t task outs wouts None (Slot.Ready md i left cells) count slot = absurd slot
    same_rows r stands well t task outs wouts None (Slot.Done md i values) count slot = absurd slot
    same_rows r stands well t task outs wouts (Some job) Slot.Idle count slot = absurd slot
    same_rows r stands well t task outs wouts (Some job) (Slot.Ready md i left cells) count slot =
        by_test (slot.0.invocation.e.0 == o) refl
      where
        by_test : (b : Bool) → (slot.0.invocation.e.0 == o) ≡ b →
            Same r t (record { definition = task; outputs = outs; active = Some job })
            (record { outputs = wouts; slot = Slot.Ready md i left cells; released = count })
        by_test true e =
            absurd (none_left m k o x mode is covers worst well t job left slot.0
            (eqb-true slot.0.invocation.e.0 o e) slot.4 slot.5)
        by_test false e =
            let a : has_ended r x (record { definition = task; outputs = outs; active = Some job }) ≡ false =
            has_ended-is m k o x mode is covers worst r stands t o task outs job slot.0 ∙ e in
            let b : ends t ≡ false = ends_is m k o x mode is covers worst well t job slot.0 ∙ e in
            rw (a, b) refl
    same_rows r stands well t task outs wouts (Some job) (Slot.Done md i values) count slot =
        by_test (slot.0.invocation.e.0 == o) refl
      where
        by_test : (b : Bool) → (slot.0.invocation.e.0 == o) ≡ b →
            Same r t (record { definition = task; outputs = outs; active = Some job })
            (record { outputs = wouts; slot = Slot.Done md i values; released = count })
        by_test true e =
            let a : has_ended r x (record { definition = task; outputs = outs; active = Some job }) ≡ true =
            has_ended-is m k o x mode is covers worst r stands t o task outs job slot.0 ∙ e in
            let b : ends t ≡ true = ends_is m k o x mode is covers worst well t job slot.0 ∙ e in
            let c : sees p pl node kk task ≡ true = sees-all task in
            rw (a, b, c) (ap (λ vs. numbered 0 (λ o v. Shown.Port x node kk t o v) vs) slot.3)
        by_test false e =
            let a : has_ended r x (record { definition = task; outputs = outs; active = Some job }) ≡ false =
            has_ended-is m k o x mode is covers worst r stands t o task outs job slot.0 ∙ e in
            let b : ends t ≡ false = ends_is m k o x mode is covers worst well t job slot.0 ∙ e in
            rw (a, b) refl

    -- the rows of all ended jobs of a hosted module are those of its tasks in phase 1
    pub ended_rows-are : (r : ModuleState) → AtOffset m k o x mode is r → WellLets mode covers worst →
        (n : ℕ) (us : List TaskState) (ws : List TaskNow) →
        TaskPairs k mode covers worst o o n us ws →
        ended_rows x node kk ends n ws ≡ joined (numbered n (task_port_rows p pl node x kk r) us)
    unfolding Same
    ended_rows-are r stands well n [] [] ps = refl
    ended_rows-are r stands well n [] (w ∷ ws) ps = absurd ps
    ended_rows-are r stands well n (u ∷ us) [] ps = absurd ps
    ended_rows-are r stands well n (u ∷ us) (w ∷ ws) ps =
        ap₂ (λ a b. a
        ++ b) (same_rows r stands well n u.definition u.outputs w.outputs u.active w.slot w.released ps.0.slot)
        (ended_rows-are r stands well (suc n) us ws ps.1)
