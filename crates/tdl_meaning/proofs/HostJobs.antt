-- The jobs of a hosted module before an instant, as active jobs.
use Rattle.std.proofs.Common.{◌≡◌, ℕ, zero, suc, ◌+◌, List, [], ◌∷◌, Option, Some, None, refl, ap, ◌∙◌, subst, arith}
use Rattle.std.specs.Prelude.{slice_get}
use Rattle.std.proofs.lemmas.Option.{same_Some}
use Rattle.tdl_mode.specs.declared.program.Module.{Module}
use Rattle.tdl_mode.specs.declared.program.Mode.{Mode}
use Rattle.tdl_mode.specs.States.{Job, TaskState, ModuleState}
use Rattle.tdl_image.specs.declared.hosted.Hosted.{Hosted}
use Rattle.tdl_verify.specs.States.{Slot, TaskNow, HostNow}
use Rattle.tdl_meaning.proofs.ActiveJobs.{Standing}
use Rattle.tdl_deploy.specs.AtRelease.{worst_case_of}
use Rattle.tdl_meaning.specs.HostInStep.{IsJob, SlotPair, TaskPair, Pairs, HostFacts}
use Rattle.tdl_meaning.specs.Entries.{ActiveJob}

-- the job of a task, as an active job
pub record TaskJob (m : Module) (x : ℕ) (r : ModuleState) (t : ℕ) (u : TaskState) (job : Job) : Type 0 where
  pub active : ActiveJob m x r t
  pub state : active.state ≡ u
  pub same : active.job ≡ job

-- each job of a task is an active job
abbrev pub JobsActive : Module → ℕ → ModuleState → Type 0
JobsActive m x r = (t : ℕ) (u : TaskState) (job : Job) → slice_get r.tasks t ≡ Some u → u.active ≡ Some job →
    TaskJob m x r t u job

-- a job that began before offset d of the cycle, as a job that is active before the instant at d
pub active_from : (m : Module) (x : ℕ) (r : ModuleState) (mode : Mode) → slice_get m.modes r.mode ≡ Some mode →
    (d : ℕ) → x ≡ r.base + d → (t : ℕ) (u : TaskState) (job : Job) → slice_get r.tasks t ≡ Some u →
    u.active ≡ Some job → IsJob r.mode mode t d job → TaskJob m x r t u job
active_from m x r mode at d now t u job there active j = record {
  active = record {
    mode = mode;
    mode_at = at;
    state = u;
    there = there;
    job = job;
    active = active;
    job_mode = j.mode';
    invocation = j.invocation;
    at = j.at;
    task = j.task;
    begun = let b = j.begun in omega (arith, b, now);
    open' = let b = j.open' in omega (arith, b, now);
  };
  state = refl;
  same = refl;
}

-- the job of a task beside its slot
job_of : (k : ℕ) (mode : Mode) (covers : ℕ → ℕ → ℕ) (worst : ℕ → ℕ) (t d c : ℕ) (u : TaskState) (w : TaskNow)
    (job : Job) → u.active ≡ Some job → TaskPair k mode covers worst t d c u w → IsJob k mode t d job
job_of k mode covers worst t d c u w job active pair = by_slot u.active w.slot active pair.slot
  where
    by_slot : (o : Option Job) (slot : Slot) → o ≡ Some job →
        SlotPair k mode covers worst t d c u.definition u.outputs o slot → IsJob k mode t d job
    by_slot None slot e p = absurd (cc e)
    by_slot (Some j) Slot.Idle e p = absurd p
    by_slot (Some j) (Slot.Ready md i left cells) e p = subst (IsJob k mode t d) (same_Some j job e) p.0
    by_slot (Some j) (Slot.Done md i values) e p = subst (IsJob k mode t d) (same_Some j job e) p.0

-- the jobs of all tasks beside their slots
pairs_jobs : (k : ℕ) (mode : Mode) (covers : ℕ → ℕ → ℕ) (worst : ℕ → ℕ) (d c n : ℕ) (us : List TaskState)
    (ws : List TaskNow) → Pairs (λ t u w. TaskPair k mode covers worst t d c u w) n us ws →
    (t : ℕ) (u : TaskState) (job : Job) → slice_get us t ≡ Some u → u.active ≡ Some job → IsJob k mode (n + t) d job
pairs_jobs k mode covers worst d c n [] ws ps t u job here active = absurd (cc here)
pairs_jobs k mode covers worst d c n (v ∷ us) [] ps t u job here active = absurd ps
pairs_jobs k mode covers worst d c n (v ∷ us) (w ∷ ws) ps zero u job here active =
    let z : n ≡ n + 0 = omega arith in
    subst (λ j. IsJob k mode j d job) z
    (job_of k mode covers worst n d c v w job (ap (λ (u : TaskState). u.active) (same_Some v u here) ∙ active) ps.0)
pairs_jobs k mode covers worst d c n (v ∷ us) (w ∷ ws) ps (suc t) u job here active =
    let z : suc n + t ≡ n + suc t = omega arith in
    subst (λ j. IsJob k mode j d job) z (pairs_jobs k mode covers worst d c (suc n) us ws ps.1 t u job here active)

-- before x each job of a hosted module is an active job
pub live_before : (m : Module) (h : Hosted) (x : ℕ) (r : ModuleState) (s : HostNow) → HostFacts m h x r s →
    JobsActive m x r
live_before m h x r s f t u job here active =
    let z : 0 + t ≡ t = omega arith in
    active_from m x r f.facts.mode f.facts.at f.offset f.now t u job here active
    (subst (λ j. IsJob r.mode f.facts.mode j f.offset job) z
    (pairs_jobs r.mode f.facts.mode _ (worst_case_of m) f.offset f.offset 0 r.tasks s.tasks f.facts.tasks t u job
    here active))

-- where a hosted module stands before x
pub standing : (m : Module) (h : Hosted) (x : ℕ) (r : ModuleState) (s : HostNow) → HostFacts m h x r s → Standing m x r
standing m h x r s f = record {
  mode = f.facts.mode;
  at = f.facts.at;
  definition = f.facts.definition;
  offset = f.offset;
  now = f.now;
}
