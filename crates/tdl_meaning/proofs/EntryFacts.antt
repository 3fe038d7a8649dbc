-- A receive entry's trigger is the end of its active job, and its copy what comes of it.
use Rattle.std.proofs.Common.{◌≡◌, ℕ, suc, ◌<◌, ◌≤◌, ℤ, Bool, true, false, Option, Some, None, refl, ap, sym, ◌∙◌, arith}
use Rattle.std.specs.Prelude.{slice_get, if◌then◌else◌}
use Rattle.std.proofs.lemmas.Bool.{eqb-true, eq-eqb}
use Rattle.tdl_base.specs.declared.numbers.PortKey.{PortKey}
use Rattle.tdl_mode.specs.declared.program.Module.{Module}
use Rattle.tdl_base.specs.Sensed.{Sensed}
use Rattle.tdl_mode.specs.States.{Job, TaskState, ModuleState}
use Rattle.tdl_mode.specs.Phases.{phase_one, ended}
use Rattle.tdl_mode.specs.Instants.{alone}
use Rattle.tdl_image.specs.declared.stub.Receive.{Receive}
use Rattle.tdl_verify.specs.States.{EntryNow}
use Rattle.tdl_verify.specs.Turns.{is_at}
use Rattle.tdl_gen.proofs.StubMoves.{freed, left_at}
use Rattle.tdl_meaning.proofs.ActiveJobs.{WellModes, Standing, stays, ends}
use Rattle.tdl_meaning.specs.Entries.{ActiveJob, job_end, Waits, EntryFact}

-- a trigger that stands at x is x
pub at_is : (x : ℕ) (due : Option ℕ) → is_at x due ≡ true → due ≡ Some x
at_is x None e = absurd (cc e)
at_is x (Some at) e = ap Some (eqb-true at x e)

module _ (m : Module) (well : WellModes m) (x : ℕ) (r : ModuleState) (stood : Standing m x r) (kk : ℕ) (sensed : Sensed)
    (seen : PortKey → ℤ) where
  -- an entry that is due: its task's job ends, and the copy is what the task commits
  pub record Taken (e : Receive) (now : EntryNow) : Type 0 where
    pub mode' : e.mode ≡ r.mode
    pub state : TaskState
    pub there : slice_get (phase_one x r).tasks e.task ≡ Some state
    pub copy : state.outputs ≡ now.copy
    pub job : ActiveJob m x r e.task
    pub end : job_end m x r e.task job ≡ x

  -- an entry that is due takes the commit of a job that ends at x
  pub takes_commit : (e : Receive) (now : EntryNow) → EntryFact m x r e now → is_at x now.due ≡ true → Taken e now
  takes_commit e now fact due =
      let w = fact x (at_is x now.due due) in
      record {
        mode' = w.mode';
        state = ended w.job.state w.job.job;
        there = ends m well x r stood kk sensed seen e.task w.job (sym w.when);
        copy = sym w.copy;
        job = w.job;
        end = sym w.when;
      }

  -- after the turn each entry keeps its fact
  pub entry_kept : (e : Receive) (now : EntryNow) → EntryFact m x r e now →
      EntryFact m (suc x) (alone kk x sensed seen r) e (left_at x now)
  entry_kept e now fact at due = by_test (is_at x now.due) refl due
    where
      other : (o : Option ℕ) → o ≡ Some at → is_at x o ≡ false → at ≡ x → ⊥
      other None q f e = cc q
      other (Some t) q f e = let n : is_at x (Some t) ≡ true = ap (is_at x) q ∙ eq-eqb at x e in cc (n, f)

      by_test : (b : Bool) → is_at x now.due ≡ b → (if b then freed now else now).due ≡ Some at →
          Waits m (suc x) (alone kk x sensed seen r) e (if b then freed now else now) at
      by_test true q due = absurd (cc due)
      by_test false q due =
          let w = fact at due in
          let open' = w.job.open' in
          let when = w.when in
          let s = stays m well x r stood kk sensed seen e.task w.job
          (later x (job_end m x r e.task w.job) open' (λ q'. other now.due due q (when ∙ sym q'))) in
          record {
            job = s.next;
            mode' = w.mode' ∙ sym s.mode';
            invocation = w.invocation ∙ ap (λ (j : Job). j.invocation) (sym s.job);
            when = w.when ∙ sym s.ends;
            copy = w.copy ∙ sym s.made;
          }
        where
          later : (a b : ℕ) → a ≤ b → (a ≡ b → ⊥) → a < b
          later a b le ne = grind (arith, le, ne)
