-- A microsecond of a hosted module keeps it in step with its logical state.
use Rattle.std.proofs.Common.{◌≡◌, ℕ, suc, ◌+◌, ◌≤◌, List, [], ◌∷◌, map, length, filter, refl, ap, sym, ◌∙◌, subst, arith}
use Rattle.tdl_mode.specs.declared.program.Module.{Module}
use Rattle.tdl_mode.specs.declared.program.Task.{Task}
use Rattle.tdl_mode.specs.States.{TaskState, ModuleState}
use Rattle.tdl_deploy.specs.declared.schedule.Schedule.{Schedule}
use Rattle.tdl_image.specs.declared.hosted.Hosted.{Hosted}
use Rattle.tdl_verify.specs.States.{HostNow}
use Rattle.tdl_verify.specs.Micros.{is_live, tasks_run}
use Rattle.tdl_gen.specs.Tables.{hosted_of, task_table}
use Rattle.tdl_meaning.proofs.TaskMicros.{micro_pairs}
use Rattle.tdl_meaning.proofs.PhaseFour.{definitions}
use Rattle.tdl_deploy.specs.AtRelease.{worst_case_of}
use Rattle.tdl_meaning.specs.HostInStep.{TaskPairs, covers_of, HostFacts, HostAfter}

-- the tables of the tasks, from their definitions
tables-same : (us : List TaskState) (ts : List Task) → definitions us ≡ ts →
    map (λ (u : TaskState). task_table u.definition) us ≡ map task_table ts
tables-same us ts e = made us ∙ ap (map task_table) e
  where
    made : (us : List TaskState) → map (λ (u : TaskState). task_table u.definition) us ≡ map task_table (definitions us)
    made [] = refl
    made (u ∷ us) = ap (λ l. task_table u.definition ∷ l) (made us)

-- the state of a hosted module after its microsecond
abbrev pub after_micro : Schedule → ℕ → ℕ → Module → HostNow → HostNow
after_micro sch x kk m s = record s {
  tasks = tasks_run (filter (is_live x s) (hosted_of sch kk m).windows) (hosted_of sch kk m).tasks s.tasks;
}

-- a hosted module after the turn of instant x is in step before the next, if at most one of its windows is live
pub micro_host : (sch : Schedule) (kk : ℕ) (m : Module) (x : ℕ) (r : ModuleState) (s : HostNow) →
    HostAfter m (hosted_of sch kk m) x r s → length (filter (is_live x s) (hosted_of sch kk m).windows) ≤ 1 →
    HostFacts m (hosted_of sch kk m) (suc x) r (after_micro sch x kk m s)
micro_host sch kk m x r s f few =
    let g = f.facts in
    let h : Hosted = hosted_of sch kk m in
    let at : x ≡ s.base + f.offset = f.now ∙ ap (λ b. b + f.offset) (sym g.base) in
    record {
      offset = suc f.offset;
      now = let n = f.now in omega (arith, n);
      facts = record {
        mode = g.mode;
        at = g.at;
        definition = g.definition;
        above = g.above;
        within = g.within;
        mode' = g.mode';
        base = g.base;
        grain = g.grain;
        next = g.next;
        is_next = g.is_next;
        trigger = g.trigger;
        definitions = g.definitions;
        tasks = subst (λ ts. TaskPairs r.mode g.mode (covers_of r.mode h) (worst_case_of m) (suc f.offset)
            (suc f.offset) 0
            r.tasks (tasks_run (filter (is_live x s) h.windows) ts s.tasks))
            (tables-same r.tasks m.tasks g.definitions)
            (micro_pairs r.mode g.mode h (worst_case_of m) f.offset x s g.mode' at few 0 r.tasks s.tasks g.tasks);
        actuators = g.actuators;
        sizes = g.sizes;
      };
    }
