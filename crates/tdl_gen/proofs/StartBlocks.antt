-- The block of phase 4: the releases.
use Rattle.std.proofs.Common.{◌≡◌, ℕ, zero, suc, ◌+◌, ◌≤◌, ℤ, pos, List, [], ◌∷◌, ◌++◌, map, length, replicate, Bool, true, false, ◌&&◌, ◌==◌, filter, refl, ap, ap₂, sym, ◌∙◌, subst, subst₂, arith}
use Rattle.std.specs.Prelude.{if◌then◌else◌}
use Rattle.std.proofs.lemmas.List.{length-append}
use Rattle.tdl_base.specs.Lists.{changed_at, numbered}
use Rattle.tdl_base.specs.Numbers.{narrowed}
use Rattle.tdl_base.specs.declared.kinds.Kind.{Kind}
use Rattle.tdl_base.specs.declared.kinds.Kind.TheVariants.{Long}
use Rattle.tdl_body.specs.declared.tree.Expr.{Expr}
use Rattle.tdl_body.specs.Values.{Look, holds}
use Rattle.tdl_mode.specs.declared.program.Module.{Module}
use Rattle.tdl_mode.specs.declared.program.Invocation.{Invocation}
use Rattle.tdl_mode.specs.Phases.{narrowed_args}
use Rattle.tdl_trace.specs.Shown.{Shown}
use Rattle.tdl_stack.specs.declared.instr.Code.{Code}
use Rattle.tdl_ecode.specs.declared.instr.EInstr.{EInstr}
use Rattle.tdl_ecode.specs.declared.instr.EInstr.TheVariants as ec
use Rattle.tdl_image.specs.declared.hosted.Hosted.{Hosted}
use Rattle.tdl_image.specs.declared.hosted.TaskTable.{TaskTable}
use Rattle.tdl_base.specs.Sensed.{Sensed}
use Rattle.tdl_verify.specs.States.{Slot, TaskNow, HostNow, Part, Times, value_on}
use Rattle.tdl_verify.specs.Turns.{Acted, Spot, code_at, release_acts, arguments}
use Rattle.tdl_gen.specs.BlockNames.{release_names, number_in}
use Rattle.tdl_gen.specs.Blocks.{laid, start_code, Numbered}
use Rattle.tdl_gen.specs.Tables.{coded}
pub use Rattle.tdl_gen.specs.HostSteps.{outputs_of}
use Rattle.tdl_gen.specs.HostSteps as steps
use Rattle.tdl_verify.proofs.Leads.{Leads, nothing, leads_on, wider, one_on}
use Rattle.tdl_verify.proofs.EndBlocks.{HasAt, has-append}
use Rattle.tdl_gen.proofs.Guards.{Reads, cost, guard_length, guard_true, guard_false}

module _ (x node : ℕ) (sensed : Sensed) (times : Times) (h : Hosted) (b : ℕ) (front back : List Part) (m : Module)
    (k o : ℕ) (look : Look) where
  -- at most so many instructions lead from one spot and these parts to another, with these plain rows
  abbrev Runs : ℕ → Spot → List Part → Spot → List Part → List Shown → Type 0
  Runs most from ps to qs rows = Leads x node sensed times most from ps to qs rows

  -- the parts of the node, with the host in this state
  abbrev parts : HostNow → List Part
  parts s = front ++ Part.Host h s ∷ back

  -- a place in the block
  abbrev spot : ℕ → Spot
  spot pc = Spot.In (length front) b pc

  -- the host with these tasks
  abbrev pub with_tasks : HostNow → List TaskNow → HostNow
  with_tasks s tasks = record s { tasks = tasks }

  -- the arguments of a release are those of the invocation
  args-same : (value : List Part) → Reads value sensed h.number.0 look → (kinds : List Kind) (args : List Expr) →
      arguments (value_on value sensed h.number.0) kinds (map coded args) ≡ narrowed_args kinds args look
  args-same ps reads kinds [] = refl
  args-same ps reads [] (a ∷ args) = ap₂ (λ v vs. narrowed Long v ∷ vs) (reads a) (args-same ps reads [] args)
  args-same ps reads (kind ∷ kinds) (a ∷ args) =
      ap₂ (λ v vs. narrowed kind v ∷ vs) (reads a) (args-same ps reads kinds args)

  -- a task whose job starts
  abbrev pub started : TaskTable → ℕ → Invocation → TaskNow → TaskNow
  started table n i u = steps.started times h k look table n i u

  -- the tables of an invocation stand at their numbers
  abbrev pub HasStart : ℕ → Invocation → TaskTable → Type 0
  HasStart n i table = steps.HasStart h m k n i table

  -- the slot of a task is idle
  abbrev pub IsFree : ℕ → List TaskNow → Type 0
  IsFree t ts = steps.IsFree t ts

  -- a release makes the job of its invocation ready
  one_release : (s : HostNow) (ts : List TaskNow) (pc n : ℕ) (i : Invocation) (table : TaskTable) →
      HasStart n i table → IsFree i.task.0 ts → Reads (parts (with_tasks s ts)) sensed h.number.0 look →
      release_acts (value_on (parts (with_tasks s ts)) sensed h.number.0) times h (with_tasks s ts) pc
      (number_in (release_names m) k n)
      ≡ Acted.On (Part.Host h (with_tasks s (changed_at i.task.0 (started table n i) ts))) [] (suc pc)
  one_release s ts pc n i table has free reads =
      let made : (List Kind → List Expr → List ℤ) → Acted = λ f.
      Acted.On (Part.Host h (with_tasks s (changed_at i.task.0
      (λ (u : TaskNow). record u {
        slot = Slot.Ready k n (times h.number.0 i.task.0 (suc u.released))
            (f table.inputs i.args ++ u.outputs ++ replicate (length table.locals) (pos 0));
        released = suc u.released;
      }) ts))) [] (suc pc) in
      let value : Code → ℤ = value_on (parts (with_tasks s ts)) sensed h.number.0 in
      let first : release_acts value times h (with_tasks s ts) pc (number_in (release_names m) k n) ≡
      made (λ kinds args. arguments value kinds (map coded args)) =
      rw (has.release, has.call, has.tasks, free.at) refl in
      first ∙ ap made (λ q kinds args. args-same (parts (with_tasks s ts)) reads kinds args q)

  -- what the tasks are after the releases of invocations from number n on
  abbrev pub all_started : (ℕ → TaskTable) → ℕ → List Invocation → List TaskNow → List TaskNow
  all_started tables n is ts = steps.all_started times h k o look tables n is ts

  -- each that starts has its tables, and a free slot
  abbrev pub AllFree : (ℕ → TaskTable) → ℕ → List Invocation → List TaskNow → Type 0
  AllFree tables n is ts = steps.AllFree times h m k o look tables n is ts

  -- the invocations that start here, numbered from n on
  abbrev pub starts_from : ℕ → List Invocation → List Numbered
  starts_from n is = filter (λ (a : Numbered). a.invocation.s.0 == o)
      (numbered n (λ n i. record { number = n; invocation = i }) is)

  -- the code of one start makes the job ready where its guard holds
  start_one : (s : HostNow) (ts : List TaskNow) (pc n : ℕ) (i : Invocation) (table : TaskTable) (t : Bool) →
      holds i.guard look ≡ t → HasStart n i table × IsFree i.task.0 ts →
      Reads (parts (with_tasks s ts)) sensed h.number.0 look →
      HasAt (code_at b (Part.Host h s)) pc (start_code m k pc (record { number = n; invocation = i })) →
      Runs (length (start_code m k pc (record { number = n; invocation = i }))) (spot pc) (parts (with_tasks s ts))
      (spot (pc + length (start_code m k pc (record { number = n; invocation = i }))))
      (parts (with_tasks s (if t then changed_at i.task.0 (started table n i) ts else ts))) []
  start_one s ts pc n i table true t has reads at =
      let r : ℕ = number_in (release_names m) k n in
      let ts' : List TaskNow = changed_at i.task.0 (started table n i) ts in
      let in' = guard_true x node sensed times h b front back m k i.act look i.guard (with_tasks s ts) pc
      (ec.Release r ∷ []) reads has.0.guard at t in
      let l : cost i.guard + 1 ≡ length (start_code m k pc (record { number = n; invocation = i })) =
      sym (guard_length x node sensed times h b front back m k i.act look i.guard pc (ec.Release r ∷ [])) in
      let q : suc (pc + cost i.guard) ≡ pc + length (start_code m k pc (record { number = n; invocation = i })) =
      omega (arith, l) in
      subst₂ (λ a c. Runs a (spot pc) (parts (with_tasks s ts)) (spot c) (parts (with_tasks s ts')) []) l q
      (leads_on x node sensed times (cost i.guard) 1 _ _ _ _ _ _ _ _ in'.0
      (one_on x node sensed times front (Part.Host h (with_tasks s ts)) back b (pc + cost i.guard) (ec.Release r)
      (Part.Host h (with_tasks s ts')) [] (suc (pc + cost i.guard)) in'.1.0
      (one_release s ts (pc + cost i.guard) n i table has.0 has.1 reads)))
  start_one s ts pc n i table false t has reads at =
      let r : ℕ = number_in (release_names m) k n in
      let l : cost i.guard ≤ length (start_code m k pc (record { number = n; invocation = i })) =
      omega (
        arith,
        guard_length x node sensed times h b front back m k i.act look i.guard pc
            (ec.Release r ∷ []),
      ) in
      wider x node sensed times (cost i.guard) _ _ _ _ _ _ l
      (guard_false x node sensed times h b front back m k i.act look i.guard (with_tasks s ts) pc (ec.Release r ∷ [])
      reads has.0.guard at t)

  -- the releases of invocations, where the tests on the first are t
  abbrev pub Goal : HostNow → (ℕ → TaskTable) → ℕ → List Invocation → List TaskNow → ℕ → Type 0
  Goal s tables n is ts pc =
      Runs (length (laid (start_code m k) pc (starts_from n is))) (spot pc) (parts (with_tasks s ts))
      (spot (pc + length (laid (start_code m k) pc (starts_from n is))))
      (parts (with_tasks s (all_started tables n is ts))) []

  -- the code of one invocation's start, if it starts here, and of the starts after it
  starts_step : (s : HostNow) (tables : ℕ → TaskTable) (n : ℕ) (i : Invocation) (is : List Invocation)
      (ts : List TaskNow) (pc : ℕ) (t : Bool) → (t ≡ true → HasStart n i (tables i.task.0) × IsFree i.task.0 ts) →
      Reads (parts (with_tasks s ts)) sensed h.number.0 look →
      let mine : List Numbered = if t then record { number = n; invocation = i }
      ∷ starts_from (suc n) is else starts_from (suc n) is in
      let ts' : List TaskNow = if t && holds i.guard look then changed_at i.task.0 (started (tables i.task.0) n i)
      ts else ts in
      HasAt (code_at b (Part.Host h s)) pc (laid (start_code m k) pc mine) →
      ((pc' : ℕ) → HasAt (code_at b (Part.Host h s)) pc' (laid (start_code m k) pc' (starts_from (suc n) is)) →
      Goal s tables (suc n) is ts' pc') →
      Runs (length (laid (start_code m k) pc mine)) (spot pc) (parts (with_tasks s ts))
      (spot (pc + length (laid (start_code m k) pc mine)))
      (parts (with_tasks s (all_started tables (suc n) is ts'))) []
  starts_step s tables n i is ts pc false has reads at rest = rest pc at
  starts_step s tables n i is ts pc true has reads at rest =
      let first : List EInstr = start_code m k pc (record { number = n; invocation = i }) in
      let pc' : ℕ = pc + length first in
      let more : List EInstr = laid (start_code m k) pc' (starts_from (suc n) is) in
      let cut = has-append (code_at b (Part.Host h s)) pc first more at in
      let l : length first + length more ≡ length (first ++ more) = sym (length-append first more) in
      let q : pc' + length more ≡ pc + length (first ++ more) = omega (arith, l) in
      subst₂ (λ a c. Runs a (spot pc) (parts (with_tasks s ts)) (spot c)
      (parts (with_tasks s (all_started tables (suc n) is
      (if holds i.guard look then changed_at i.task.0 (started (tables i.task.0) n i) ts else ts)))) []) l q
      (leads_on x node sensed times (length first) (length more) _ _ _ _ _ _ _ _
      (start_one s ts pc n i (tables i.task.0) (holds i.guard look) refl (has refl) reads cut.0) (rest pc' cut.1))

  -- a start leaves the outputs
  pub outputs-changed : (t : ℕ) (f : TaskNow → TaskNow) → ((u : TaskNow) → (f u).outputs ≡ u.outputs) →
      (ts : List TaskNow) → outputs_of (changed_at t f ts) ≡ outputs_of ts
  outputs-changed t f keeps [] = refl
  outputs-changed zero f keeps (u ∷ us) = ap (λ o. o ∷ outputs_of us) (keeps u)
  outputs-changed (suc t) f keeps (u ∷ us) = ap (λ os. u.outputs ∷ os) (outputs-changed t f keeps us)

  -- a start leaves the outputs, if it takes place
  outputs-started : (t : Bool) (table : TaskTable) (n : ℕ) (i : Invocation) (ts : List TaskNow) →
      outputs_of (if t then changed_at i.task.0 (started table n i) ts else ts) ≡ outputs_of ts
  outputs-started true table n i ts = outputs-changed i.task.0 (started table n i) (λ u. refl) ts
  outputs-started false table n i ts = refl

  -- the code of all starts makes their jobs ready
  pub starts_run : (s : HostNow) (tables : ℕ → TaskTable) (n : ℕ) (is : List Invocation) (ts : List TaskNow) (pc : ℕ)
      (outs : List (List ℤ)) → AllFree tables n is ts →
      outputs_of ts ≡ outs → ((us : List TaskNow) → outputs_of us ≡ outs →
      Reads (parts (with_tasks s us)) sensed h.number.0 look) →
      HasAt (code_at b (Part.Host h s)) pc (laid (start_code m k) pc (starts_from n is)) → Goal s tables n is ts pc
  starts_run s tables n [] ts pc outs free same reads at =
      let q : pc ≡ pc + 0 = omega arith in
      subst (λ c. Runs 0 (spot pc) (parts (with_tasks s ts)) (spot c) (parts (with_tasks s ts)) []) q
      (nothing x node sensed times 0 (spot pc) (parts (with_tasks s ts)))
  starts_run s tables n (i ∷ is) ts pc outs free same reads at =
      let ts' : List TaskNow = if i.s.0 == o && holds i.guard look then changed_at i.task.0
      (started (tables i.task.0) n i) ts else ts in
      starts_step s tables n i is ts pc (i.s.0 == o) free.0 (reads ts same) at
      (λ pc' at'. starts_run s tables (suc n) is ts' pc' outs free.1
      (outputs-started (i.s.0 == o && holds i.guard look) (tables i.task.0) n i ts ∙ same) reads at')

  -- all starts leave the outputs
  pub outputs-all : (tables : ℕ → TaskTable) (n : ℕ) (is : List Invocation) (ts : List TaskNow) →
      outputs_of (all_started tables n is ts) ≡ outputs_of ts
  outputs-all tables n [] ts = refl
  outputs-all tables n (i ∷ is) ts =
      outputs-all tables (suc n) is (if i.s.0 == o && holds i.guard look then changed_at i.task.0
      (started (tables i.task.0) n i) ts else ts)
      ∙ outputs-started (i.s.0 == o && holds i.guard look) (tables i.task.0) n i ts
