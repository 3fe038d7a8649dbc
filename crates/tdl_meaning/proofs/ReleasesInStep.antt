-- The releases of a hosted module in step with phase 4 of its logical instant.
use Rattle.std.proofs.Common.{◌≡◌, ℕ, zero, suc, ◌+◌, ◌<◌, ◌≤◌, ℤ, pos, List, [], ◌∷◌, ◌++◌, length, replicate, Bool, true, false, ◌&&◌, ◌==◌, Option, Some, None, refl, ap, ap₂, sym, ◌∙◌, subst, arith}
use Rattle.std.specs.Prelude.{slice_get, option_map, unwrap_or, if◌then◌else◌}
use Rattle.std.proofs.lemmas.Bool.{eqb-true}
use Rattle.std.proofs.lemmas.List.{length-map}
use Rattle.tdl_base.specs.Lists.{changed_at}
use Rattle.tdl_body.specs.Values.{Look, holds}
use Rattle.tdl_mode.specs.declared.program.Module.{Module}
use Rattle.tdl_mode.specs.declared.program.Mode.{Mode}
use Rattle.tdl_mode.specs.declared.program.Task.{Task}
use Rattle.tdl_mode.specs.declared.program.PortDef.{PortDef}
use Rattle.tdl_mode.specs.declared.program.Invocation.{Invocation}
use Rattle.tdl_mode.specs.States.{Job, TaskState, ModuleState, invocation_of, kinds_of}
use Rattle.tdl_mode.specs.Phases.{releases, released, narrowed_args}
use Rattle.tdl_image.specs.declared.hosted.Hosted.{Hosted}
use Rattle.tdl_image.specs.declared.hosted.TaskTable.{TaskTable}
use Rattle.tdl_base.specs.Sensed.{Sensed}
use Rattle.tdl_verify.specs.States.{Slot, TaskNow, Part, Times}
use Rattle.tdl_gen.specs.Tables.{task_table}
use Rattle.tdl_gen.proofs.StartBlocks.{HasStart, IsFree, AllFree, all_started, started}
use Rattle.tdl_meaning.proofs.HostFacts.{WellLets, Older, AtRelease, pair_at, pairs_kept, pairs_changed}
use Rattle.tdl_meaning.proofs.PhasesAtOffset.{AtOffset, at_now}
use Rattle.tdl_meaning.specs.HostInStep.{IsJob, SlotPair, Pairs}

module _ (x node : ℕ) (sensed : Sensed) (times : Times) (h : Hosted) (b : ℕ) (front back : List Part) (m : Module)
    (k o : ℕ) (look : Look) (mode : Mode) (is : slice_get m.modes k ≡ Some mode)
    (covers : ℕ → ℕ → ℕ) (worst : ℕ → ℕ) (well : WellLets mode covers worst) (tables : ℕ → TaskTable) where
  -- task t before the release of invocation n
  abbrev Pair : ℕ → ℕ → TaskState → TaskNow → Type 0
  Pair n t u w = AtRelease k mode covers worst o m.tasks n t u w

  -- the task of invocation n as the machine starts it
  abbrev begun : ℕ → Invocation → TaskNow → TaskNow
  begun n i = started x node sensed times h b front back m k o look (tables i.task.0) n i

  -- the slot of task t is idle on the machine
  abbrev Free : ℕ → List TaskNow → Type 0
  Free t ws = IsFree x node sensed times h b front back m k o look t ws

  -- what the releases need: the tables are those of the tasks, a job takes some time, at most the worst case, the
  -- windows of an invocation cover nothing before its start, and each invocation has its instructions
  pub record Ready : Type 0 where
    pub tables' : (t : ℕ) (task : Task) → slice_get m.tasks t ≡ Some task → tables t ≡ task_table task
    pub timely : (t c : ℕ) (task : Task) → slice_get m.tasks t ≡ Some task →
        (0 < times h.number.0 t c) × (times h.number.0 t c ≤ worst t)
    pub early : (n : ℕ) (i : Invocation) → invocation_of mode.invocations n ≡ Some i → covers n i.s.0 ≡ 0
    pub starts : (n : ℕ) (i : Invocation) → invocation_of mode.invocations n ≡ Some i →
        HasStart x node sensed times h b front back m k o look n i (tables i.task.0)

  -- a task whose job starts on both sides is ready for the next release
  new_pair : Ready → (n : ℕ) (i : Invocation) → invocation_of mode.invocations n ≡ Some i → i.s.0 ≡ o →
      (u : TaskState) (w : TaskNow) → Pair n i.task.0 u w →
      Pair (suc n) i.task.0 (released k n i look u) (begun n i w)
  new_pair ready n i at s u w p =
      let table : tables i.task.0 ≡ task_table u.definition = ready.tables' i.task.0 u.definition p.definition in
      let locals : length (tables i.task.0).locals ≡ length u.definition.locals =
      ap (λ (t : TaskTable). length t.locals) table ∙ length-map u.definition.locals (λ (d : PortDef). d.kind) in
      let inputs : narrowed_args (tables i.task.0).inputs i.args look
      ≡ narrowed_args (kinds_of u.definition.inputs) i.args look =
      ap (λ (t : TaskTable). narrowed_args t.inputs i.args look) table in
      let cells : narrowed_args (tables i.task.0).inputs i.args look
      ++ w.outputs ++ replicate (length (tables i.task.0).locals) (pos 0)
      ≡ narrowed_args (kinds_of u.definition.inputs) i.args look
      ++ u.outputs ++ replicate (length u.definition.locals) (pos 0) =
      λ q. inputs q ++ p.pair.outputs q ++ replicate (locals q) (pos 0) in
      let t = ready.timely i.task.0 (suc w.released) u.definition p.definition in
      let lasts = well.lasts n i at in
      let early : covers n o ≡ 0 = ap (covers n) (sym s) ∙ ready.early n i at in
      record {
        pair = record {
          outputs = p.pair.outputs;
          slot = (
            record {
              mode' = refl;
              invocation = i;
              at = at;
              task = refl;
              begun = omega (arith, s);
              open' = omega (arith, s, lasts);
            },
            refl,
            refl,
            cells,
            t.0,
            omega (arith, t.1, early),
          );
        };
        older = λ j at' le. absurd (omega (arith, le));
        definition = p.definition;
      }

  -- no job of the task of invocation n, which starts here, is active
  none_active : (n : ℕ) (i : Invocation) → invocation_of mode.invocations n ≡ Some i → i.s.0 ≡ o → (job : Job) →
      Older mode o i.task.0 n (Some job) → IsJob k mode i.task.0 (suc o) job → ⊥
  none_active n i at s job older j =
      let lasts = well.lasts n i at in
      let same : job.invocation ≡ n = well.apart job.invocation n j.invocation i j.at at j.task
      (omega (arith, j.begun, s, lasts)) (omega (arith, j.open', s)) in
      let item : Some j.invocation ≡ Some i = sym j.at ∙ ap (invocation_of mode.invocations) same ∙ at in
      let e : j.invocation.s.0 ≡ i.s.0 = ap (λ q. unwrap_or (option_map (λ (i : Invocation). i.s.0) q) 0) item in
      let less = older j.invocation j.at (omega (arith, same)) in
      omega (arith, less, e, s)

  -- the slot of a task that starts is idle
  free_slot : (n : ℕ) (i : Invocation) → invocation_of mode.invocations n ≡ Some i → i.s.0 ≡ o →
      (task : Task) (outs : List ℤ) (active : Option Job) (slot : Slot) → Older mode o i.task.0 n active →
      SlotPair k mode covers worst i.task.0 (suc o) o task outs active slot → slot ≡ Slot.Idle
  free_slot n i at s task outs None Slot.Idle older pair = refl
  free_slot n i at s task outs None (Slot.Ready md v left cells) older pair = absurd pair
  free_slot n i at s task outs None (Slot.Done md v values) older pair = absurd pair
  free_slot n i at s task outs (Some job) Slot.Idle older pair = absurd pair
  free_slot n i at s task outs (Some job) (Slot.Ready md v left cells) older pair =
      absurd (none_active n i at s job older pair.0)
  free_slot n i at s task outs (Some job) (Slot.Done md v values) older pair =
      absurd (none_active n i at s job older pair.0)

  -- what is older than release n is older than the next
  older-next : (n t : ℕ) (active : Option Job) → Older mode o t n active → Older mode o t (suc n) active
  older-next n t None older = tt
  older-next n t (Some job) older = λ i at le. older i at (omega (arith, le))

  -- a task ready for release n is ready for the next
  next_pair : (n t : ℕ) (u : TaskState) (w : TaskNow) → Pair n t u w → Pair (suc n) t u w
  next_pair n t u w p = record { pair = p.pair; older = older-next n t u.active p.older; definition = p.definition }

  -- what the releases of `todo` come to: the slots are free all along, and the tasks are ready for release `last`
  pub record Released (n : ℕ) (todo : List Invocation) (us : List TaskState) (ws : List TaskNow)
      (later : List TaskState) : Type 0 where
    pub free : AllFree x node sensed times h b front back m k o look tables n todo ws
    pub last : ℕ
    pub pairs : Pairs (Pair last) 0 later (all_started x node sensed times h b front back m k o look tables n todo ws)

  -- the slot of the task of invocation n is free where the invocation starts here
  free_at : (n : ℕ) (i : Invocation) → invocation_of mode.invocations n ≡ Some i → i.s.0 ≡ o →
      (us : List TaskState) (ws : List TaskNow) → i.task.0 < length us → Pairs (Pair n) 0 us ws → Free i.task.0 ws
  free_at n i at s us ws lt ps =
      let p = pair_at (Pair n) 0 i.task.0 us ws lt ps in
      let q : 0 + i.task.0 ≡ i.task.0 = omega arith in
      let pair : Pair n i.task.0 p.u p.w = subst (λ t. Pair n t p.u p.w) q p.pair in
      let idle = free_slot n i at s p.u.definition p.u.outputs p.u.active p.w.slot pair.older pair.pair.slot in
      record {
        outputs = p.w.outputs;
        count = p.w.released;
        at = p.now ∙ (λ r. Some (record { outputs = p.w.outputs; slot = idle r; released = p.w.released }));
      }

  -- one invocation: if it starts here its slot is free, and the tasks on both sides are ready for the next release
  one_release : Ready → (n : ℕ) (i : Invocation) → invocation_of mode.invocations n ≡ Some i →
      (us : List TaskState) (ws : List TaskNow) → i.task.0 < length us → Pairs (Pair n) 0 us ws →
      (starts holding : Bool) → (i.s.0 == o) ≡ starts →
      (starts ≡ true → Free i.task.0 ws)
      × Pairs (Pair (suc n)) 0 (if starts && holding then changed_at i.task.0 (released k n i look) us else us)
      (if starts && holding then changed_at i.task.0 (begun n i) ws else ws)
  one_release ready n i at us ws lt ps true true e = (
    λ t. free_at n i at (eqb-true i.s.0 o e) us ws lt ps,
    pairs_changed (Pair n) (Pair (suc n)) (released k n i look) (begun n i) 0 i.task.0 us ws (next_pair n)
        (λ u w p. let q : 0 + i.task.0 ≡ i.task.0 = omega arith in
        subst (λ t. Pair (suc n) t (released k n i look u) (begun n i w)) (sym q)
        (new_pair ready n i at (eqb-true i.s.0 o e) u w (subst (λ t. Pair n t u w) q p))) ps,
  )
  one_release ready n i at us ws lt ps true false e = (
    λ t. free_at n i at (eqb-true i.s.0 o e) us ws lt ps,
    pairs_kept (Pair n) (Pair (suc n)) 0 us ws (next_pair n) ps,
  )
  one_release ready n i at us ws lt ps false holding e = (
    λ t. absurd (cc t),
    pairs_kept (Pair n) (Pair (suc n)) 0 us ws (next_pair n) ps,
  )

  -- a change of one place leaves the length
  length-changed : {A : Type 0} (t : ℕ) (f : A → A) (more : List A) → length (changed_at t f more) ≡ length more
  length-changed t f [] = refl
  length-changed zero f (a ∷ more) = refl
  length-changed (suc t) f (a ∷ more) = ap suc (length-changed t f more)

  -- and so does a change that is made or not
  length-if : (c : Bool) (t : ℕ) (f : TaskState → TaskState) (us : List TaskState) →
      length (if c then changed_at t f us else us) ≡ length us
  length-if true t f us = length-changed t f us
  length-if false t f us = refl

  -- the releases of an instant, in the logical state and on the node
  pub releases_pairs : (r : ModuleState) → AtOffset m k o x mode is r → Ready →
      (n : ℕ) (todo : List Invocation) (us : List TaskState) (ws : List TaskNow) →
      ((q : ℕ) (i : Invocation) → slice_get todo q ≡ Some i →
      (invocation_of mode.invocations (n + q) ≡ Some i) × (i.task.0 < length us)) →
      Pairs (Pair n) 0 us ws → Released n todo us ws (releases r x look n todo us)
  releases_pairs r stands ready n [] us ws at ps = record { free = tt; last = n; pairs = ps }
  releases_pairs r stands ready n (i ∷ todo) us ws at ps =
      let z : n + 0 ≡ n = omega arith in
      let here : invocation_of mode.invocations n ≡ Some i =
      ap (invocation_of mode.invocations) (sym z) ∙ (at 0 i refl).0 in
      let step = one_release ready n i here us ws (at 0 i refl).1 ps (i.s.0 == o) (holds i.guard look) refl in
      let us' : List TaskState =
      if i.s.0 == o && holds i.guard look then changed_at i.task.0 (released k n i look) us else us in
      let ws' : List TaskNow =
      if i.s.0 == o && holds i.guard look then changed_at i.task.0 (begun n i) ws else ws in
      let rest : Released (suc n) todo us' ws' (releases r x look (suc n) todo us') =
      releases_pairs r stands ready (suc n) todo us' ws' (λ q j e.
      let s : suc n + q ≡ n + suc q = omega arith in
      let a = at (suc q) j e in (
        ap (invocation_of mode.invocations) s ∙ a.0,
        subst (λ l. j.task.0 < l)
            (sym (length-if (i.s.0 == o && holds i.guard look) i.task.0 (released k n i look) us)) a.1,
      )) step.1 in
      let same : us' ≡ (if r.base + i.s.0 == x && holds i.guard look
      then changed_at i.task.0 (released r.mode n i look) us else us) =
      ap₂ (λ t md. if t && holds i.guard look then changed_at i.task.0 (released md n i look) us else us)
      (sym (at_now m k o x mode is r stands i.s.0)) (sym stands.mode') in
      record {
        free = ((λ t. (ready.starts n i here, step.0 t)), rest.free);
        last = rest.last;
        pairs = subst (λ vs. Pairs (Pair rest.last) 0 (releases r x look (suc n) todo vs)
            (all_started x node sensed times h b front back m k o look tables (suc n) todo ws')) same rest.pairs;
      }
