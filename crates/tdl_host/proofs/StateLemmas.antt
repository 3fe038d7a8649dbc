-- A state of which one task has changed.
use Rattle.std.proofs.Common.{◌≡◌, ℕ, suc, ◌≤◌, ℤ, List, [], ◌∷◌, length, map, set, slice_get, Some, None, Result, Ok, Err, OnOk, false, refl, ap, sym, subst, ◌∙◌, arith}
use Rattle.std.proofs.lemmas.List.{length-map}
use Rattle.tdl_base.specs.Lists.{changed_at}
use Rattle.tdl_trace.specs.declared.why.Why.{Why}
use Rattle.tdl_image.specs.declared.hosted.TaskTable.{TaskTable}
use Rattle.tdl_image.specs.declared.hosted.ReleaseEntry.{ReleaseEntry}
use Rattle.tdl_node.specs.declared.machine.Stop.{Stop}
use Rattle.tdl_node.specs.declared.machine.Stop.TheVariants as stop
use Rattle.tdl_node.specs.Machines.{IsTrap, IsTrapOf}
use Rattle.tdl_verify.specs.States.{Slot, TaskNow, HostNow, task_first}
use Rattle.tdl_host.specs.Hosts.{TaskView, HostedNow, first_view, tables_of, states_of, slot_of, with_job, IsCommitted, IsCommittedAt, IsStartedAt, IsBusyAt, is_idle}
use Rattle.tdl_host.proofs.ListSteps.{none-past, mapped-there, mapped-changed}

-- the table of a task stands in its place
pub table-there : (us : List TaskView) (t : ℕ) (u : TaskView) → slice_get us t ≡ Some u →
    slice_get (tables_of us) t ≡ Some u.table
table-there us t u at = mapped-there (λ (v : TaskView). v.table) us t u at

-- so does its state
pub state-there : (us : List TaskView) (t : ℕ) (u : TaskView) → slice_get us t ≡ Some u →
    slice_get (states_of us) t ≡ Some u.now
state-there us t u at = mapped-there (λ (v : TaskView). v.now) us t u at

-- a task that is there has the module's table
pub own-table : (us : List TaskView) (ts : List TaskTable) (t : ℕ) (u : TaskView) (table : TaskTable) →
    tables_of us ≡ ts → slice_get us t ≡ Some u → slice_get ts t ≡ Some table → table ≡ u.table
own-table us ts t u table e at is =
    let same : Some table ≡ Some u.table =
    sym is ∙ ap (λ (z : List TaskTable). slice_get z t) (sym e) ∙ table-there us t u at in
    cc

-- a task that is not there has no table
pub no-table : (us : List TaskView) (ts : List TaskTable) (t : ℕ) → tables_of us ≡ ts → length us ≤ t →
    slice_get ts t ≡ None
no-table us ts t e le =
    ap (λ (z : List TaskTable). slice_get z t) (sym e)
    ∙ none-past (tables_of us) t
    (let n : length (tables_of us) ≡ length us = length-map us (λ (u : TaskView). u.table) in omega (arith, n))

-- the slot of a task that is there
pub slot-at : (s : HostNow) (us : List TaskView) (t : ℕ) (u : TaskView) → s.tasks ≡ states_of us →
    slice_get us t ≡ Some u → slot_of s t ≡ u.now.slot
slot-at s us t u e at = rw (e, state-there us t u at) refl

-- the state whose task is committed
pub committed-at : (v s : HostNow) (us : List TaskView) (t : ℕ) (u u' : TaskView) → v ≡ s → v.tasks ≡ states_of us →
    slice_get us t ≡ Some u → slice_get (set us t u') t ≡ Some u' → IsCommitted u.now u'.now →
    IsCommittedAt t s (record v { tasks = states_of (set us t u') })
committed-at v s us t u u' e tasks at at' done =
    subst (λ (z : HostNow). IsCommittedAt t z (record v { tasks = states_of (set us t u') })) e (record {
      mode = done.mode;
      invocation = done.invocation;
      outputs = done.outputs;
      was = slot-at v us t u tasks at ∙ done.was;
      now = ap (λ (ts : List TaskNow). record v { tasks = ts })
          (mapped-changed (λ (x : TaskView). x.now)
          (λ (x : TaskNow). record x { outputs = done.outputs; slot = Slot.Idle }) us t u u' at done.now
          ∙ ap (λ (ts : List TaskNow). changed_at t
          (λ (x : TaskNow). record x { outputs = done.outputs; slot = Slot.Idle }) ts) (sym tasks));
      shown = rw (state-there (set us t u') t u' at') (ap (λ (z : TaskNow). z.outputs) done.now);
    })

-- the state whose task has a job released
pub started-at : (v s : HostNow) (us : List TaskView) (t : ℕ) (r : ReleaseEntry) (time : TaskTable → ℕ → ℕ)
    (inputs : List ℤ) (table : TaskTable) (u u' : TaskView) → v ≡ s → v.tasks ≡ states_of us →
    slice_get us t ≡ Some u → table ≡ u.table → u.now.slot ≡ Slot.Idle →
    u'.now ≡ with_job u.table r (time u.table (suc u.now.released)) inputs u.now →
    IsStartedAt t r (time table) inputs table s (record v { tasks = states_of (set us t u') })
started-at v s us t r time inputs table u u' e tasks at own idle now =
    let after : HostNow = record v { tasks = states_of (set us t u') } in
    let job : TaskNow → TaskNow = with_job u.table r (time u.table (suc u.now.released)) inputs in
    subst (λ (z : HostNow). IsStartedAt t r (time table) inputs table z after) e
    (subst (λ (k : TaskTable). IsStartedAt t r (time k) inputs k v after) (sym own) (record {
      was = u.now;
      here = rw (tasks, state-there us t u at) refl;
      idle = idle;
      now = ap (λ (ts : List TaskNow). record v { tasks = ts })
          (mapped-changed (λ (x : TaskView). x.now) job us t u u' at now
          ∙ ap (λ (ts : List TaskNow). changed_at t job ts) (sym tasks));
    }))

-- a task that is there, with its job
pub busy-at : (s : HostedNow) (us : List TaskView) (t : ℕ) (u : TaskView) → s.host.tasks ≡ tables_of us →
    s.now.tasks ≡ states_of us → slice_get us t ≡ Some u → is_idle u.now.slot ≡ false → IsBusyAt t s
busy-at s us t u tables tasks at busy = record {
  table = u.table;
  of_table = rw (tables, table-there us t u at) refl;
  was = u.now;
  here = rw (tasks, state-there us t u at) refl;
  busy = busy;
}

-- tasks before their first jobs have their tables
pub first-tables : (ts : List TaskTable) → tables_of (map first_view ts) ≡ ts
first-tables [] = refl
first-tables (t ∷ ts) = ap (λ (rest : List TaskTable). t ∷ rest) (first-tables ts)

-- their states are those before the first job
pub first-states : (ts : List TaskTable) → states_of (map first_view ts) ≡ map task_first ts
first-states [] = refl
first-states (t ∷ ts) = ap (λ (rest : List TaskNow). task_first t ∷ rest) (first-states ts)

-- a state in which one thing has changed, seen from outside
pub changed-now : {A : Type 0} (v s : HostedNow) → v ≡ s → (put : HostNow → A → HostNow) (a : A) (g : HostedNow → A) →
    a ≡ g v → put v.now a ≡ put s.now (g s)
changed-now v s e put a g is =
    subst (λ (z : HostedNow). put v.now a ≡ put z.now (g z)) e (ap (λ x. put v.now x) is)

-- what follows from two facts of an Ok
pub both-ok : {T E P Q R : Type 0} (r : Result T E) → (P → Q → R) → OnOk r P → OnOk r Q → OnOk r R
both-ok (Ok x) f p q = f p q
both-ok (Err e) f p q = tt

-- what follows from what a trap says
pub trap-weaker : (reason : Why) (P Q : Type 0) → (P → Q) → (e : Stop) → IsTrapOf reason P e → IsTrapOf reason Q e
trap-weaker reason P Q f (stop.Trapped other) h = (h.0, f h.1)
trap-weaker reason P Q f stop.NoMemory h = tt

-- a trap of a known reason
pub trap-of : (reason : Why) (P : Type 0) (says : Why → Type 0) (e : Stop) → IsTrapOf reason P e → (P → says reason) →
    IsTrap says e
trap-of reason P says (stop.Trapped other) h f = subst says (sym h.0) (f h.1)
trap-of reason P says stop.NoMemory h f = tt

-- what follows from each trap follows from a trap
pub trap-by : (says claims : Why → Type 0) → ((reason : Why) → says reason → claims reason) → (e : Stop) →
    IsTrap says e → IsTrap claims e
trap-by says claims f (stop.Trapped reason) h = f reason h
trap-by says claims f stop.NoMemory h = tt
