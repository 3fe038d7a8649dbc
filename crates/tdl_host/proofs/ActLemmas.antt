-- What each instruction does, once what it looks up is known.
use Rattle.std.proofs.Common.{◌≡◌, ℕ, suc, List, ◌++◌, length, map, set, slice_get, Option, Some, None, Result, OnOk, true, false, ℤ, pos, replicate, ◌==◌, arith, refl, ap, ap₂, sym, ◌∙◌}
use Rattle.std.proofs.lemmas.List.{append-nil}
use Rattle.std.proofs.lemmas.Result.{on_ok_weaker}
use Rattle.std.proofs.lemmas.Bool.{false≢true}
use Rattle.std.proofs.lemmas.Bool.Decides.{nat_tests}
use Rattle.tdl_base.specs.Lists.{changed_at}
use Rattle.tdl_trace.specs.Shown.{Shown}
use Rattle.tdl_trace.specs.declared.why.Why.TheVariants as why
use Rattle.tdl_scen.specs.declared.entries.Sense.{Sense}
use Rattle.tdl_scen.specs.declared.entries.TaskTimes.{TaskTimes}
use Rattle.tdl_scen.specs.Scenario.{time_of}
use Rattle.tdl_ecode.specs.declared.instr.EInstr.TheVariants.{Release, End}
use Rattle.tdl_image.specs.declared.hosted.Hosted.{Hosted}
use Rattle.tdl_verify.specs.States.{Slot, TaskNow, HostNow, Part}
use Rattle.tdl_image.specs.declared.hosted.TaskTable.{TaskTable}
use Rattle.tdl_image.specs.declared.hosted.CallEntry.{CallEntry}
use Rattle.tdl_image.specs.declared.hosted.ReleaseEntry.{ReleaseEntry}
use Rattle.tdl_verify.specs.Turns.{Acted, output_rows, arguments}
use Rattle.tdl_node.specs.declared.machine.Stop.{Stop}
use Rattle.tdl_task.specs.Jobs.{narrowed_each}
use Rattle.tdl_host.specs.CheckedCodes.{IsCheckedCall}
use Rattle.tdl_host.specs.Hosts.{HostedNow, acts, value_at, worst_of, listed_times, task_outputs, slot_of, is_idle, with_job, IsCommittedAt, IsStartedAt, IsBusyAt, IsLate}
use Rattle.tdl_host.proofs.ListSteps.{changed_at-set}
use Rattle.tdl_host.proofs.JobLemmas.{narrowed-arguments}

pub ended-kept : (h : Hosted) (times : List TaskTimes) (senses : List Sense) (x : ℕ) (rows : List Shown)
    (s s' : HostNow) (pc t : ℕ) → slot_of s t ≡ Slot.Idle → s' ≡ s →
    acts h times senses x rows s pc (End t) ≡ Acted.On (Part.Host h s') rows (suc pc)
ended-kept h times senses x rows s s' pc t idle same = rw (idle, append-nil rows, same) refl

pub ended-late : (h : Hosted) (times : List TaskTimes) (senses : List Sense) (x : ℕ) (rows : List Shown) (s : HostNow)
    (pc t : ℕ) → IsLate (slot_of s t) → acts h times senses x rows s pc (End t) ≡ Acted.Stop why.Late
ended-late h times senses x rows s pc t late = rw late.was refl

pub ended-done : (h : Hosted) (times : List TaskTimes) (senses : List Sense) (x : ℕ) (rows rows' : List Shown)
    (s s' : HostNow) (pc t : ℕ) → IsCommittedAt t s s' →
    rows' ≡ rows ++ output_rows x 0 h.number.0 t (task_outputs s' t) →
    acts h times senses x rows s pc (End t) ≡ Acted.On (Part.Host h s') rows' (suc pc)
ended-done h times senses x rows rows' s s' pc t done er =
    let shown : rows' ≡ rows ++ output_rows x 0 h.number.0 t done.outputs =
    er ∙ ap (λ o. rows ++ output_rows x 0 h.number.0 t o) done.shown in
    rw (done.was, shown, done.now) refl

-- the worst case of the module's own task
worst-own : (h : Hosted) (t : ℕ) (table : TaskTable) → slice_get h.tasks t ≡ Some table →
    worst_of h h.number.0 t ≡ table.worst
worst-own h t table at = let own : (h.number.0 == h.number.0) ≡ true = grind (arith, nat_tests) in rw (own, at) refl

-- two changes that agree at the item in the place
changed_at-same : {A : Type 0} (k : ℕ) (f g : A → A) (u : A) (xs : List A) → slice_get xs k ≡ Some u → f u ≡ g u →
    changed_at k f xs ≡ changed_at k g xs
changed_at-same k f g u xs at e = changed_at-set k f u xs at ∙ ap (λ z. set xs k z) e ∙ sym (changed_at-set k g u xs at)

-- a call whose task has no table releases nothing
pub released-none : (h : Hosted) (times : List TaskTimes) (senses : List Sense) (x : ℕ) (rows : List Shown)
    (s s' : HostNow) (pc i : ℕ) (r : ReleaseEntry) (call : CallEntry) → slice_get h.releases i ≡ Some r →
    slice_get h.calls r.call ≡ Some call → slice_get h.tasks call.task ≡ None → s' ≡ s →
    acts h times senses x rows s pc (Release i) ≡ Acted.On (Part.Host h s') rows (suc pc)
released-none h times senses x rows s s' pc i r call er ec et same = rw (er, ec, et, append-nil rows, same) refl

-- a job that is released with the numbers of its call's arguments
pub released-on : (h : Hosted) (times : List TaskTimes) (senses : List Sense) (x : ℕ) (rows : List Shown)
    (s s' : HostNow) (pc i : ℕ) (r : ReleaseEntry) (call : CallEntry) (table : TaskTable) (inputs : List ℤ) →
    slice_get h.releases i ≡ Some r → slice_get h.calls r.call ≡ Some call → slice_get h.tasks call.task ≡ Some table →
    length call.args ≡ length table.inputs → inputs ≡ map (value_at h s senses x) call.args →
    IsStartedAt call.task r (time_of times table.worst h.number.0 call.task) inputs table s s' →
    acts h times senses x rows s pc (Release i) ≡ Acted.On (Part.Host h s') rows (suc pc)
released-on h times senses x rows s s' pc i r call table inputs er ec et count values started =
    let u : TaskNow = started.was in
    let time : ℕ = time_of times table.worst h.number.0 call.task (suc u.released) in
    let begun : TaskNow → TaskNow =
    λ v. record v {
      slot = Slot.Ready r.mode r.invocation (listed_times h times h.number.0 call.task (suc v.released))
          (arguments (value_at h s senses x) table.inputs call.args ++ v.outputs
          ++ replicate (length table.locals) (pos 0));
      released = suc v.released;
    } in
    let narrow : arguments (value_at h s senses x) table.inputs call.args ≡ narrowed_each table.inputs inputs =
    sym (ap (λ vs. narrowed_each table.inputs vs) values
    ∙ narrowed-arguments (value_at h s senses x) table.inputs call.args count) in
    let same : begun u ≡ with_job table r time inputs u =
    ap₂
    (λ w vs. record u {
      slot = Slot.Ready r.mode r.invocation w (vs ++ u.outputs ++ replicate (length table.locals) (pos 0));
      released = suc u.released;
    })
    (ap (λ worst. time_of times worst h.number.0 call.task (suc u.released)) (worst-own h call.task table et)) narrow in
    let tasks : changed_at call.task begun s.tasks ≡ changed_at call.task (with_job table r time inputs) s.tasks =
    changed_at-same call.task begun (with_job table r time inputs) u s.tasks started.here same in
    rw (er, ec, et, started.here, started.idle, append-nil rows)
    (ap (λ ts. Acted.On (Part.Host h (record s { tasks = ts })) rows (suc pc)) tasks
    ∙ ap (λ z. Acted.On (Part.Host h z) rows (suc pc)) (sym started.now))

-- a task with a job is busy
busy-slot : (h : Hosted) (times : List TaskTimes) (senses : List Sense) (x : ℕ) (rows : List Shown) (s : HostNow)
    (pc i : ℕ) (r : ReleaseEntry) (call : CallEntry) (table : TaskTable) (u : TaskNow) →
    slice_get h.releases i ≡ Some r → slice_get h.calls r.call ≡ Some call → slice_get h.tasks call.task ≡ Some table →
    slice_get s.tasks call.task ≡ Some u → (slot : Slot) → u.slot ≡ slot → is_idle slot ≡ false →
    acts h times senses x rows s pc (Release i) ≡ Acted.Stop why.Busy
busy-slot h times senses x rows s pc i r call table u er ec et eu Slot.Idle e busy = absurd (false≢true (sym busy))
busy-slot h times senses x rows s pc i r call table u er ec et eu (Slot.Ready mode invocation left cells) e busy =
    rw (er, ec, et, eu, e) refl
busy-slot h times senses x rows s pc i r call table u er ec et eu (Slot.Done mode invocation outputs) e busy =
    rw (er, ec, et, eu, e) refl

-- a release whose task has a job is a trap
pub released-busy : (v : HostedNow) (times : List TaskTimes) (senses : List Sense) (x : ℕ) (rows : List Shown)
    (pc i : ℕ) (r : ReleaseEntry) (call : CallEntry) → slice_get v.host.releases i ≡ Some r →
    slice_get v.host.calls r.call ≡ Some call → IsBusyAt call.task v →
    acts v.host times senses x rows v.now pc (Release i) ≡ Acted.Stop why.Busy
released-busy v times senses x rows pc i r call er ec at =
    busy-slot v.host times senses x rows v.now pc i r call at.table at.was er ec at.of_table at.here at.was.slot refl
    at.busy

-- what a release comes to, whether its task has a table or not
pub released-ok : (h : Hosted) (times : List TaskTimes) (senses : List Sense) (x : ℕ) (s s' : HostNow) (i : ℕ)
    (r : ReleaseEntry) (call : CallEntry) (inputs : List ℤ) (done : Result Unit Stop) →
    slice_get h.releases i ≡ Some r → slice_get h.calls r.call ≡ Some call → IsCheckedCall h.tasks call →
    inputs ≡ map (value_at h s senses x) call.args → OnOk done (slice_get h.tasks call.task ≡ None → s' ≡ s) →
    OnOk done
    ((table : TaskTable) → slice_get h.tasks call.task ≡ Some table →
    IsStartedAt call.task r (time_of times table.worst h.number.0 call.task) inputs table s s') →
    (o : Option TaskTable) → slice_get h.tasks call.task ≡ o →
    OnOk done ((rows : List Shown) (pc : ℕ) →
    acts h times senses x rows s pc (Release i) ≡ Acted.On (Part.Host h s') rows (suc pc))
released-ok h times senses x s s' i r call inputs done er ec checked values absent started None e =
    on_ok_weaker done (λ same rows pc. released-none h times senses x rows s s' pc i r call er ec e (same e)) absent
released-ok h times senses x s s' i r call inputs done er ec checked values absent started (Some table) e =
    on_ok_weaker done
    (λ starts rows pc. released-on h times senses x rows s s' pc i r call table inputs er ec e (checked.count table e)
    values (starts table e)) started
