-- Each invocation of a public task of a stub has a receive entry.
use Rattle.std.proofs.Common.{◌≡◌, ℕ, zero, suc, ◌+◌, List, [], ◌∷◌, true, false, ◌==◌, Option, Some, ap, sym, ◌∙◌, subst, arith}
use Rattle.std.specs.Prelude.{slice_get, unwrap_or, if◌then◌else◌}
use Rattle.std.proofs.lemmas.Bool.{eqb-true}
use Rattle.tdl_mode.specs.declared.program.Module.{Module}
use Rattle.tdl_mode.specs.declared.program.Mode.{Mode}
use Rattle.tdl_mode.specs.declared.program.Task.{Task}
use Rattle.tdl_mode.specs.declared.program.Invocation.{Invocation}
use Rattle.tdl_mode.specs.States.{invocation_of}
use Rattle.tdl_deploy.specs.Placed.{is_remote}
use Rattle.tdl_image.specs.declared.stub.StubTask.{StubTask}
use Rattle.tdl_image.specs.declared.stub.Receive.{Receive}
use Rattle.tdl_gen.specs.Tables.{initials, stub_tasks, stub_of, receives}
use Rattle.tdl_base.proofs.Finding.{any-passing}
use Rattle.tdl_base.proofs.ListPlaces.{In, in-front, in-back}
use Rattle.tdl_verify.proofs.Replaced.{is_numbered}
use Rattle.tdl_meaning.proofs.StubRows.{Grouped}
use Rattle.tdl_gen.proofs.EntryTables.{in-joined, if_in}
use Rattle.tdl_meaning.proofs.EntriesByTask.{grouped}
use Rattle.tdl_meaning.specs.Accepted.{Accepted}
use Rattle.tdl_meaning.specs.BusTables.{AllReceived}

-- an entry for invocation q of mode k, of task t, is among these
record EntryAmong (es : List Receive) (k q t : ℕ) : Type 0 where
  entry : Receive
  within : In entry es
  mode' : entry.mode ≡ k
  invocation : entry.invocation ≡ q
  task : entry.task ≡ t

-- where the entries are grouped by tasks, each invocation of a public task has one among them
entry-among : (m : Module) (n : ℕ) (ts : List Task) (es : List Receive) → Grouped m n ts es → (t : ℕ) (task : Task) →
    slice_get ts t ≡ Some task → task.public ≡ true → (k q : ℕ) (mode : Mode) (i : Invocation) →
    slice_get m.modes k ≡ Some mode → invocation_of mode.invocations q ≡ Some i → i.task.0 ≡ n + t →
    EntryAmong es k q (n + t)
entry-among m n [] es g t task at public k q mode i km qi it = absurd (cc at)
entry-among m n (c ∷ ts) es g zero task at public k q mode i km qi it =
    let z : n + 0 ≡ n = omega arith in
    let same : c.public ≡ true = ap (λ (o : Option Task). (unwrap_or o c).public) at ∙ public in
    let s = g.segment.all same k q mode i km qi (it ∙ z) in
    record {
      entry = s.1;
      within = subst (In s.1) (sym g.is) (in-front s.1 g.front g.back (record { place = s.0; at = s.2 }));
      mode' = s.3;
      invocation = s.4;
      task = g.segment.tasks s.0 s.1 s.2 ∙ sym z;
    }
entry-among m n (c ∷ ts) es g (suc t) task at public k q mode i km qi it =
    let z : n + suc t ≡ suc n + t = omega arith in
    let r = entry-among m (suc n) ts g.back g.more t task at public k q mode i km qi (it ∙ z) in
    record {
      entry = r.entry;
      within = subst (In r.entry) (sym g.is) (in-back r.entry g.front g.back r.within);
      mode' = r.mode';
      invocation = r.invocation;
      task = r.task ∙ sym z;
    }

-- task t of the module is public
record PublicTask (m : Module) (t : ℕ) : Type 0 where
  task : Task
  at : slice_get m.tasks t ≡ Some task
  public' : task.public ≡ true

-- task t as a stub has it
abbrev stub_task : ℕ → Task → StubTask
stub_task t task = record { number = t; name = task.name; outputs = initials task.outputs }

-- each task of a stub is public
public-task : (m : Module) (t : ℕ) → is_numbered t (stub_tasks m) ≡ true → PublicTask m t
public-task m t has =
    let v = any-passing (λ (k : StubTask). k.number == t) (stub_tasks m) has in
    let a = in-joined (λ t task. if task.public then stub_task t task ∷ [] else []) 0 m.tasks v.item
    (record { place = v.place; at = v.at }) in
    let b = if_in a.item.public (stub_task (0 + a.place) a.item) v.item a.within in
    let n : v.item.number ≡ 0 + a.place = ap (λ (k : StubTask). k.number) b.1 in
    let z : 0 + a.place ≡ a.place = omega arith in
    record {
      task = a.item;
      at = ap (slice_get m.tasks) (sym (eqb-true v.item.number t v.passes) ∙ n ∙ z) ∙ a.at;
      public' = b.0;
    }

-- so each invocation of a task of the stub has an entry, where the public tasks are the remote ones
pub all_received : (given : Accepted) (kk : ℕ) (m : Module) →
    ((task : Task) → task.public ≡ true → is_remote given.program given.placement kk task ≡ true) →
    ((task : Task) → task.public ≡ false → is_remote given.program given.placement kk task ≡ false) →
    AllReceived m (stub_of given.program given.placement given.schedule kk m)
all_received given kk m seen hidden k q mode i km qi has =
    let b = public-task m i.task.0 has in
    let z : i.task.0 ≡ 0 + i.task.0 = omega arith in
    let r = entry-among m 0 m.tasks (receives given.program given.placement given.schedule kk m)
    (grouped given kk m seen hidden) i.task.0 b.task b.at b.public' k q mode i km qi z in
    record {
      place = r.within.place;
      entry = r.entry;
      at = r.within.at;
      mode' = r.mode';
      invocation = r.invocation;
      task = r.task ∙ sym z;
    }
