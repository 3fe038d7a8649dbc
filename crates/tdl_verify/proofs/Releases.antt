-- A release and an end: the arguments go into the cells of a job, and stay there until its body is run.
use Rattle.std.proofs.Common.{◌≡◌, ℕ, zero, suc, ℤ, pos, List, [], ◌∷◌, ◌++◌, length, replicate, Bool, true, false, Some, filter, refl, ap, sym, subst}
use Rattle.std.specs.Prelude.{slice_get, if◌then◌else◌}
use Rattle.std.specs.List.{list_any}
use Rattle.std.proofs.lemmas.Option.{same_Some}
use Rattle.tdl_base.specs.Lists.{changed_at}
use Rattle.tdl_base.specs.Numbers.{narrowed}
use Rattle.tdl_base.specs.declared.kinds.Kind.{Kind}
use Rattle.tdl_trace.specs.declared.why.Why.TheVariants as why
use Rattle.tdl_stack.specs.declared.instr.Code.{Code}
use Rattle.tdl_image.specs.declared.hosted.Hosted.{Hosted}
use Rattle.tdl_image.specs.declared.hosted.TaskTable.{TaskTable}
use Rattle.tdl_image.specs.declared.hosted.CallEntry.{CallEntry}
use Rattle.tdl_image.specs.declared.hosted.ReleaseEntry.{ReleaseEntry}
use Rattle.tdl_image.specs.declared.hosted.ImageWindow.{ImageWindow}
use Rattle.tdl_verify.specs.States.{Slot, TaskNow, HostNow, Times}
use Rattle.tdl_verify.specs.Turns.{Acted, arguments, release_acts, end_acts}
use Rattle.tdl_verify.specs.Micros.{is_live, is_job_of, worked, slot_run}
use Rattle.tdl_verify.specs.Covered.{slot_along}
use Rattle.tdl_verify.specs.Laws.{KeepsJob, CanStart, StartsJob, Commits}

-- an argument stands at its place, narrowed to its input's kind
argument-at : (value : Code → ℤ) (kinds : List Kind) (codes : List Code) (j : ℕ) (code : Code) (kind : Kind) →
    slice_get codes j ≡ Some code → slice_get kinds j ≡ Some kind →
    slice_get (arguments value kinds codes) j ≡ Some (narrowed kind (value code))
argument-at value kinds [] j code kind at of = absurd (cc at)
argument-at value [] (c ∷ codes) j code kind at of = absurd (cc of)
argument-at value (k ∷ kinds) (c ∷ codes) zero code kind at of =
    λ q. Some (narrowed (same_Some k kind of q) (value (same_Some c code at q)))
argument-at value (k ∷ kinds) (c ∷ codes) (suc j) code kind at of = argument-at value kinds codes j code kind at of

-- an item of a list stands at its place in a longer list
in-longer : {A : Type 0} (xs ys : List A) (n : ℕ) (a : A) → slice_get xs n ≡ Some a → slice_get (xs ++ ys) n ≡ Some a
in-longer [] ys n a at = absurd (cc at)
in-longer (x ∷ xs) ys zero a at = at
in-longer (x ∷ xs) ys (suc n) a at = in-longer xs ys n a at

-- a change at a place changes the item there
changed-there : {A : Type 0} (f : A → A) (xs : List A) (n : ℕ) (a : A) → slice_get xs n ≡ Some a →
    slice_get (changed_at n f xs) n ≡ Some (f a)
changed-there f [] n a at = absurd (cc at)
changed-there f (b ∷ xs) zero a at = ap (λ c. Some (f c)) (same_Some b a at)
changed-there f (b ∷ xs) (suc n) a at = changed-there f xs n a at

-- where the slot is idle, the job starts with its arguments in its cells
pub starts_job : (value : Code → ℤ) (times : Times) (h : Hosted) (s : HostNow) (pc i : ℕ) (r : ReleaseEntry)
    (c : CallEntry) (table : TaskTable) (u : TaskNow) → CanStart h s i r c table u →
    StartsJob value times h s pc i r c table u
starts_job value times h s pc i r c table u free =
    let args : List ℤ = arguments value table.inputs c.args in
    let started : TaskNow → TaskNow = λ (w : TaskNow). record w {
      slot = Slot.Ready r.mode r.invocation (times h.number.0 c.task (suc w.released))
          (args ++ w.outputs ++ replicate (length table.locals) (pos 0));
      released = suc w.released;
    } in
    record {
      after = record s { tasks = changed_at c.task started s.tasks };
      acts = rw (free.release, free.call, free.table_at, free.task_at, free.idle) refl;
      cells = args ++ u.outputs ++ replicate (length table.locals) (pos 0);
      task = changed-there started s.tasks c.task u free.task_at;
      holds = λ j code kind at of.
          in-longer (args ++ u.outputs) _ j _ (in-longer args u.outputs j _
          (argument-at value table.inputs c.args j code kind at of));
    }

-- a release whose slot has a job traps
pub stays_busy : (value : Code → ℤ) (times : Times) (h : Hosted) (s : HostNow) (pc i : ℕ) (r : ReleaseEntry)
    (c : CallEntry) (table : TaskTable) (u : TaskNow) → slice_get h.releases i ≡ Some r →
    slice_get h.calls r.call ≡ Some c → slice_get h.tasks c.task ≡ Some table → slice_get s.tasks c.task ≡ Some u →
    (u.slot ≡ Slot.Idle → ⊥) → release_acts value times h s pc i ≡ Acted.Stop why.Busy
stays_busy value times h s pc i r c table u release call table_at task_at taken =
    by_slot u.slot refl
  where
    by_slot : (slot : Slot) → u.slot ≡ slot → release_acts value times h s pc i ≡ Acted.Stop why.Busy
    by_slot Slot.Idle e = absurd (taken e)
    by_slot (Slot.Ready m k left cells) e = rw (release, call, table_at, task_at, e) refl
    by_slot (Slot.Done m k outputs) e = rw (release, call, table_at, task_at, e) refl

-- an end whose job is not done traps
pub is_late : (x node : ℕ) (h : Hosted) (s : HostNow) (pc t : ℕ) (u : TaskNow) (mode invocation left : ℕ)
    (cells : List ℤ) → slice_get s.tasks t ≡ Some u → u.slot ≡ Slot.Ready mode invocation left cells →
    end_acts x node h s pc t ≡ Acted.Stop why.Late
is_late x node h s pc t u mode invocation left cells at ready = rw (at, ready) refl

-- an end whose job is done commits its outputs
pub done-commits : (x node : ℕ) (h : Hosted) (s : HostNow) (pc t : ℕ) (u : TaskNow) (mode invocation : ℕ)
    (outputs : List ℤ) → slice_get s.tasks t ≡ Some u → u.slot ≡ Slot.Done mode invocation outputs →
    Commits x node h s pc t u outputs
done-commits x node h s pc t u mode invocation outputs at done =
    let commit : TaskNow → TaskNow = λ (w : TaskNow). record w { outputs = outputs; slot = Slot.Idle } in
    record {
      after = record s { tasks = changed_at t commit s.tasks };
      acts = rw (at, done) refl;
      task = changed-there commit s.tasks t u at;
    }

-- a microsecond of a ready job keeps its cells, or runs its body on them
worked-keeps : (t : TaskTable) (mode invocation left : ℕ) (cells : List ℤ) (b : Bool) →
    KeepsJob t mode invocation cells
    (if b then worked t mode invocation left cells else Slot.Ready mode invocation left cells)
worked-keeps t mode invocation zero cells true = (refl, refl, refl)
worked-keeps t mode invocation (suc zero) cells true = (refl, refl, refl)
worked-keeps t mode invocation (suc (suc left)) cells true = (refl, refl, refl)
worked-keeps t mode invocation left cells false = (refl, refl, refl)

-- a microsecond keeps a job
run-keeps : (ws : List ImageWindow) (t : TaskTable) (mode invocation : ℕ) (cells : List ℤ) (slot : Slot) →
    KeepsJob t mode invocation cells slot → KeepsJob t mode invocation cells (slot_run ws t slot)
run-keeps ws t mode invocation cells Slot.Idle keeps = keeps
run-keeps ws t mode invocation cells (Slot.Done m i outputs) keeps = keeps
run-keeps ws t mode invocation cells (Slot.Ready m i left values) keeps =
    subst (λ sl. KeepsJob t mode invocation cells (slot_run ws t sl))
    (λ q. Slot.Ready (sym keeps.0 q) (sym keeps.1 q) left (sym keeps.2 q))
    (worked-keeps t mode invocation left cells (list_any (is_job_of mode invocation) ws))

-- microseconds keep a job
pub along-keeps : (k x : ℕ) (s : HostNow) (ws : List ImageWindow) (t : TaskTable) (mode invocation : ℕ)
    (cells : List ℤ) (slot : Slot) → KeepsJob t mode invocation cells slot →
    KeepsJob t mode invocation cells (slot_along k x s ws t slot)
along-keeps zero x s ws t mode invocation cells slot keeps = keeps
along-keeps (suc k) x s ws t mode invocation cells slot keeps =
    along-keeps k (suc x) s ws t mode invocation cells _
    (run-keeps (filter (is_live x s) ws) t mode invocation cells slot keeps)
