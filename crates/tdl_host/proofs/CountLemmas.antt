-- How many jobs of each task were released.
use Rattle.std.proofs.Common.{◌≡◌, ◌≤◌, ℕ, zero, suc, ℤ, pos, List, [], ◌∷◌, ◌++◌, length, replicate, map, Option, Some, None, slice_get, refl, subst, sym, arith}
use Rattle.std.specs.List.{All}
use Rattle.std.proofs.lemmas.List.Elements.{All-nil, All-cons, All-head, All-tail, All-weaker}
use Rattle.tdl_base.specs.Lists.{changed_at}
use Rattle.tdl_trace.specs.Shown.{Shown}
use Rattle.tdl_scen.specs.declared.entries.Sense.{Sense}
use Rattle.tdl_scen.specs.declared.entries.TaskTimes.{TaskTimes}
use Rattle.tdl_stack.specs.declared.instr.Code.{Code}
use Rattle.tdl_ecode.specs.declared.instr.EInstr.{EInstr}
use Rattle.tdl_ecode.specs.declared.instr.EInstr.TheVariants.{Call, Release, End, Take, Mode, If, Jump, Future, Return}
use Rattle.tdl_image.specs.declared.hosted.Hosted.{Hosted}
use Rattle.tdl_image.specs.declared.hosted.TaskTable.{TaskTable}
use Rattle.tdl_image.specs.declared.hosted.CallEntry.{CallEntry}
use Rattle.tdl_image.specs.declared.hosted.ReleaseEntry.{ReleaseEntry}
use Rattle.tdl_image.specs.declared.hosted.ImageWindow.{ImageWindow}
use Rattle.tdl_image.specs.declared.hosted.Driver.{Driver}
use Rattle.tdl_verify.specs.States.{Slot, TaskNow, HostNow, Part, Times, task_first}
use Rattle.tdl_verify.specs.Turns.{Acted, call_acts, release_acts, end_acts, host_acts, arguments}
use Rattle.tdl_verify.specs.Micros.{tasks_run}
use Rattle.tdl_host.specs.declared.act.Next.{Next}
use Rattle.tdl_host.specs.declared.act.Next.TheVariants as nexts
use Rattle.tdl_host.specs.Hosts.{HasReleased, acts, with_rows_before, went, value_at, listed_times, slot_of}

-- at most so many jobs of a task were released
abbrev IsUpTo : ℕ → TaskNow → Type 0
IsUpTo bound u = u.released ≤ bound

pub counted-weaker : (b c : ℕ) (s : HostNow) → b ≤ c → HasReleased b s → HasReleased c s
counted-weaker b c s le h = record { each = All-weaker (IsUpTo b) (IsUpTo c) (λ u le'. omega arith) s.tasks h.each }

pub counted-same : (b : ℕ) (s s' : HostNow) → s'.tasks ≡ s.tasks → HasReleased b s → HasReleased b s'
counted-same b s s' e h = record { each = subst (λ (ts : List TaskNow). All (IsUpTo b) ts) (sym e) h.each }

changed-all : {A : Type 0} (P Q : A → Type 0) (f : A → A) (k : ℕ) (xs : List A) → ((x : A) → P x → Q x) →
    ((x : A) → P x → Q (f x)) → All P xs → All Q (changed_at k f xs)
changed-all P Q f k [] w g h = All-nil Q
changed-all P Q f zero (x ∷ xs) w g h =
    All-cons Q (f x) xs (g x (All-head P x xs h)) (All-weaker P Q w xs (All-tail P x xs h))
changed-all P Q f (suc k) (x ∷ xs) w g h =
    All-cons Q x (changed_at k f xs) (w x (All-head P x xs h)) (changed-all P Q f k xs w g (All-tail P x xs h))

-- the state of a part, or of what an instruction did, is counted so
abbrev IsCountedPart : ℕ → Part → Type 0
IsCountedPart b (Part.Host h s) = HasReleased b s
IsCountedPart b (Part.Outside p s) = Unit {0}

abbrev IsCounted : ℕ → Acted → Type 0
IsCounted b (Acted.On p more pc) = IsCountedPart b p
IsCounted b (Acted.Over p more) = IsCountedPart b p
IsCounted b (Acted.Stop reason) = Unit {0}

more : (b : ℕ) (s : HostNow) → HasReleased b s → HasReleased (suc b) s
more b s h = counted-weaker b (suc b) s (omega arith) h

called-counted : (b x node : ℕ) (value : Code → ℤ) (h : Hosted) (s : HostNow) (pc d : ℕ) → HasReleased b s →
    (o : Option Driver) → slice_get h.drivers d ≡ o → IsCounted (suc b) (call_acts x node value h s pc d)
called-counted b x node value h s pc d r None e = rw e (more b s r)
called-counted b x node value h s pc d r (Some own) e = rw e (record { each = (more b s r).each })

ended-counted : (b x node : ℕ) (h : Hosted) (s : HostNow) (pc t : ℕ) → HasReleased b s → (slot : Slot) →
    slot_of s t ≡ slot → IsCounted (suc b) (end_acts x node h s pc t)
ended-counted b x node h s pc t r Slot.Idle e = rw e (more b s r)
ended-counted b x node h s pc t r (Slot.Ready mode invocation left cells) e = rw e tt
ended-counted b x node h s pc t r (Slot.Done mode invocation outputs) e =
    rw e (record {
      each = changed-all (IsUpTo b) (IsUpTo (suc b))
          (λ (u : TaskNow). record u { outputs = outputs; slot = Slot.Idle }) t s.tasks (λ u le. omega arith)
          (λ u le. omega arith) r.each;
    })

started-counted : (b : ℕ) (value : Code → ℤ) (times : Times) (h : Hosted) (s : HostNow) (pc i : ℕ) → HasReleased b s →
    (r : ReleaseEntry) (c : CallEntry) (table : TaskTable) (u : TaskNow) → slice_get h.releases i ≡ Some r →
    slice_get h.calls r.call ≡ Some c → slice_get h.tasks c.task ≡ Some table → slice_get s.tasks c.task ≡ Some u →
    (slot : Slot) → u.slot ≡ slot → IsCounted (suc b) (release_acts value times h s pc i)
started-counted b value times h s pc i n r c table u er ec et eu Slot.Idle e =
    rw (er, ec, et, eu, e)
    (record {
      each = changed-all (IsUpTo b) (IsUpTo (suc b))
          (λ (v : TaskNow). record v {
            slot = Slot.Ready r.mode r.invocation (times h.number.0 c.task (suc v.released))
                (arguments value table.inputs c.args ++ v.outputs ++ replicate (length table.locals) (pos 0));
            released =
                suc v.released;
          }) c.task s.tasks (λ v le. omega arith) (λ v le. omega arith) n.each;
    })
started-counted b value times h s pc i n r c table u er ec et eu (Slot.Ready mode invocation left cells) e =
    rw (er, ec, et, eu, e) tt
started-counted b value times h s pc i n r c table u er ec et eu (Slot.Done mode invocation outputs) e =
    rw (er, ec, et, eu, e) tt

tabled-counted : (b : ℕ) (value : Code → ℤ) (times : Times) (h : Hosted) (s : HostNow) (pc i : ℕ) → HasReleased b s →
    (r : ReleaseEntry) (c : CallEntry) → slice_get h.releases i ≡ Some r → slice_get h.calls r.call ≡ Some c →
    (table : Option TaskTable) → slice_get h.tasks c.task ≡ table → (u : Option TaskNow) →
    slice_get s.tasks c.task ≡ u → IsCounted (suc b) (release_acts value times h s pc i)
tabled-counted b value times h s pc i n r c er ec None et u eu = rw (er, ec, et) (more b s n)
tabled-counted b value times h s pc i n r c er ec (Some table) et None eu = rw (er, ec, et, eu) (more b s n)
tabled-counted b value times h s pc i n r c er ec (Some table) et (Some u) eu =
    started-counted b value times h s pc i n r c table u er ec et eu u.slot refl

calling-counted : (b : ℕ) (value : Code → ℤ) (times : Times) (h : Hosted) (s : HostNow) (pc i : ℕ) → HasReleased b s →
    (r : ReleaseEntry) → slice_get h.releases i ≡ Some r → (c : Option CallEntry) → slice_get h.calls r.call ≡ c →
    IsCounted (suc b) (release_acts value times h s pc i)
calling-counted b value times h s pc i n r er None ec = rw (er, ec) (more b s n)
calling-counted b value times h s pc i n r er (Some c) ec =
    tabled-counted b value times h s pc i n r c er ec (slice_get h.tasks c.task) refl (slice_get s.tasks c.task) refl

released-counted : (b : ℕ) (value : Code → ℤ) (times : Times) (h : Hosted) (s : HostNow) (pc i : ℕ) → HasReleased b s →
    (r : Option ReleaseEntry) → slice_get h.releases i ≡ r → IsCounted (suc b) (release_acts value times h s pc i)
released-counted b value times h s pc i n None er = rw er (more b s n)
released-counted b value times h s pc i n (Some r) er =
    calling-counted b value times h s pc i n r er (slice_get h.calls r.call) refl

host_acts-counted : (b x node : ℕ) (value : Code → ℤ) (times : Times) (h : Hosted) (s : HostNow) (pc : ℕ) →
    HasReleased b s → (i : EInstr) → IsCounted (suc b) (host_acts x node value times h s pc i)
host_acts-counted b x node value times h s pc n Return = more b s n
host_acts-counted b x node value times h s pc n (Call d) =
    called-counted b x node value h s pc d n (slice_get h.drivers d) refl
host_acts-counted b x node value times h s pc n (Release i) =
    released-counted b value times h s pc i n (slice_get h.releases i) refl
host_acts-counted b x node value times h s pc n (End t) = ended-counted b x node h s pc t n (slot_of s t) refl
host_acts-counted b x node value times h s pc n (Take r) = more b s n
host_acts-counted b x node value times h s pc n (Mode m) = record { each = (more b s n).each }
host_acts-counted b x node value times h s pc n (If g a) = more b s n
host_acts-counted b x node value times h s pc n (Jump a) = more b s n
host_acts-counted b x node value times h s pc n (Future dt block) = record { each = (more b s n).each }

went-counted : (b : ℕ) (h : Hosted) (s' : HostNow) (rows rows' : List Shown) (nx : Next) (a : Acted) → IsCounted b a →
    with_rows_before rows a ≡ went nx h s' rows' → HasReleased b s'
went-counted b h s' rows rows' (nexts.On pc') (Acted.On p new pc) n e = let ep : p ≡ Part.Host h s' =
    cc in subst (λ q. IsCountedPart b q) ep n
went-counted b h s' rows rows' nexts.Over (Acted.Over p new) n e = let ep : p ≡ Part.Host h s' =
    cc in subst (λ q. IsCountedPart b q) ep n
went-counted b h s' rows rows' (nexts.On pc') (Acted.Over p new) n e = absurd cc
went-counted b h s' rows rows' (nexts.On pc') (Acted.Stop reason) n e = absurd cc
went-counted b h s' rows rows' nexts.Over (Acted.On p new pc) n e = absurd cc
went-counted b h s' rows rows' nexts.Over (Acted.Stop reason) n e = absurd cc

-- an instruction releases one job at most
pub acts-counted : (b : ℕ) (h : Hosted) (times : List TaskTimes) (senses : List Sense) (x : ℕ) (rows rows' : List Shown)
    (s s' : HostNow) (pc : ℕ) (i : EInstr) (nx : Next) → acts h times senses x rows s pc i ≡ went nx h s' rows' →
    HasReleased b s → HasReleased (suc b) s'
acts-counted b h times senses x rows rows' s s' pc i nx e n =
    went-counted (suc b) h s' rows rows' nx (host_acts x 0 (value_at h s senses x) (listed_times h times) h s pc i)
    (host_acts-counted b x 0 (value_at h s senses x) (listed_times h times) h s pc n i) e

run-all : (b : ℕ) (windows : List ImageWindow) (ts : List TaskTable) (us : List TaskNow) → All (IsUpTo b) us →
    All (IsUpTo b) (tasks_run windows ts us)
run-all b windows [] us h = h
run-all b windows (t ∷ ts) [] h = h
run-all b windows (t ∷ ts) (u ∷ us) h =
    All-cons (IsUpTo b) _ (tasks_run windows ts us) (All-head (IsUpTo b) u us h)
    (run-all b windows ts us (All-tail (IsUpTo b) u us h))

-- a microsecond releases no job
pub run-counted : (b : ℕ) (windows : List ImageWindow) (ts : List TaskTable) (s s' : HostNow) →
    s' ≡ record s { tasks = tasks_run windows ts s.tasks } → HasReleased b s → HasReleased b s'
run-counted b windows ts s s' e n =
    subst (λ z. HasReleased b z) (sym e) (record { each = run-all b windows ts s.tasks n.each })

first-all : (tables : List TaskTable) → All (IsUpTo 0) (map task_first tables)
first-all [] = All-nil (IsUpTo 0)
first-all (t ∷ ts) = All-cons (IsUpTo 0) (task_first t) (map task_first ts) (omega arith) (first-all ts)

-- no job was released at first
pub first-counted : (tables : List TaskTable) (s : HostNow) → s.tasks ≡ map task_first tables → HasReleased 0 s
first-counted tables s e = record { each = subst (λ (ts : List TaskNow). All (IsUpTo 0) ts) (sym e) (first-all tables) }
