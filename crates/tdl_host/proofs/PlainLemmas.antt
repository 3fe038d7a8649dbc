-- A turn's plain rows do not depend on log lines, and the rows of instructions are plain.
use Rattle.std.proofs.Common.{◌≡◌, ℕ, zero, suc, Bool, true, false, ℤ, List, [], ◌∷◌, ◌++◌, filter, Option, Some, None, slice_get, refl, ap, ap₂, sym, ◌∙◌}
use Rattle.std.proofs.lemmas.List.{append-nil}
use Rattle.std.proofs.lemmas.List.Elements.{filter-append}
use Rattle.tdl_base.specs.Lists.{numbered}
use Rattle.tdl_trace.specs.Shown.{Shown}
use Rattle.tdl_stack.specs.declared.instr.Code.{Code}
use Rattle.tdl_ecode.specs.declared.instr.EInstr.{EInstr}
use Rattle.tdl_ecode.specs.declared.instr.EInstr.TheVariants.{Call, Release, End, Take, Mode, If, Jump, Future, Return}
use Rattle.tdl_image.specs.declared.hosted.Hosted.{Hosted}
use Rattle.tdl_image.specs.declared.hosted.TaskTable.{TaskTable}
use Rattle.tdl_image.specs.declared.hosted.CallEntry.{CallEntry}
use Rattle.tdl_image.specs.declared.hosted.ReleaseEntry.{ReleaseEntry}
use Rattle.tdl_image.specs.declared.hosted.Driver.{Driver}
use Rattle.tdl_base.specs.Sensed.{Sensed}
use Rattle.tdl_verify.specs.States.{Slot, TaskNow, HostNow, Part, Times}
use Rattle.tdl_verify.specs.Turns.{Acted, Due, Spot, Turned, Next, call_acts, release_acts, end_acts, mode_acts, host_acts, step_row, is_mode, acted, fetched, spent, block_begun, picked, least_due, part_instr, turn}
use Rattle.tdl_verify.specs.Runs.{is_plain}
use Rattle.tdl_node.specs.Machines.{plain_turned}
use Rattle.tdl_host.specs.Hosts.{slot_of}

-- ---- log lines

-- logs with the same plain rows still have them after them
pub filter-same : (log log' more : List Shown) → filter is_plain log ≡ filter is_plain log' →
    filter is_plain (log ++ more) ≡ filter is_plain (log' ++ more)
filter-same log log' more e =
    filter-append is_plain log more ∙ ap (λ z. z ++ filter is_plain more) e ∙ sym (filter-append is_plain log' more)

-- plain rows after plain rows are plain
pub both-plain : (rows more : List Shown) → filter is_plain rows ≡ rows → filter is_plain more ≡ more →
    filter is_plain (rows ++ more) ≡ rows ++ more
both-plain rows more old new = filter-append is_plain rows more ∙ ap₂ (λ a b. a ++ b) old new

-- a line of the log is no plain row
pub filter-quiet : (log : List Shown) (row : Shown) → is_plain row ≡ false →
    filter is_plain (log ++ row ∷ []) ≡ filter is_plain log
filter-quiet log row no' = filter-append is_plain log (row ∷ []) ∙ rw no' (append-nil (filter is_plain log))

pub step_row-quiet : (x node m b pc : ℕ) (i : EInstr) → is_plain (step_row x node m b pc i) ≡ false
step_row-quiet x node m b pc Return = refl
step_row-quiet x node m b pc (Call d) = refl
step_row-quiet x node m b pc (Release i) = refl
step_row-quiet x node m b pc (End t) = refl
step_row-quiet x node m b pc (Take r) = refl
step_row-quiet x node m b pc (Mode k) = refl
step_row-quiet x node m b pc (If g a) = refl
step_row-quiet x node m b pc (Jump a) = refl
step_row-quiet x node m b pc (Future dt k) = refl

-- what goes on gives the same plain rows at two logs with the same plain rows
abbrev pub Agrees : Next → Type 0
Agrees next =
    (spot : Spot) (parts : List Part) (log log' : List Shown) → filter is_plain log ≡ filter is_plain log' →
    plain_turned (next spot parts log) ≡ plain_turned (next spot parts log')

acted-plain : (next : Next) → Agrees next → (k b : ℕ) (parts : List Part) (log log' : List Shown) →
    filter is_plain log ≡ filter is_plain log' → (a : Acted) →
    plain_turned (acted next k b parts log a) ≡ plain_turned (acted next k b parts log' a)
acted-plain next agree k b parts log log' e (Acted.On p more pc) =
    agree (Spot.In k b pc) _ (log ++ more) (log' ++ more) (filter-same log log' more e)
acted-plain next agree k b parts log log' e (Acted.Over p more) =
    agree Spot.Between _ (log ++ more) (log' ++ more) (filter-same log log' more e)
acted-plain next agree k b parts log log' e (Acted.Stop reason) = refl

fetched-plain : (next : Next) → Agrees next →
    (x node : ℕ) (sensed : Sensed) (times : Times) (k b pc : ℕ) (parts : List Part) (log log' : List Shown) →
    filter is_plain log ≡ filter is_plain log' → (p : Option Part) (i : Option EInstr) →
    plain_turned (fetched next x node sensed times k b pc parts log p i)
    ≡ plain_turned (fetched next x node sensed times k b pc parts log' p i)
fetched-plain next agree x node sensed times k b pc parts log log' e (Some p) (Some i) =
    acted-plain next agree k b parts _ _ (filter-same log log' _ e) _
fetched-plain next agree x node sensed times k b pc parts log log' e (Some p) None = refl
fetched-plain next agree x node sensed times k b pc parts log log' e None i = refl

-- a choice of the next instruction that agrees
abbrev AgreesAt : (ℕ → ℕ → ℕ → List Part → Turned) → (ℕ → ℕ → ℕ → List Part → Turned) → Type 0
AgreesAt go go' = (k b pc : ℕ) (parts : List Part) → plain_turned (go k b pc parts) ≡ plain_turned (go' k b pc parts)

begun-plain : (go go' : ℕ → ℕ → ℕ → List Part → Turned) → AgreesAt go go' →
    (parts : List Part) (log log' : List Shown) → filter is_plain log ≡ filter is_plain log' → (d : Option Due) →
    plain_turned (block_begun go parts log d) ≡ plain_turned (block_begun go' parts log' d)
begun-plain go go' agree parts log log' e None = ap (λ rows. Turned.Finished parts rows) e
begun-plain go go' agree parts log log' e (Some d) = agree _ _ _ _

picked-plain : (go go' : ℕ → ℕ → ℕ → List Part → Turned) → AgreesAt go go' →
    (x : ℕ) (parts : List Part) (log log' : List Shown) → filter is_plain log ≡ filter is_plain log' → (spot : Spot) →
    plain_turned (picked go x parts log spot) ≡ plain_turned (picked go' x parts log' spot)
picked-plain go go' agree x parts log log' e (Spot.In k b pc) = agree k b pc parts
picked-plain go go' agree x parts log log' e Spot.Between =
    begun-plain go go' agree parts log log' e (least_due x parts)

-- the end of a turn whose count is spent
abbrev pub last_go : ℕ → ℕ → ℕ → List Part → Turned
last_go k b pc ps = spent (part_instr ps k b pc)

-- one more instruction of a turn
abbrev pub next_go : Next → ℕ → ℕ → Sensed → Times → List Shown → ℕ → ℕ → ℕ → List Part → Turned
next_go next x node sensed times rows k b pc ps =
    fetched next x node sensed times k b pc ps rows (slice_get ps k) (part_instr ps k b pc)

-- the plain rows of a turn depend on the plain rows so far alone
pub turn-plain : (n x node : ℕ) (sensed : Sensed) (times : Times) → Agrees (turn n x node sensed times)
unfolding turn
turn-plain zero x node sensed times spot parts log log' e =
    picked-plain last_go last_go (λ k b pc ps. refl) x parts log log' e spot
turn-plain (suc n) x node sensed times spot parts log log' e =
    picked-plain (next_go (turn n x node sensed times) x node sensed times log)
    (next_go (turn n x node sensed times) x node sensed times log')
    (λ k b pc ps. fetched-plain (turn n x node sensed times) (turn-plain n x node sensed times) x node sensed times
    k b pc ps log log' e (slice_get ps k) (part_instr ps k b pc)) x parts log log' e spot

-- ---- instructions

-- the rows of an instruction are plain
abbrev pub IsPlain : Acted → Type 0
IsPlain (Acted.On p more pc) = filter is_plain more ≡ more
IsPlain (Acted.Over p more) = filter is_plain more ≡ more
IsPlain (Acted.Stop reason) = Unit {0}

outputs-plain : (x node m t k : ℕ) (outputs : List ℤ) →
    filter is_plain (numbered k (λ o v. Shown.Port x node m t o v) outputs)
    ≡ numbered k (λ o v. Shown.Port x node m t o v) outputs
outputs-plain x node m t k [] = refl
outputs-plain x node m t k (v ∷ vs) = ap (λ z. Shown.Port x node m t k v ∷ z) (outputs-plain x node m t (suc k) vs)

called-plain : (x node : ℕ) (value : Code → ℤ) (h : Hosted) (s : HostNow) (pc d : ℕ) (o : Option Driver) →
    slice_get h.drivers d ≡ o → IsPlain (call_acts x node value h s pc d)
called-plain x node value h s pc d None e = rw e refl
called-plain x node value h s pc d (Some r) e = rw e refl

ended-plain : (x node : ℕ) (h : Hosted) (s : HostNow) (pc t : ℕ) (slot : Slot) → slot_of s t ≡ slot →
    IsPlain (end_acts x node h s pc t)
ended-plain x node h s pc t Slot.Idle e = rw e refl
ended-plain x node h s pc t (Slot.Ready mode invocation left cells) e = rw e tt
ended-plain x node h s pc t (Slot.Done mode invocation outputs) e = rw e (outputs-plain x node h.number.0 t 0 outputs)

started-plain : (value : Code → ℤ) (times : Times) (h : Hosted) (s : HostNow) (pc i : ℕ) (r : ReleaseEntry)
    (c : CallEntry) (table : TaskTable) (u : TaskNow) → slice_get h.releases i ≡ Some r →
    slice_get h.calls r.call ≡ Some c → slice_get h.tasks c.task ≡ Some table → slice_get s.tasks c.task ≡ Some u →
    (slot : Slot) → u.slot ≡ slot → IsPlain (release_acts value times h s pc i)
started-plain value times h s pc i r c table u er ec et eu Slot.Idle e = rw (er, ec, et, eu, e) refl
started-plain value times h s pc i r c table u er ec et eu (Slot.Ready mode invocation left cells) e =
    rw (er, ec, et, eu, e) tt
started-plain value times h s pc i r c table u er ec et eu (Slot.Done mode invocation outputs) e =
    rw (er, ec, et, eu, e) tt

tabled-plain : (value : Code → ℤ) (times : Times) (h : Hosted) (s : HostNow) (pc i : ℕ) (r : ReleaseEntry)
    (c : CallEntry) → slice_get h.releases i ≡ Some r → slice_get h.calls r.call ≡ Some c →
    (table : Option TaskTable) → slice_get h.tasks c.task ≡ table → (u : Option TaskNow) →
    slice_get s.tasks c.task ≡ u → IsPlain (release_acts value times h s pc i)
tabled-plain value times h s pc i r c er ec None et u eu = rw (er, ec, et) refl
tabled-plain value times h s pc i r c er ec (Some table) et None eu = rw (er, ec, et, eu) refl
tabled-plain value times h s pc i r c er ec (Some table) et (Some u) eu =
    started-plain value times h s pc i r c table u er ec et eu u.slot refl

calling-plain : (value : Code → ℤ) (times : Times) (h : Hosted) (s : HostNow) (pc i : ℕ) (r : ReleaseEntry) →
    slice_get h.releases i ≡ Some r → (c : Option CallEntry) → slice_get h.calls r.call ≡ c →
    IsPlain (release_acts value times h s pc i)
calling-plain value times h s pc i r er None ec = rw (er, ec) refl
calling-plain value times h s pc i r er (Some c) ec =
    tabled-plain value times h s pc i r c er ec (slice_get h.tasks c.task) refl (slice_get s.tasks c.task) refl

released-plain : (value : Code → ℤ) (times : Times) (h : Hosted) (s : HostNow) (pc i : ℕ) (r : Option ReleaseEntry) →
    slice_get h.releases i ≡ r → IsPlain (release_acts value times h s pc i)
released-plain value times h s pc i None er = rw er refl
released-plain value times h s pc i (Some r) er =
    calling-plain value times h s pc i r er (slice_get h.calls r.call) refl

entered-plain : (x node : ℕ) (h : Hosted) (s : HostNow) (pc m : ℕ) (already : Bool) → is_mode m s.mode ≡ already →
    IsPlain (mode_acts x node h s pc m)
entered-plain x node h s pc m true e = rw e refl
entered-plain x node h s pc m false e = rw e refl

pub host_acts-plain : (x node : ℕ) (value : Code → ℤ) (times : Times) (h : Hosted) (s : HostNow) (pc : ℕ) (i : EInstr)
    → IsPlain (host_acts x node value times h s pc i)
host_acts-plain x node value times h s pc Return = refl
host_acts-plain x node value times h s pc (Call d) = called-plain x node value h s pc d (slice_get h.drivers d) refl
host_acts-plain x node value times h s pc (Release i) =
    released-plain value times h s pc i (slice_get h.releases i) refl
host_acts-plain x node value times h s pc (End t) = ended-plain x node h s pc t (slot_of s t) refl
host_acts-plain x node value times h s pc (Take r) = refl
host_acts-plain x node value times h s pc (Mode m) = entered-plain x node h s pc m (is_mode m s.mode) refl
host_acts-plain x node value times h s pc (If g a) = refl
host_acts-plain x node value times h s pc (Jump a) = refl
host_acts-plain x node value times h s pc (Future dt b) = refl
