-- Codes that stand in a block, and the ends of tasks in the block of phase 1.
use Rattle.std.proofs.Common.{◌≡◌, ℕ, suc, ◌+◌, ℤ, List, [], ◌∷◌, ◌++◌, map, length, Bool, true, false, Some, filter, refl, ap, sym, subst, subst₂, arith, append_assoc}
use Rattle.std.specs.Prelude.{slice_get, if◌then◌else◌}
use Rattle.std.proofs.lemmas.List.{length-append}
use Rattle.tdl_base.specs.Lists.{joined, numbered}
use Rattle.tdl_trace.specs.Shown.{Shown}
use Rattle.tdl_ecode.specs.declared.instr.EInstr.{EInstr}
use Rattle.tdl_ecode.specs.declared.instr.EInstr.TheVariants as e
use Rattle.tdl_image.specs.declared.hosted.Hosted.{Hosted}
use Rattle.tdl_base.specs.Sensed.{Sensed}
use Rattle.tdl_verify.specs.States.{Slot, TaskNow, HostNow, Part, Times}
use Rattle.tdl_verify.specs.Turns.{Acted, Spot, code_at, end_acts, output_rows}
use Rattle.tdl_verify.specs.Runs.{is_plain}
pub use Rattle.tdl_verify.specs.Ends.{committed, committed_rows, NotReady, NoneReady, ended_tasks, ended_rows}
use Rattle.tdl_verify.proofs.Leads.{Leads, nothing, leads_on, one_on, at_seam, changed-seam}

-- the code has these instructions from an index on
abbrev pub HasAt : List EInstr → ℕ → List EInstr → Type 0
HasAt code pc [] = Unit {0}
HasAt code pc (i ∷ is) = (slice_get code pc ≡ Some i) × HasAt code (suc pc) is

-- a code that has joined instructions has both, one after the other
pub has-append : (code : List EInstr) (pc : ℕ) (is js : List EInstr) →
    HasAt code pc (is ++ js) → HasAt code pc is × HasAt code (pc + length is) js
has-append code pc [] js h = (tt, let e : pc ≡ pc + 0 = omega arith in subst (λ n. HasAt code n js) e h)
has-append code pc (i ∷ is) js h =
    let rest = has-append code (suc pc) is js h.1 in
    let e : suc pc + length is ≡ pc + suc (length is) = omega arith in
    ((h.0, rest.0), subst (λ n. HasAt code n js) e rest.1)

-- joined instructions have the second ones after the first
pub has-self : (front is : List EInstr) → HasAt (front ++ is) (length front) is
has-self front [] = tt
has-self front (i ∷ is) =
    let a : front ++ i ∷ is ≡ (front ++ i ∷ []) ++ is = sym (append_assoc front (i ∷ []) is) in
    let l : length (front ++ i ∷ []) ≡ suc (length front) = omega (arith, length-append front (i ∷ [])) in
    (at_seam front i is, subst₂ (λ c n. HasAt c n is) (sym a) l (has-self (front ++ i ∷ []) is))

-- the rows of outputs are all plain
pub plain-outputs : (x node m t n : ℕ) (outputs : List ℤ) →
    filter is_plain (numbered n (λ o v. Shown.Port x node m t o v) outputs)
    ≡ numbered n (λ o v. Shown.Port x node m t o v) outputs
plain-outputs x node m t n [] = refl
plain-outputs x node m t n (v ∷ vs) =
    ap (λ rs. Shown.Port x node m t n v ∷ rs) (plain-outputs x node m t (suc n) vs)

-- the numbers that pass a test, of tasks from n on
abbrev pub passing : {A : Type 0} → (ℕ → Bool) → ℕ → List A → List ℕ
passing p n tasks = joined (numbered n (λ t task. if p t then t ∷ [] else []) tasks)

module _ (x node : ℕ) (sensed : Sensed) (times : Times) (h : Hosted) (b : ℕ) (front back : List Part) where
  -- the parts with this state of the module
  abbrev pub here : HostNow → List Part
  here s = front ++ Part.Host h s ∷ back

  -- an index of the block
  abbrev pub spot : ℕ → Spot
  spot pc = Spot.In (length front) b pc

  -- a state with these tasks
  abbrev pub with_tasks : HostNow → List TaskNow → HostNow
  with_tasks s tasks = record s { tasks = tasks }

  -- an End of task n commits it and goes on
  Ends : HostNow → ℕ → List TaskNow → List TaskNow → ℕ → TaskNow → Type 0
  Ends s pc ds us n u =
      end_acts x node h (with_tasks s (ds ++ u ∷ us)) pc n
      ≡ Acted.On (Part.Host h (with_tasks s (ds ++ committed u ∷ us))) (committed_rows x node h.number.0 n u) (suc pc)

  -- the End of the task after others commits it, where its slot has no job that is not done
  ended-slot : (s : HostNow) (pc : ℕ) (ds us : List TaskNow) (outputs : List ℤ) (slot : Slot) (released : ℕ) →
      NotReady slot →
      Ends s pc ds us (length ds) (record { outputs = outputs; slot = slot; released = released })
  unfolding Ends
  ended-slot s pc ds us outputs Slot.Idle released ready =
      rw (at_seam ds (record { outputs = outputs; slot = Slot.Idle; released = released }) us) refl
  ended-slot s pc ds us outputs (Slot.Done m i outs) released ready =
      rw (at_seam ds (record { outputs = outputs; slot = Slot.Done m i outs; released = released }) us)
      (ap (λ ts. Acted.On (Part.Host h (with_tasks s ts)) (output_rows x node h.number.0 (length ds) outs) (suc pc))
      (changed-seam (λ (u : TaskNow). record u { outputs = outs; slot = Slot.Idle }) ds
      (record { outputs = outputs; slot = Slot.Done m i outs; released = released }) us))
  ended-slot s pc ds us outputs (Slot.Ready m i left cells) released ready = absurd ready

  -- the same, where the number is stated by an equation
  ended-at : (s : HostNow) (pc n : ℕ) (ds us : List TaskNow) (u : TaskNow) → n ≡ length ds → NotReady u.slot →
      Ends s pc ds us n u
  ended-at s pc n ds us u is ready =
      subst (λ k. Ends s pc ds us k u) (sym is) (ended-slot s pc ds us u.outputs u.slot u.released ready)

  -- the rows of an end are all plain
  plain-committed : (t : ℕ) (outputs : List ℤ) (slot : Slot) (released : ℕ) →
      let u : TaskNow = record { outputs = outputs; slot = slot; released = released } in
      filter is_plain (committed_rows x node h.number.0 t u) ≡ committed_rows x node h.number.0 t u
  plain-committed t outputs Slot.Idle released = refl
  plain-committed t outputs (Slot.Done m i outs) released = plain-outputs x node h.number.0 t 0 outs
  plain-committed t outputs (Slot.Ready m i left cells) released = refl

  -- from an index on, so many instructions lead from these tasks to those
  abbrev Goes : ℕ → HostNow → ℕ → List TaskNow → List TaskNow → List Shown → Type 0
  Goes pc s n before after rows =
      Leads x node sensed times n (spot pc) (here (with_tasks s before)) (spot (pc + n))
      (here (with_tasks s after)) rows

  -- the Ends of one task, where the test on it is t, and of those after it
  Goal : ℕ → HostNow → List TaskNow → TaskNow → List TaskNow → ℕ → List ℕ → List TaskNow → List Shown → Bool → Type 0
  Goal pc s ds u us n more later rows t =
      Goes pc s (length ((if t then n ∷ [] else []) ++ more)) (ds ++ u ∷ us)
      (ds ++ (if t then committed u else u) ∷ later)
      ((if t then committed_rows x node h.number.0 n u else []) ++ rows)

  -- the Ends of the tasks after one that has come to d
  Rest : HostNow → List TaskNow → List TaskNow → List ℕ → List TaskNow → List Shown → TaskNow → ℕ → Type 0
  Rest s ds us more later rows d pc = Goes pc s (length more) ((ds ++ d ∷ []) ++ us) ((ds ++ d ∷ []) ++ later) rows

  -- the Ends of tasks follow from those of the tasks after the first
  ends_step : (pc : ℕ) (s : HostNow) (ds : List TaskNow) (u : TaskNow) (us : List TaskNow) (n : ℕ) (more : List ℕ)
      (later : List TaskNow) (rows : List Shown) (t : Bool) → n ≡ length ds → (t ≡ true → NotReady u.slot) →
      HasAt (code_at b (Part.Host h s)) pc (map e.End ((if t then n ∷ [] else []) ++ more)) →
      ((d : TaskNow) (pc' : ℕ) → HasAt (code_at b (Part.Host h s)) pc' (map e.End more) →
      Rest s ds us more later rows d pc') →
      Goal pc s ds u us n more later rows t
  unfolding Goal Rest Ends
  ends_step pc s ds u us n more later rows true is ready has rest =
      let after : TaskNow = committed u in
      let ends : List Shown = committed_rows x node h.number.0 n u in
      let start : List Part = here (with_tasks s (ds ++ u ∷ us)) in
      let middle : List Part = here (with_tasks s (ds ++ after ∷ us)) in
      let end : List Part = here (with_tasks s (ds ++ after ∷ later)) in
      let one : Leads x node sensed times 1 (spot pc) start (spot (suc pc)) middle ends =
      subst (λ rs. Leads x node sensed times 1 (spot pc) start (spot (suc pc)) middle rs)
      (plain-committed n u.outputs u.slot u.released)
      (one_on x node sensed times front (Part.Host h (with_tasks s (ds ++ u ∷ us))) back b pc (e.End n)
      (Part.Host h (with_tasks s (ds ++ after ∷ us))) ends (suc pc) has.0
      (ended-at s pc n ds us u is (ready refl))) in
      let others : Leads x node sensed times (length more) (spot (suc pc)) middle
      (spot (suc pc + length more)) end rows =
      subst₂ (λ a c. Goes (suc pc) s (length more) a c rows)
      (append_assoc ds (after ∷ []) us) (append_assoc ds (after ∷ []) later) (rest after (suc pc) has.1) in
      let l : 1 + length more ≡ suc (length more) = omega arith in
      let m : suc pc + length more ≡ pc + suc (length more) = omega arith in
      subst₂ (λ a c. Leads x node sensed times a (spot pc) start (spot c) end (ends ++ rows)) l m
      (leads_on x node sensed times 1 (length more) _ _ _ _ _ _ _ _ one others)
  ends_step pc s ds u us n more later rows false is ready has rest =
      subst₂ (λ a c. Goes pc s (length more) a c rows) (append_assoc ds (u ∷ []) us) (append_assoc ds (u ∷ []) later)
      (rest u pc has)

  -- the Ends of the tasks whose numbers pass commit these tasks, where none of them has a job that is not done
  pub ends_run : {A : Type 0} (p : ℕ → Bool) (tasks : List A) (ds us : List TaskNow) (s : HostNow) (pc n : ℕ) →
      n ≡ length ds → length tasks ≡ length us → NoneReady p n us →
      HasAt (code_at b (Part.Host h s)) pc (map e.End (passing p n tasks)) →
      Leads x node sensed times (length (passing p n tasks)) (spot pc) (here (with_tasks s (ds ++ us)))
      (spot (pc + length (passing p n tasks))) (here (with_tasks s (ds ++ ended_tasks p n us)))
      (ended_rows x node h.number.0 p n us)
  unfolding Goal Rest
  ends_run p [] ds [] s pc n is size ready has =
      let e : pc ≡ pc + 0 = omega arith in
      let there : List Part = here (with_tasks s (ds ++ [])) in
      subst (λ q. Leads x node sensed times 0 (spot pc) there (spot q) there []) e
      (nothing x node sensed times 0 (spot pc) there)
  ends_run p [] ds (u ∷ us) s pc n is size ready has = absurd (cc size)
  ends_run p (task ∷ tasks) ds [] s pc n is size ready has = absurd (cc size)
  ends_run p (task ∷ tasks) ds (u ∷ us) s pc n is size ready has =
      ends_step pc s ds u us n (passing p (suc n) tasks) (ended_tasks p (suc n) us)
      (ended_rows x node h.number.0 p (suc n) us)
      (p n) is ready.0 has
      (λ d pc' has'. ends_run p tasks (ds ++ d ∷ []) us s pc' (suc n) (omega (arith, is, length-append ds (d ∷ [])))
      (omega (arith, size))
      ready.1 has')
