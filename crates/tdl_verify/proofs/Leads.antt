-- The steps of a turn: what one instruction does, and steps one after the other.
use Rattle.std.proofs.Common.{◌≡◌, ℕ, zero, suc, ◌+◌, ◌≤◌, List, [], ◌∷◌, ◌++◌, length, Some, None, filter, refl, ap, ap₂, sym, ◌∙◌, arith, append_assoc, append-nil}
use Rattle.std.specs.Prelude.{slice_get, option_and_then}
use Rattle.std.proofs.lemmas.List.Elements.{filter-append}
use Rattle.tdl_base.specs.Lists.{changed_at}
use Rattle.tdl_trace.specs.Shown.{Shown}
use Rattle.tdl_trace.specs.declared.why.Why.{Why}
use Rattle.tdl_trace.specs.declared.why.Why.TheVariants as why
use Rattle.tdl_ecode.specs.declared.instr.EInstr.{EInstr}
use Rattle.tdl_ecode.specs.declared.instr.EInstr.TheVariants.{Call, Release, End, Take, Mode, If, Jump, Future, Return}
use Rattle.tdl_base.specs.Sensed.{Sensed}
use Rattle.tdl_verify.specs.States.{Part, Times, part_number}
use Rattle.tdl_verify.specs.Turns.{Due, Acted, Spot, Turned, Next, turn, block_begun, fetched, acted, spent, part_instr, code_at, taken_out, part_acts, step_row, least_due}
use Rattle.tdl_verify.specs.Runs.{is_plain}
pub use Rattle.tdl_verify.specs.Leads.{Leads}
use Rattle.tdl_verify.specs.Leads.{block_spot}

-- the item after a front stands at the front's length
pub at_seam : {A : Type 0} (front : List A) (p : A) (back : List A) →
    slice_get (front ++ p ∷ back) (length front) ≡ Some p
at_seam [] p back = refl
at_seam (a ∷ front) p back = at_seam front p back

-- a change at the front's length changes the item after the front
pub changed-seam : {A : Type 0} (f : A → A) (front : List A) (p : A) (back : List A) →
    changed_at (length front) f (front ++ p ∷ back) ≡ front ++ f p ∷ back
changed-seam f [] p back = refl
changed-seam f (a ∷ front) p back = ap (λ ps. a ∷ ps) (changed-seam f front p back)

-- the row of an instruction is not among the plain rows
step_row-plain : (x node m b pc : ℕ) (i : EInstr) (more : List Shown) →
    filter is_plain (step_row x node m b pc i ∷ more) ≡ filter is_plain more
step_row-plain x node m b pc Return more = refl
step_row-plain x node m b pc (Call d) more = refl
step_row-plain x node m b pc (Release i) more = refl
step_row-plain x node m b pc (End t) more = refl
step_row-plain x node m b pc (Take r) more = refl
step_row-plain x node m b pc (Mode k) more = refl
step_row-plain x node m b pc (If g a) more = refl
step_row-plain x node m b pc (Jump a) more = refl
step_row-plain x node m b pc (Future dt k) more = refl

module _ (x node : ℕ) (sensed : Sensed) (times : Times) where
  -- what goes on with so many instructions left
  abbrev go : ℕ → Next
  go n = turn n x node sensed times

  -- at most so many instructions lead from one spot and its parts to another, with these plain rows
  abbrev Way : ℕ → Spot → List Part → Spot → List Part → List Shown → Type 0
  Way most spot parts spot' parts' plain = Leads x node sensed times most spot parts spot' parts' plain

  -- no instruction leads from a spot to itself
  pub nothing : (most : ℕ) (spot : Spot) (parts : List Part) → Way most spot parts spot parts []
  nothing most spot parts = record {
    count = 0;
    within = omega arith;
    new = [];
    shown = refl;
    goes = λ k rows. let e : k + 0 ≡ k = omega arith in ap₂ (λ n rs. go n spot parts rs) e (sym (append-nil rows));
  }

  -- where one way ends and another begins, the two are one way
  pub leads_on : (n m : ℕ) (s : Spot) (p : List Part) (s1 : Spot) (p1 : List Part) (s2 : Spot) (p2 : List Part)
      (r1 r2 : List Shown) →
      Way n s p s1 p1 r1 → Way m s1 p1 s2 p2 r2 → Way (n + m) s p s2 p2 (r1 ++ r2)
  leads_on n m s p s1 p1 s2 p2 r1 r2 a b = record {
    count = a.count + b.count;
    within = omega (arith, a.within, b.within);
    new = a.new ++ b.new;
    shown = filter-append is_plain a.new b.new ∙ ap₂ (λ c d. c ++ d) a.shown b.shown;
    goes = λ k rows.
        let e : k + (a.count + b.count) ≡ (k + b.count) + a.count = omega arith in
        ap (λ n. go n s p rows) e ∙ a.goes (k + b.count) rows ∙ b.goes k (rows ++ a.new)
        ∙ ap (λ rs. go k s2 p2 rs) (append_assoc rows a.new b.new);
  }

  -- the same way within a greater count
  pub wider : (n m : ℕ) (s : Spot) (p : List Part) (s' : Spot) (p' : List Part) (r : List Shown) →
      n ≤ m → Way n s p s' p' r → Way m s p s' p' r
  wider n m s p s' p' r le a = record {
    count = a.count;
    within = omega (arith, a.within, le);
    new = a.new;
    shown = a.shown;
    goes = a.goes;
  }

  -- a turn at an instruction of the part after the front does what that instruction does
  fetch-seam : (front : List Part) (p : Part) (back : List Part) (b pc : ℕ) (i : EInstr) →
      slice_get (code_at b p) pc ≡ Some i →
      (k : ℕ) (rows : List Shown) → go (k + 1) (Spot.In (length front) b pc) (front ++ p ∷ back) rows
      ≡ acted (go k) (length front) b (front ++ p ∷ back) (rows ++ step_row x node (part_number p) b pc i ∷ [])
      (part_acts x node sensed times (front ++ p ∷ back) pc p i)
  unfolding turn
  fetch-seam front p back b pc i has k rows =
      let e : k + 1 ≡ suc k = omega arith in
      let parts : List Part = front ++ p ∷ back in
      let at : slice_get parts (length front) ≡ Some p = at_seam front p back in
      ap (λ n. go n (Spot.In (length front) b pc) parts rows) e
      ∙ ap₂ (λ o j. fetched (go k) x node sensed times (length front) b pc parts rows o j) at
      (ap (option_and_then (λ q. slice_get (code_at b q) pc)) at ∙ has)

  -- an instruction of the part after the front that goes on at another index
  pub one_on : (front : List Part) (p : Part) (back : List Part) (b pc : ℕ) (i : EInstr) (q : Part)
      (more : List Shown) (pc' : ℕ) →
      slice_get (code_at b p) pc ≡ Some i →
      part_acts x node sensed times (front ++ p ∷ back) pc p i ≡ Acted.On q more pc' →
      Way 1 (Spot.In (length front) b pc) (front ++ p ∷ back) (Spot.In (length front) b pc') (front ++ q ∷ back)
      (filter is_plain more)
  one_on front p back b pc i q more pc' has acts = record {
    count = 1;
    within = omega arith;
    new = step_row x node (part_number p) b pc i ∷ more;
    shown = step_row-plain x node (part_number p) b pc i more;
    goes = λ k rows.
        let step : List Shown = step_row x node (part_number p) b pc i ∷ [] in
        fetch-seam front p back b pc i has k rows
        ∙ ap (acted (go k) (length front) b (front ++ p ∷ back) (rows ++ step)) acts
        ∙ ap₂ (λ ps rs. go k (Spot.In (length front) b pc') ps rs) (changed-seam (λ r. q) front p back)
        (append_assoc rows step more);
  }

  -- an instruction of the part after the front that ends the block
  pub one_over : (front : List Part) (p : Part) (back : List Part) (b pc : ℕ) (i : EInstr) (q : Part)
      (more : List Shown) →
      slice_get (code_at b p) pc ≡ Some i →
      part_acts x node sensed times (front ++ p ∷ back) pc p i ≡ Acted.Over q more →
      Way 1 (Spot.In (length front) b pc) (front ++ p ∷ back) Spot.Between (front ++ q ∷ back) (filter is_plain more)
  one_over front p back b pc i q more has acts = record {
    count = 1;
    within = omega arith;
    new = step_row x node (part_number p) b pc i ∷ more;
    shown = step_row-plain x node (part_number p) b pc i more;
    goes = λ k rows.
        let step : List Shown = step_row x node (part_number p) b pc i ∷ [] in
        fetch-seam front p back b pc i has k rows
        ∙ ap (acted (go k) (length front) b (front ++ p ∷ back) (rows ++ step)) acts
        ∙ ap₂ (λ ps rs. go k Spot.Between ps rs) (changed-seam (λ r. q) front p back) (append_assoc rows step more);
  }

  -- an instruction of the part after the front that stops the turn
  pub one_stop : (front : List Part) (p : Part) (back : List Part) (b pc : ℕ) (i : EInstr) (reason : Why) →
      slice_get (code_at b p) pc ≡ Some i →
      part_acts x node sensed times (front ++ p ∷ back) pc p i ≡ Acted.Stop reason → (k : ℕ) (rows : List Shown) →
      go (k + 1) (Spot.In (length front) b pc) (front ++ p ∷ back) rows ≡ Turned.Trapped reason
  one_stop front p back b pc i reason has acts k rows =
      fetch-seam front p back b pc i has k rows
      ∙ ap (acted (go k) (length front) b (front ++ p ∷ back)
      (rows ++ step_row x node (part_number p) b pc i ∷ [])) acts

  -- where no instruction is left and one is to run, the declared count is spent
  pub is_spent : (parts : List Part) (part b pc : ℕ) (i : EInstr) (rows : List Shown) →
      part_instr parts part b pc ≡ Some i → go 0 (Spot.In part b pc) parts rows ≡ Turned.Trapped why.Budget
  unfolding turn
  is_spent parts part b pc i rows has = ap spent has

  -- between blocks a turn takes the least due trigger out and begins its block, whatever count is left
  between : (parts : List Part) (d : Due) → least_due x parts ≡ Some d → (k : ℕ) (rows : List Shown) →
      go k Spot.Between parts rows ≡ go k (block_spot d parts) (changed_at d.part (taken_out d) parts) rows
  unfolding turn
  between parts d h zero rows = ap (block_begun (λ k b pc ps. spent (part_instr ps k b pc)) parts rows) h
  between parts d h (suc n) rows =
      ap (block_begun
      (λ k b pc ps. fetched (go n) x node sensed times k b pc ps rows (slice_get ps k) (part_instr ps k b pc))
      parts rows) h

  -- the least due trigger is taken out and its block begun, with no instruction
  pub begin : (parts : List Part) (d : Due) → least_due x parts ≡ Some d →
      Way 0 Spot.Between parts (block_spot d parts) (changed_at d.part (taken_out d) parts) []
  begin parts d h = record {
    count = 0;
    within = omega arith;
    new = [];
    shown = refl;
    goes = λ k rows.
        let e : k + 0 ≡ k = omega arith in
        ap (λ n. go n Spot.Between parts rows) e ∙ between parts d h k rows
        ∙ ap (λ rs. go k (block_spot d parts) (changed_at d.part (taken_out d) parts) rs) (sym (append-nil rows));
  }

  -- where nothing is due, the turn is over
  pub finished : (n : ℕ) (parts : List Part) (rows : List Shown) → least_due x parts ≡ None →
      go n Spot.Between parts rows ≡ Turned.Finished parts rows
  unfolding turn
  finished zero parts rows h = ap (block_begun (λ k b pc ps. spent (part_instr ps k b pc)) parts rows) h
  finished (suc n) parts rows h =
      ap (block_begun
      (λ k b pc ps. fetched (go n) x node sensed times k b pc ps rows (slice_get ps k) (part_instr ps k b pc))
      parts rows) h
