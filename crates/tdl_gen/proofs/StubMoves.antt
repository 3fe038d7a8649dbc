-- All due receive entries of a stub, as one move of phase 1.
use Rattle.std.proofs.Common.{◌≡◌, ℕ, suc, ◌+◌, ◌*◌, ℤ, List, [], ◌∷◌, ◌++◌, map, length, Bool, true, false, ◌&&◌, ◌==◌, Some, refl, ap, ap₂, sym, ◌∙◌, subst₂, arith, append_assoc}
use Rattle.std.specs.Prelude.{slice_get, option_map, unwrap_or, if◌then◌else◌}
use Rattle.std.proofs.lemmas.Bool.{ne_eqb}
use Rattle.std.proofs.lemmas.List.{length-append}
use Rattle.tdl_trace.specs.Shown.{Shown}
use Rattle.tdl_ecode.specs.declared.instr.Block.{Block}
use Rattle.tdl_image.specs.declared.stub.Stub.{Stub}
use Rattle.tdl_image.specs.declared.stub.Receive.{Receive}
use Rattle.tdl_base.specs.Sensed.{Sensed}
use Rattle.tdl_verify.specs.States.{EntryNow, StubNow, Part, Times}
use Rattle.tdl_verify.specs.Turns.{Due, Spot, due_of, phase_of, is_at, output_rows, due_entries, replaced_in}
use Rattle.tdl_verify.specs.Covered.{unit}
use Rattle.tdl_verify.proofs.Leads.{Leads, nothing, leads_on, wider}
use Rattle.tdl_verify.specs.Sweeps.{NoneBelow, NoneDue, Move}
use Rattle.tdl_verify.proofs.Sweeps.{below-kept}
pub use Rattle.tdl_gen.specs.Takes.{freed, left_at, due_count, taken_outputs, taken_rows, taken}
use Rattle.tdl_gen.proofs.Takes.{OwnBlocks, NotDue, take_one}

-- the entries' blocks are of phase 1
abbrev pub InOne : Stub → List Receive → Type 0
InOne p es = (n : ℕ) (e : Receive) → slice_get es n ≡ Some e → phase_of p.blocks e.block ≡ 1

-- a stub whose entries have their own blocks
pub in_one : (p : Stub) → OwnBlocks p → InOne p p.entries
in_one p own n e at = ap (λ o. unwrap_or (option_map (λ (k : Block). k.phase) o) 0) (own n e at)

-- no entry is due where the second test fails
no_due : (b : Bool) (d : Due) → (if b && false then d ∷ [] else []) ≡ []
no_due true d = refl
no_due false d = refl

-- nothing of another phase is due there
pub other_phase : (x q k : ℕ) (p : Stub) (n : ℕ) (es : List Receive) (nows : List EntryNow) → InOne p es →
    ((1 == q) ≡ false) → due_entries x q k p n es nows ≡ []
other_phase x q k p n [] nows one ne = refl
other_phase x q k p n (e ∷ es) [] one ne = refl
other_phase x q k p n (e ∷ es) (now ∷ more) one ne =
    let f : (phase_of p.blocks e.block == q) ≡ false = ap (λ j. j == q) (one 0 e refl) ∙ ne in
    ap₂ (λ b ds. (if is_at x now.due && b then record { part = k; entry = n } ∷ [] else []) ++ ds) f
    (other_phase x q k p (suc n) es more (λ j a at. one (suc j) a at) ne)
    ∙ ap (λ ds. ds ++ []) (no_due (is_at x now.due) (record { part = k; entry = n }))

-- an entry after phase 1 is not due
is_left : (x : ℕ) (now : EntryNow) → is_at x (left_at x now).due ≡ false
is_left x now = by_test (is_at x now.due) refl
  where
    by_test : (b : Bool) → is_at x now.due ≡ b → is_at x (if b then freed now else now).due ≡ false
    by_test true e = refl
    by_test false e = e

-- nothing is due after phase 1
pub none_left : (x q k : ℕ) (p : Stub) (n : ℕ) (es : List Receive) (nows : List EntryNow) →
    due_entries x q k p n es (map (left_at x) nows) ≡ []
none_left x q k p n [] nows = refl
none_left x q k p n (e ∷ es) [] = refl
none_left x q k p n (e ∷ es) (now ∷ more) =
    ap₂ (λ b ds. (if b && phase_of p.blocks e.block == q then record { part = k; entry = n } ∷ [] else []) ++ ds)
    (is_left x now) (none_left x q k p (suc n) es more)

-- entries that are not due, and one more after them
not_due-append : (x : ℕ) (ds : List EntryNow) (now : EntryNow) → NotDue x ds → is_at x now.due ≡ false →
    NotDue x (ds ++ now ∷ [])
not_due-append x [] now none e = (e, tt)
not_due-append x (d ∷ ds) now none e = (none.0, not_due-append x ds now none.1 e)

module _ (x node : ℕ) (sensed : Sensed) (times : Times) (front back : List Part) (p : Stub) (own : OwnBlocks p) where
  -- at most so many instructions lead from one spot and these parts to another, with these plain rows
  abbrev Runs : ℕ → Spot → List Part → Spot → List Part → List Shown → Type 0
  Runs most from ps to qs rows = Leads x node sensed times most from ps to qs rows

  -- the parts of the node, with the stub in this state
  abbrev here : List (List ℤ) → List EntryNow → List Part
  here outputs entries = front ++ Part.Outside p (record { outputs = outputs; entries = entries }) ∷ back

  -- from one state of the stub to another
  abbrev Goal : ℕ → List (List ℤ) → List (List ℤ) → List EntryNow → List EntryNow → List Shown → Type 0
  Goal n o o' a b rows = Runs n Spot.Between (here o a) Spot.Between (here o' b) rows

  -- where nothing is due in a lower phase, nothing is with the stub in another state
  low_kept : (o o' : List (List ℤ)) (ds ds' : List EntryNow) → NoneBelow x 1 (here o ds) → NoneBelow x 1 (here o' ds')
  low_kept o o' ds ds' low =
      below-kept x 1 front (Part.Outside p (record { outputs = o; entries = ds }))
      (Part.Outside p (record { outputs = o'; entries = ds' })) back low
      (λ q lt n. other_phase x q n p 0 p.entries ds' (in_one p own) (ne_eqb 1 q (λ e. omega (arith, e, lt))))

  -- the due entries of a stub are taken, one after the other, with two instructions each
  pub take_all : (es1 es2 : List Receive) → p.entries ≡ es1 ++ es2 →
      (outputs : List (List ℤ)) (ds more : List EntryNow) → length es1 ≡ length ds → length es2 ≡ length more →
      NotDue x ds →
      NoneBelow x 1 (here outputs (ds ++ more)) → NoneDue x 1 front →
      Runs (2 * due_count x more) Spot.Between (here outputs (ds ++ more)) Spot.Between
      (here (taken_outputs x p es2 more outputs) (ds ++ map (left_at x) more)) (taken_rows x node p es2 more)
  take_all es1 [] split outputs ds [] size size2 none low quiet =
      nothing x node sensed times 0 Spot.Between (here outputs (ds ++ []))
  take_all es1 [] split outputs ds (now ∷ more) size size2 none low quiet = absurd (cc size2)
  take_all es1 (e ∷ es2) split outputs ds [] size size2 none low quiet = absurd (cc size2)
  take_all es1 (e ∷ es2) split outputs ds (now ∷ more) size size2 none low quiet =
      by_test
      (take_all (es1 ++ e ∷ []) es2 split' outputs1 (ds ++ freed now ∷ []) more (longer (freed now))
      (omega (arith, size2)) (not_due-append x ds (freed now) none refl)
      (low_kept outputs outputs1 (ds ++ now ∷ more) ((ds ++ freed now ∷ []) ++ more) low) quiet)
      (λ f. take_all (es1 ++ e ∷ []) es2 split' outputs (ds ++ now ∷ []) more (longer now) (omega (arith, size2))
      (not_due-append x ds now none f)
      (low_kept outputs outputs (ds ++ now ∷ more) ((ds ++ now ∷ []) ++ more) low) quiet)
      (is_at x now.due) refl
    where
      split' : p.entries ≡ (es1 ++ e ∷ []) ++ es2
      split' = split ∙ sym (append_assoc es1 (e ∷ []) es2)

      longer : (n : EntryNow) → length (es1 ++ e ∷ []) ≡ length (ds ++ n ∷ [])
      longer n = omega (arith, size, length-append es1 (e ∷ []), length-append ds (n ∷ []))

      outputs1 : List (List ℤ)
      outputs1 = replaced_in e.task now.copy p.tasks outputs

      by_test : Goal (2 * due_count x more) outputs1 (taken_outputs x p es2 more outputs1)
          ((ds ++ freed now ∷ []) ++ more) ((ds ++ freed now ∷ []) ++ map (left_at x) more)
          (taken_rows x node p es2 more) →
          ((is_at x now.due ≡ false) → Goal (2 * due_count x more) outputs (taken_outputs x p es2 more outputs)
          ((ds ++ now ∷ []) ++ more) ((ds ++ now ∷ []) ++ map (left_at x) more) (taken_rows x node p es2 more)) →
          (b : Bool) → is_at x now.due ≡ b →
          Goal (2 * (unit b + due_count x more)) outputs
          (taken_outputs x p es2 more (if b then outputs1 else outputs)) (ds ++ now ∷ more)
          (ds ++ (if b then freed now else now) ∷ map (left_at x) more)
          ((if b then output_rows x node p.number.0 e.task now.copy else []) ++ taken_rows x node p es2 more)
      by_test rest other true due =
          let c : ℕ = due_count x more in
          let a = take_one x node sensed times front back p own es1 e es2 split outputs ds now more size none due low
          quiet in
          let r : Goal (2 * c) outputs1 (taken_outputs x p es2 more outputs1) (ds ++ freed now ∷ more) (ds
          ++ freed now ∷ map (left_at x) more) (taken_rows x node p es2 more) =
          subst₂ (λ f g. Goal (2 * c) outputs1 (taken_outputs x p es2 more outputs1) f g
          (taken_rows x node p es2 more)) (append_assoc ds (freed now ∷ []) more)
          (append_assoc ds (freed now ∷ []) (map (left_at x) more)) rest in
          wider x node sensed times (2 + 2 * c) (2 * (1 + c)) _ _ _ _ _ (omega arith)
          (leads_on x node sensed times 2 (2 * c) _ _ _ _ _ _ _ _ a r)
      by_test rest other false due =
          let c : ℕ = due_count x more in
          wider x node sensed times (2 * c) (2 * (0 + c)) _ _ _ _ _ (omega arith)
          (subst₂ (λ f g. Goal (2 * c) outputs (taken_outputs x p es2 more outputs) f g
          (taken_rows x node p es2 more)) (append_assoc ds (now ∷ []) more)
          (append_assoc ds (now ∷ []) (map (left_at x) more)) (other due))

-- the stub's move in phase 1: its due entries are taken
unfoldable pub takes_move : (x node : ℕ) (sensed : Sensed) (times : Times) (Fit : List Part → Type 0) →
    ((front back : List Part) (p q : Part) → Fit (front ++ p ∷ back) → Fit (front ++ q ∷ back)) →
    (p : Stub) → OwnBlocks p → (s : StubNow) → length p.entries ≡ length s.entries → Move x node sensed times 1 Fit
takes_move x node sensed times Fit any p own s size = record {
  before = Part.Outside p s;
  after = Part.Outside p (taken x p s);
  rows = taken_rows x node p p.entries s.entries;
  cost = 2 * due_count x s.entries;
  leads = λ front back fit low none. take_all x node sensed times front back p own [] p.entries refl s.outputs []
      s.entries refl size tt low none;
  fits = λ front back fit. any front back (Part.Outside p s) (Part.Outside p (taken x p s)) fit;
  below = λ q lt n. none_left x q n p 0 p.entries s.entries;
}

-- nothing of a stub is due after phase 1
pub stub_quiet : (x : ℕ) (p : Stub) (s : StubNow) (q n : ℕ) → due_of x q n (Part.Outside p (taken x p s)) ≡ []
stub_quiet x p s q n = none_left x q n p 0 p.entries s.entries
