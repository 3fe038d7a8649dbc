-- The due receive entries of a stub, taken one after the other.
use Rattle.std.proofs.Common.{◌≡◌, ℕ, suc, ◌+◌, ℤ, List, [], ◌∷◌, ◌++◌, length, true, false, ◌&&◌, ◌==◌, Some, filter, refl, ap, ap₂, sym, ◌∙◌, subst, subst₂, arith, append-nil}
use Rattle.std.specs.Prelude.{slice_get, option_map, unwrap_or, if◌then◌else◌}
use Rattle.std.proofs.lemmas.Bool.{eq-eqb}
use Rattle.tdl_trace.specs.Shown.{Shown}
use Rattle.tdl_ecode.specs.declared.instr.EInstr.TheVariants as ec
use Rattle.tdl_ecode.specs.declared.instr.Block.{Block}
use Rattle.tdl_image.specs.declared.stub.Stub.{Stub}
use Rattle.tdl_image.specs.declared.stub.Receive.{Receive}
use Rattle.tdl_base.specs.Sensed.{Sensed}
use Rattle.tdl_verify.specs.States.{EntryNow, StubNow, Part, Times}
use Rattle.tdl_verify.specs.Turns.{Due, Spot, due_of, phase_of, is_at, code_at, due_block_number, taken_out, output_rows, due_entries, replaced_in}
use Rattle.tdl_verify.specs.Runs.{is_plain}
use Rattle.tdl_gen.specs.Tables.{take_block}
pub use Rattle.tdl_gen.specs.Takes.{OwnBlocks}
use Rattle.tdl_gen.specs.Takes.{freed}
use Rattle.tdl_verify.proofs.Leads.{Leads, leads_on, one_on, one_over, begin, at_seam, changed-seam}
use Rattle.tdl_verify.proofs.EndBlocks.{plain-outputs}
use Rattle.tdl_verify.proofs.Replaced.{took-entry}
use Rattle.tdl_verify.proofs.Sweeps.{NoneBelow, NoneDue, least_at}

-- the entries before these are not due
abbrev pub NotDue : ℕ → List EntryNow → Type 0
NotDue x [] = Unit {0}
NotDue x (now ∷ more) = (is_at x now.due ≡ false) × NotDue x more

-- the first due entry is the one after entries that are not due
due-past : (x k : ℕ) (p : Stub) (n : ℕ) (es : List Receive) (e : Receive) (es' : List Receive) (ds : List EntryNow)
    (now : EntryNow) (more : List EntryNow) → length es ≡ length ds → NotDue x ds →
    is_at x now.due ≡ true → phase_of p.blocks e.block ≡ 1 →
    due_entries x 1 k p n (es ++ e ∷ es') (ds ++ now ∷ more) ≡ record { part = k; entry = n + length ds }
    ∷ due_entries x 1 k p (suc (n + length ds)) es' more
due-past x k p n [] e es' [] now more size none due phase =
    let z : n ≡ n + 0 = omega arith in
    ap₂ (λ a c. (if a && c then record { part = k; entry = n } ∷ [] else []) ++ due_entries x 1 k p (suc n) es' more)
    due (eq-eqb (phase_of p.blocks e.block) 1 phase)
    ∙ ap (λ j. record { part = k; entry = j } ∷ due_entries x 1 k p (suc j) es' more) z
due-past x k p n [] e es' (d ∷ ds) now more size none due phase = absurd (cc size)
due-past x k p n (f ∷ es) e es' [] now more size none due phase = absurd (cc size)
due-past x k p n (f ∷ es) e es' (d ∷ ds) now more size none due phase =
    let z : suc n + length ds ≡ n + suc (length ds) = omega arith in
    ap (λ a. (if a && phase_of p.blocks f.block == 1 then record { part = k; entry = n } ∷ [] else [])
    ++ due_entries x 1 k p (suc n) (es ++ e ∷ es') (ds ++ now ∷ more)) none.0
    ∙ due-past x k p (suc n) es e es' ds now more (omega (arith, size)) none.1 due phase
    ∙ ap (λ j. record { part = k; entry = j } ∷ due_entries x 1 k p (suc j) es' more) z

module _ (x node : ℕ) (sensed : Sensed) (times : Times) (front back : List Part) (p : Stub) (own : OwnBlocks p) where
  -- at most so many instructions lead from one spot and these parts to another, with these plain rows
  abbrev Runs : ℕ → Spot → List Part → Spot → List Part → List Shown → Type 0
  Runs most from ps to qs rows = Leads x node sensed times most from ps to qs rows

  -- the parts of the node, with the stub in this state
  abbrev here : StubNow → List Part
  here s = front ++ Part.Outside p s ∷ back

  -- one due entry, after those that are not due
  pub take_one : (es : List Receive) (e : Receive) (es' : List Receive) → p.entries ≡ es ++ e ∷ es' →
      (outputs : List (List ℤ)) (ds : List EntryNow) (now : EntryNow) (more : List EntryNow) →
      length es ≡ length ds → NotDue x ds → is_at x now.due ≡ true →
      NoneBelow x 1 (here (record { outputs = outputs; entries = ds ++ now ∷ more })) → NoneDue x 1 front →
      Runs 2 Spot.Between (here (record { outputs = outputs; entries = ds ++ now ∷ more }))
      Spot.Between (here (record {
        outputs = replaced_in e.task now.copy p.tasks outputs;
        entries =
            ds ++ freed now ∷ more;
      })) (output_rows x node p.number.0 e.task now.copy)
  take_one es e es' split outputs ds now more size none due low quiet =
      let n : ℕ = length ds in
      let s : StubNow = record { outputs = outputs; entries = ds ++ now ∷ more } in
      let s1 : StubNow = record { outputs = outputs; entries = ds ++ freed now ∷ more } in
      let s2 : StubNow = record {
        outputs = replaced_in e.task now.copy p.tasks outputs;
        entries =
            ds ++ freed now ∷ more;
      } in
      let at : slice_get p.entries n ≡ Some e = ap₂ (λ l j. slice_get l j) split (sym size) ∙ at_seam es e es' in
      let block : slice_get p.blocks e.block ≡ Some (take_block n) = own n e at in
      let phase : phase_of p.blocks e.block ≡ 1 = ap (λ o. unwrap_or (option_map (λ (k : Block). k.phase) o) 0) block in
      let code : code_at e.block (Part.Outside p s1) ≡ ec.Take n ∷ ec.Return ∷ [] =
      ap (λ o. unwrap_or (option_map (λ (k : Block). k.code) o) []) block in
      let d : Due = record { part = length front; entry = n } in
      let z : 0 + length ds ≡ n = omega arith in
      let first : due_of x 1 (length front) (Part.Outside p s) ≡ d
      ∷ due_entries x 1 (length front) p (suc (0 + length ds)) es' more =
      ap (λ l. due_entries x 1 (length front) p 0 l (ds ++ now ∷ more)) split
      ∙ due-past x (length front) p 0 es e es' ds now more size none due phase
      ∙ ap (λ j. record { part = length front; entry = j }
      ∷ due_entries x 1 (length front) p (suc (0 + length ds)) es' more) z in
      let freed-at : taken_out d (Part.Outside p s) ≡ Part.Outside p s1 =
      ap (λ es. Part.Outside p (record { outputs = outputs; entries = es })) (changed-seam freed ds now more) in
      let a : Runs 0 Spot.Between (here s) (Spot.In (length front) e.block 0) (here s1) [] =
      subst₂ (λ b ps. Runs 0 Spot.Between (here s) (Spot.In (length front) b 0) ps [])
      (ap (λ o. unwrap_or (option_map (due_block_number d) o) 0) (at_seam front (Part.Outside p s) back)
      ∙ ap (λ o. unwrap_or (option_map (λ (r : Receive). r.block) o) 0) at)
      (changed-seam (taken_out d) front (Part.Outside p s) back ∙ ap (λ q. front ++ q ∷ back) freed-at)
      (begin x node sensed times (here s) d (least_at x 1 front (Part.Outside p s) back d _ (omega arith)
      (omega arith) low quiet first)) in
      let b = one_on x node sensed times front (Part.Outside p s1) back e.block 0 (ec.Take n) (Part.Outside p s2)
      (output_rows x node p.number.0 e.task now.copy) 1 (ap (λ c. slice_get c 0) code)
      (took-entry x node p s1 0 n e (freed now) at (at_seam ds (freed now) more)) in
      let c = one_over x node sensed times front (Part.Outside p s2) back e.block 1 ec.Return (Part.Outside p s2) []
      (ap (λ c. slice_get c 1) code) refl in
      subst (λ rs. Runs 2 Spot.Between (here s) Spot.Between (here s2) rs)
      (append-nil (filter is_plain (output_rows x node p.number.0 e.task now.copy))
      ∙ plain-outputs x node p.number.0 e.task 0 now.copy)
      (leads_on x node sensed times 1 1 _ _ _ _ _ _ _ _ (leads_on x node sensed times 0 1 _ _ _ _ _ _ _ _ a b) c)
