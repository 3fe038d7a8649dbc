-- A whole turn of a node: its four phases, each over all parts.
use Rattle.std.proofs.Common.{◌≡◌, ℕ, ℤ, suc, ◌+◌, ◌-◌, ◌<◌, ◌≤◌, List, [], ◌++◌, Bool, true, false, ◌==◌, refl, ap, ◌∙◌, subst, arith}
use Rattle.std.proofs.lemmas.Bool.{eqb-true}
use Rattle.std.proofs.lemmas.Bool.Decides.{nat_tests}
use Rattle.tdl_trace.specs.Shown.{Shown}
use Rattle.tdl_base.specs.declared.numbers.PortKey.{PortKey}
use Rattle.tdl_base.specs.Sensed.{Sensed}
use Rattle.tdl_verify.specs.States.{Part, Times}
use Rattle.tdl_verify.specs.Turns.{Spot, turn, due_in}
pub use Rattle.tdl_verify.specs.Leads.{Finishes}
use Rattle.tdl_verify.specs.Leads.{Leads}
use Rattle.tdl_verify.specs.Sweeps.{NoneBelow, NoneDue, Move, befores, afters, rows_from, costs_from, Ran, Any, Sees, FourSweeps, swept_from, swept_to, swept_rows, swept_cost}
use Rattle.tdl_verify.proofs.Leads.{leads_on, finished}
use Rattle.tdl_verify.proofs.Sweeps.{phase_runs, least_none}

-- where nothing of a phase or a lower one is due, nothing below the next phase is due
below-next : (x phase : ℕ) (parts : List Part) → NoneBelow x phase parts → NoneDue x phase parts →
    NoneBelow x (suc phase) parts
below-next x phase parts low none q lt = by_test (q == phase) refl
  where
    by_test : (b : Bool) → (q == phase) ≡ b → due_in x q parts ≡ []
    by_test true e = ap (λ r. due_in x r parts) (eqb-true q phase e) ∙ none 0
    by_test false e = low q (less q phase e lt)
      where
        less : (a b : ℕ) → (a == b) ≡ false → a < suc b → a < b
        less a b e lt = grind (arith, nat_tests, e, lt)

module _ (x node : ℕ) (sensed : Sensed) (times : Times) (F G : List Part → Type 0) where
  -- a turn finishes where at most the declared number of instructions lead to parts in which nothing is due
  finishes : (n declared : ℕ) (parts parts' : List Part) (plain : List Shown) → n ≤ declared →
      Leads x node sensed times n Spot.Between parts Spot.Between parts' plain → NoneBelow x 5 parts' →
      Finishes x node sensed times declared parts parts' plain
  finishes n declared parts parts' plain le l low =
      let k : ℕ = declared - l.count in
      let e : declared ≡ k + l.count = omega (arith, le, l.within) in
      record {
        rows = l.new;
        is = ap (λ d. turn d x node sensed times Spot.Between parts []) e ∙ l.goes k []
            ∙ finished x node sensed times k parts' l.new (least_none x parts' low);
        shown = l.shown;
      }

  -- what the moves of a phase come to, stated with the parts before the moves of the next one
  abbrev Along : (phase : ℕ) (Fit : List Part → Type 0) → List (Move x node sensed times phase Fit) → List Part → Type 0
  Along phase Fit ms parts =
      Leads x node sensed times (costs_from x node sensed times phase Fit ms) Spot.Between
      (befores x node sensed times phase Fit ms) Spot.Between parts (rows_from x node sensed times phase Fit ms)

  -- moves of the four phases, each from where the ones before came to, are a turn
  pub node_turn : (declared : ℕ) (ms1 : List (Move x node sensed times 1 F)) (ms2 : List (Move x node sensed times 2 G))
      (ms3 : List (Move x node sensed times 3 G)) (ms4 : List (Move x node sensed times 4 G)) →
      F (befores x node sensed times 1 F ms1) → NoneBelow x 1 (befores x node sensed times 1 F ms1) →
      afters x node sensed times 1 F ms1 ≡ befores x node sensed times 2 G ms2 →
      G (befores x node sensed times 2 G ms2) →
      afters x node sensed times 2 G ms2 ≡ befores x node sensed times 3 G ms3 →
      afters x node sensed times 3 G ms3 ≡ befores x node sensed times 4 G ms4 →
      costs_from x node sensed times 1 F ms1 + costs_from x node sensed times 2 G ms2
      + costs_from x node sensed times 3 G ms3 + costs_from x node sensed times 4 G ms4 ≤ declared →
      Finishes x node sensed times declared (befores x node sensed times 1 F ms1) (afters x node sensed times 4 G ms4)
      (rows_from x node sensed times 1 F ms1 ++ rows_from x node sensed times 2 G ms2
      ++ rows_from x node sensed times 3 G ms3 ++ rows_from x node sensed times 4 G ms4)
  node_turn declared ms1 ms2 ms3 ms4 fit low e1 fit2 e2 e3 le =
      let start2 : List Part = befores x node sensed times 2 G ms2 in
      let start3 : List Part = befores x node sensed times 3 G ms3 in
      let start4 : List Part = befores x node sensed times 4 G ms4 in
      let r1 : Ran x node sensed times 1 F [] ms1 = phase_runs x node sensed times 1 F [] ms1 fit low (λ n. refl) in
      let l2 : NoneBelow x 2 start2 =
      subst (λ ps. NoneBelow x 2 ps) e1 (below-next x 1 (afters x node sensed times 1 F ms1) r1.below r1.none) in
      let r2 : Ran x node sensed times 2 G [] ms2 = phase_runs x node sensed times 2 G [] ms2 fit2 l2 (λ n. refl) in
      let l3 : NoneBelow x 3 start3 =
      subst (λ ps. NoneBelow x 3 ps) e2 (below-next x 2 (afters x node sensed times 2 G ms2) r2.below r2.none) in
      let r3 : Ran x node sensed times 3 G [] ms3 =
      phase_runs x node sensed times 3 G [] ms3 (subst G e2 r2.fits) l3 (λ n. refl) in
      let l4 : NoneBelow x 4 start4 =
      subst (λ ps. NoneBelow x 4 ps) e3 (below-next x 3 (afters x node sensed times 3 G ms3) r3.below r3.none) in
      let r4 : Ran x node sensed times 4 G [] ms4 =
      phase_runs x node sensed times 4 G [] ms4 (subst G e3 r3.fits) l4 (λ n. refl) in
      finishes _ declared _ _ _ le
      (leads_on x node sensed times _ (costs_from x node sensed times 4 G ms4) _ _ _ _ _ _ _ _
      (leads_on x node sensed times _ (costs_from x node sensed times 3 G ms3) _ _ _ _ _ _ _ _
      (leads_on x node sensed times _ (costs_from x node sensed times 2 G ms2) _ _ _ _ _ _ _ _
      (subst (Along 1 F ms1) e1 r1.leads) (subst (Along 2 G ms2) e2 r2.leads))
      (subst (Along 3 G ms3) e3 r3.leads)) r4.leads)
      (below-next x 4 (afters x node sensed times 4 G ms4) r4.below r4.none)

-- the sweeps of the four phases are a turn
pub whole_turn : (x node declared : ℕ) (sensed : Sensed) (times : Times) (seen : PortKey → ℤ) (ns : List ℕ)
    (s : FourSweeps x node sensed times seen ns) → swept_cost x node sensed times seen ns s ≤ declared →
    Finishes x node sensed times declared (swept_from x node sensed times seen ns s)
    (swept_to x node sensed times seen ns s) (swept_rows x node sensed times seen ns s)
whole_turn x node declared sensed times seen ns s enough =
    node_turn x node sensed times Any (Sees seen ns) declared s.ends s.updates s.switches s.starts tt s.low s.to_updates
    s.sees s.to_switches s.to_starts enough
