-- The due triggers of a phase, part by part: which one is the least, and what a phase of all parts comes to.
use Rattle.std.proofs.Common.{◌≡◌, ℕ, zero, suc, ◌+◌, ◌<◌, List, [], ◌∷◌, ◌++◌, length, Some, None, refl, ap, ap₂, sym, ◌∙◌, subst, subst₂, arith, append_assoc}
use Rattle.tdl_trace.specs.Shown.{Shown}
use Rattle.tdl_base.specs.Sensed.{Sensed}
use Rattle.tdl_verify.specs.States.{Part, Times}
use Rattle.tdl_verify.specs.Turns.{Due, Spot, due_of, due_in, least_due}
use Rattle.tdl_verify.specs.Leads.{Leads}
pub use Rattle.tdl_verify.specs.Sweeps.{due_from, NoneDue, NoneBelow, Move, befores, afters, rows_from, costs_from}
use Rattle.tdl_verify.specs.Sweeps.{Ran}
use Rattle.tdl_verify.proofs.Leads.{nothing, leads_on}

-- the due triggers of joined lists of parts
pub due-append : (x phase n : ℕ) (front back : List Part) →
    due_from x phase n (front ++ back) ≡ due_from x phase n front ++ due_from x phase (n + length front) back
due-append x phase n [] back = let e : n ≡ n + 0 = omega arith in ap (λ k. due_from x phase k back) e
due-append x phase n (p ∷ ps) back =
    let e : suc n + length ps ≡ n + suc (length ps) = omega arith in
    ap (λ os. due_of x phase n p ++ os)
    (due-append x phase (suc n) ps back ∙ ap (λ k. due_from x phase (suc n) ps ++ due_from x phase k back) e)
    ∙ sym (append_assoc (due_of x phase n p) (due_from x phase (suc n) ps)
    (due_from x phase (n + suc (length ps)) back))

-- nothing is due in joined lists in which nothing is due
none-append : (x phase : ℕ) (front back : List Part) →
    NoneDue x phase front → NoneDue x phase back → NoneDue x phase (front ++ back)
none-append x phase front back f b n =
    due-append x phase n front back ∙ ap₂ (λ c d. c ++ d) (f n) (b (n + length front))

-- nothing is due in a list of one part in which nothing is due
none-one : (x phase : ℕ) (p : Part) → ((n : ℕ) → due_of x phase n p ≡ []) → NoneDue x phase (p ∷ [])
none-one x phase p h n = ap (λ os. os ++ []) (h n)

-- the first due trigger of a phase is that of the part after a front in which nothing is due
due_in-first : (x phase : ℕ) (front : List Part) (p : Part) (back : List Part) (d : Due) (more : List Due) →
    NoneDue x phase front → due_of x phase (length front) p ≡ d ∷ more →
    due_in x phase (front ++ p ∷ back) ≡ d ∷ (more ++ due_from x phase (suc (length front)) back)
due_in-first x phase front p back d more none here =
    let e : 0 + length front ≡ length front = omega arith in
    due-append x phase 0 front (p ∷ back)
    ∙ ap₂ (λ a n. a ++ (due_of x phase n p ++ due_from x phase (suc n) back)) (none 0) e
    ∙ ap (λ a. a ++ due_from x phase (suc (length front)) back) here

-- the least due trigger is the first of the lowest phase that has one
least_due-first : (x phase : ℕ) (parts : List Part) (d : Due) (more : List Due) → phase < 5 → NoneBelow x phase parts →
    due_in x phase parts ≡ d ∷ more → least_due x parts ≡ Some d
least_due-first x zero parts d more below low here = rw here refl
least_due-first x (suc zero) parts d more below low here = let e0 = low 0 (omega arith) in rw (e0, here) refl
least_due-first x (suc (suc zero)) parts d more below low here =
    let e0 = low 0 (omega arith) in let e1 = low 1 (omega arith) in rw (e0, e1, here) refl
least_due-first x (suc (suc (suc zero))) parts d more below low here =
    let e0 = low 0 (omega arith) in let e1 = low 1 (omega arith) in let e2 = low 2 (omega arith) in
    rw (e0, e1, e2, here) refl
least_due-first x (suc (suc (suc (suc zero)))) parts d more below low here =
    let e0 = low 0 (omega arith) in
    let e1 = low 1 (omega arith) in
    let e2 = low 2 (omega arith) in
    let e3 = low 3 (omega arith) in
    rw (e0, e1, e2, e3, here) refl
least_due-first x (suc (suc (suc (suc (suc n))))) parts d more below low here = absurd (omega (arith, below))

-- where nothing of any phase is due, there is no least due trigger
pub least_none : (x : ℕ) (parts : List Part) → NoneBelow x 5 parts → least_due x parts ≡ None
least_none x parts low =
    let e0 = low 0 (omega arith) in
    let e1 = low 1 (omega arith) in
    let e2 = low 2 (omega arith) in
    let e3 = low 3 (omega arith) in
    let e4 = low 4 (omega arith) in
    rw (e0, e1, e2, e3, e4) refl

-- the least due trigger is that of the part after the front, where nothing before it is due, in any phase from 1 to 4
pub least_at : (x phase : ℕ) (front : List Part) (p : Part) (back : List Part) (d : Due) (more : List Due) →
    0 < phase → phase < 5 → NoneBelow x phase (front ++ p ∷ back) → NoneDue x phase front →
    due_of x phase (length front) p ≡ d ∷ more → least_due x (front ++ p ∷ back) ≡ Some d
least_at x phase front p back d more above below low none here =
    least_due-first x phase (front ++ p ∷ back) d (more ++ due_from x phase (suc (length front)) back) below low
    (due_in-first x phase front p back d more none here)

-- joined lists that are empty are empty both
pub append-empty : {A : Type 0} (a b : List A) → a ++ b ≡ [] → (a ≡ []) × (b ≡ [])
append-empty [] b h = (refl, h)
append-empty (c ∷ a) b h = absurd (cc h)

-- a part of which nothing of a lower phase is due can stand for another: nothing lower comes to be due
pub below-kept : (x phase : ℕ) (front : List Part) (p q : Part) (back : List Part) →
    NoneBelow x phase (front ++ p ∷ back) → ((r : ℕ) → r < phase → (n : ℕ) → due_of x r n q ≡ []) →
    NoneBelow x phase (front ++ q ∷ back)
below-kept x phase front p q back low quiet r lt =
    let k : ℕ = 0 + length front in
    let whole = sym (due-append x r 0 front (p ∷ back)) ∙ low r lt in
    let cut = append-empty (due_from x r 0 front) (due_from x r k (p ∷ back)) whole in
    let past = append-empty (due_of x r k p) (due_from x r (suc k) back) cut.1 in
    due-append x r 0 front (q ∷ back)
    ∙ ap₂ (λ c d. c ++ d) cut.0 (ap₂ (λ c d. c ++ d) (quiet r lt k) past.1)

-- ---- one phase over all parts

-- a move that changes nothing
unfoldable pub idle_move : (x node : ℕ) (sensed : Sensed) (times : Times) (phase : ℕ) (Fit : List Part → Type 0)
    (p : Part) → ((q : ℕ) → q < suc phase → (n : ℕ) → due_of x q n p ≡ []) → Move x node sensed times phase Fit
idle_move x node sensed times phase Fit p quiet = record {
  before = p;
  after = p;
  rows = [];
  cost = 0;
  leads = λ front back fit low none. nothing x node sensed times 0 Spot.Between (front ++ p ∷ back);
  fits = λ front back fit. fit;
  below = quiet;
}

module _ (x node : ℕ) (sensed : Sensed) (times : Times) (phase : ℕ) (Fit : List Part → Type 0) where
  -- the moves of parts in this phase
  abbrev Moves : Type 0
  Moves = List (Move x node sensed times phase Fit)

  -- the parts before their moves
  abbrev starts : Moves → List Part
  starts ms = befores x node sensed times phase Fit ms

  -- the parts after their moves
  abbrev ends : Moves → List Part
  ends ms = afters x node sensed times phase Fit ms

  -- their plain rows
  abbrev rows : Moves → List Shown
  rows ms = rows_from x node sensed times phase Fit ms

  -- their greatest number of instructions
  abbrev costs : Moves → ℕ
  costs ms = costs_from x node sensed times phase Fit ms

  -- the moves of a phase, one after the other
  pub phase_runs : (front : List Part) (ms : Moves) → Fit (front ++ starts ms) →
      NoneBelow x phase (front ++ starts ms) →
      NoneDue x phase front → Ran x node sensed times phase Fit front ms
  phase_runs front [] fit low none = record {
    leads = nothing x node sensed times 0 Spot.Between (front ++ []);
    fits = fit;
    below = low;
    none = none-append x phase front [] none (λ n. refl);
  }
  phase_runs front (a ∷ ms) fit low none =
      let q : Part = a.after in
      let moved : List Part = front ++ q ∷ [] in
      let b : front ++ q ∷ starts ms ≡ moved ++ starts ms = sym (append_assoc front (q ∷ []) (starts ms)) in
      let c : moved ++ ends ms ≡ front ++ q ∷ ends ms = append_assoc front (q ∷ []) (ends ms) in
      let rest : Ran x node sensed times phase Fit moved ms =
      phase_runs moved ms (subst Fit b (a.fits front (starts ms) fit))
      (subst (λ all. NoneBelow x phase all) b
      (below-kept x phase front a.before q (starts ms) low (λ r lt n. a.below r (omega (arith, lt)) n)))
      (none-append x phase front (q ∷ []) none (none-one x phase q (a.below phase (omega arith)))) in
      record {
        leads = leads_on x node sensed times a.cost (costs ms) _ _ _ _ _ _ _ _
            (a.leads front (starts ms) fit low none)
            (subst₂ (λ s e. Leads x node sensed times (costs ms) Spot.Between s Spot.Between e (rows ms)) (sym b) c
            rest.leads);
        fits = subst Fit c rest.fits;
        below = subst (λ all. NoneBelow x phase all) c rest.below;
        none = subst (λ all. NoneDue x phase all) c rest.none;
      }
