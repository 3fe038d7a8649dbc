-- A sweep: one phase of an instant over all parts of a node, each with its move; and the four sweeps of a turn.
use Rattle.std.specs.Prelude.{◌≡◌, ◌==◌, false, ℕ, ℤ, suc, ◌+◌, ◌<◌, List, [], ◌∷◌, ◌++◌, map}
use Rattle.tdl_base.specs.Lists.{joined, numbered}
use Rattle.tdl_base.specs.declared.numbers.PortKey.{PortKey}
use Rattle.tdl_trace.specs.Shown.{Shown}
use Rattle.tdl_base.specs.Sensed.{Sensed}
use Rattle.tdl_verify.specs.States.{Part, Times, part_number, outputs_on}
use Rattle.tdl_verify.specs.Turns.{Due, Spot, due_of, due_in}
use Rattle.tdl_verify.specs.Leads.{Leads}

-- the due triggers of a phase, the first part having this number
abbrev pub due_from : ℕ → ℕ → ℕ → List Part → List Due
due_from x phase n parts = joined (numbered n (due_of x phase) parts)

-- nothing of this phase is due there
abbrev pub NoneDue : ℕ → ℕ → List Part → Type 0
NoneDue x phase ps = (n : ℕ) → due_from x phase n ps ≡ []

-- nothing of a lower phase is due
abbrev pub NoneBelow : ℕ → ℕ → List Part → Type 0
NoneBelow x phase parts = (q : ℕ) → q < phase → due_in x q parts ≡ []

-- no condition on the parts
abbrev pub Any : List Part → Type 0
Any parts = Unit {0}

-- the parts have these numbers, and this is seen of them
pub record Sees (seen : PortKey → ℤ) (ns : List ℕ) (parts : List Part) : Type 0 where
  pub outputs : outputs_on parts ≡ seen
  pub numbers : map part_number parts ≡ ns

-- a number is not among these
abbrev pub NotIn : ℕ → List ℕ → Type 0
NotIn n [] = Unit {0}
NotIn n (a ∷ l) = ((a == n) ≡ false) × NotIn n l

-- no number stands twice
abbrev pub Apart : List ℕ → Type 0
Apart ns = (front : List ℕ) (n : ℕ) (back : List ℕ) → ns ≡ front ++ n ∷ back → NotIn n front

-- A part before and after its step of a phase, with its plain rows and at most so many instructions: it takes the step
-- wherever it stands, once nothing of a lower phase is due and nothing of this one in front of it. After it nothing of
-- the phase or a lower one is due of it. `Fit` is what the step needs of all parts.
pub record Move (x node : ℕ) (sensed : Sensed) (times : Times) (phase : ℕ) (Fit : List Part → Type 0) : Type 0 where
  pub before : Part
  pub after : Part
  pub rows : List Shown
  pub cost : ℕ
  pub leads : (front back : List Part) →
      Fit (front ++ before ∷ back) → NoneBelow x phase (front ++ before ∷ back) → NoneDue x phase front →
      Leads x node sensed times cost Spot.Between (front ++ before ∷ back) Spot.Between (front ++ after ∷ back) rows
  pub fits : (front back : List Part) → Fit (front ++ before ∷ back) → Fit (front ++ after ∷ back)
  pub below : (q : ℕ) → q < suc phase → (n : ℕ) → due_of x q n after ≡ []

module _ (x node : ℕ) (sensed : Sensed) (times : Times) (phase : ℕ) (Fit : List Part → Type 0) where
  -- the parts before their moves
  abbrev pub befores : List (Move x node sensed times phase Fit) → List Part
  befores ms = map (λ (a : Move x node sensed times phase Fit). a.before) ms

  -- the parts after their moves
  abbrev pub afters : List (Move x node sensed times phase Fit) → List Part
  afters ms = map (λ (a : Move x node sensed times phase Fit). a.after) ms

  -- the plain rows of moves
  abbrev pub rows_from : List (Move x node sensed times phase Fit) → List Shown
  rows_from [] = []
  rows_from (a ∷ ms) = a.rows ++ rows_from ms

  -- the greatest number of instructions of moves
  abbrev pub costs_from : List (Move x node sensed times phase Fit) → ℕ
  costs_from [] = 0
  costs_from (a ∷ ms) = a.cost + costs_from ms

  -- what the moves of a phase come to, after parts that were moved: nothing of it or of a lower phase is left due
  pub record Ran (front : List Part) (ms : List (Move x node sensed times phase Fit)) : Type 0 where
    pub leads : Leads x node sensed times (costs_from ms) Spot.Between (front ++ befores ms) Spot.Between
        (front ++ afters ms) (rows_from ms)
    pub fits : Fit (front ++ afters ms)
    pub below : NoneBelow x phase (front ++ afters ms)
    pub none : NoneDue x phase (front ++ afters ms)

-- Four sweeps over the parts of a node, each from where the one before came to. What is seen of the parts after the
-- first stays through the others.
pub record FourSweeps (x node : ℕ) (sensed : Sensed) (times : Times) (seen : PortKey → ℤ) (ns : List ℕ) : Type 0 where
  pub ends : List (Move x node sensed times 1 Any)
  pub updates : List (Move x node sensed times 2 (Sees seen ns))
  pub switches : List (Move x node sensed times 3 (Sees seen ns))
  pub starts : List (Move x node sensed times 4 (Sees seen ns))
  pub low : NoneBelow x 1 (befores x node sensed times 1 Any ends)
  pub to_updates : afters x node sensed times 1 Any ends ≡ befores x node sensed times 2 (Sees seen ns) updates
  pub sees : Sees seen ns (befores x node sensed times 2 (Sees seen ns) updates)
  pub to_switches : afters x node sensed times 2 (Sees seen ns) updates
      ≡ befores x node sensed times 3 (Sees seen ns) switches
  pub to_starts : afters x node sensed times 3 (Sees seen ns) switches
      ≡ befores x node sensed times 4 (Sees seen ns) starts

module _ (x node : ℕ) (sensed : Sensed) (times : Times) (seen : PortKey → ℤ) (ns : List ℕ)
    (s : FourSweeps x node sensed times seen ns) where
  -- the parts before the four sweeps
  abbrev pub swept_from : List Part
  swept_from = befores x node sensed times 1 Any s.ends

  -- the parts after them
  abbrev pub swept_to : List Part
  swept_to = afters x node sensed times 4 (Sees seen ns) s.starts

  -- their plain rows, phase by phase
  abbrev pub swept_rows : List Shown
  swept_rows =
      rows_from x node sensed times 1 Any s.ends ++ rows_from x node sensed times 2 (Sees seen ns) s.updates
      ++ rows_from x node sensed times 3 (Sees seen ns) s.switches
      ++ rows_from x node sensed times 4 (Sees seen ns) s.starts

  -- their greatest number of instructions
  abbrev pub swept_cost : ℕ
  swept_cost =
      costs_from x node sensed times 1 Any s.ends + costs_from x node sensed times 2 (Sees seen ns) s.updates
      + costs_from x node sensed times 3 (Sees seen ns) s.switches
      + costs_from x node sensed times 4 (Sees seen ns) s.starts
