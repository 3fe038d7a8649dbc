-- A node of hosted modules and stubs in any order: the moves of its parts, phase by phase, make its turn.
use Rattle.std.proofs.Common.{◌≡◌, ℕ, suc, ◌+◌, ◌≤◌, ℤ, pos, List, [], ◌∷◌, ◌++◌, map, filter, Bool, true, false, ◌==◌, Option, Some, refl, ap, ap₂, sym, ◌∙◌, arith, append-nil}
use Rattle.std.specs.Prelude.{slice_index_or, option_map, unwrap_or, if◌then◌else◌, find}
use Rattle.tdl_base.specs.Lists.{joined, numbered}
use Rattle.tdl_base.specs.declared.numbers.PortKey.{PortKey}
use Rattle.tdl_trace.specs.Shown.{Shown}
use Rattle.tdl_base.specs.Sensed.{Sensed}
use Rattle.tdl_verify.specs.States.{Part, Times, part_number, part_outputs, outputs_on}
use Rattle.tdl_verify.specs.Turns.{Spot, Turned, turn, due_of, due_in}
use Rattle.tdl_verify.specs.Runs.{is_plain}
use Rattle.tdl_base.proofs.SideBySide.{Zip}
use Rattle.tdl_verify.proofs.Sweeps.{Move, NoneBelow, befores, afters, rows_from, costs_from}
pub use Rattle.tdl_verify.specs.Sweeps.{Any}
use Rattle.tdl_verify.proofs.WholeTurn.{Finishes, node_turn}
use Rattle.tdl_gen.proofs.HostMoves.{Sees}
use Rattle.tdl_meaning.specs.AllItems.{Every}
use Rattle.tdl_meaning.specs.OneNode.{View, seen_in}

-- the moves of part q in the four phases of instant x, with what is seen of it, what it comes to, its rows in phases 1
-- to 3, and the most instructions that it takes
pub record PartMoves (x node : ℕ) (sensed : Sensed) (times : Times) (seen : PortKey → ℤ) (ns : List ℕ) (q : Part)
    (view : View) (Comes : Part → Type 0) (rows_one rows_two rows_three : List Shown) (most : ℕ) : Type 0 where
  pub one : Move x node sensed times 1 Any
  pub two : Move x node sensed times 2 (Sees seen ns)
  pub three : Move x node sensed times 3 (Sees seen ns)
  pub four : Move x node sensed times 4 (Sees seen ns)
  pub from : one.before ≡ q
  pub one_two : one.after ≡ two.before
  pub two_three : two.after ≡ three.before
  pub three_four : three.after ≡ four.before
  -- nothing is due in a phase below the first
  pub low : (n : ℕ) → due_of x 0 n q ≡ []
  pub number : part_number two.before ≡ view.number
  pub outputs : (t : ℕ) → part_outputs two.before t ≡ view.outputs t
  pub after : Part
  pub to : four.after ≡ after
  pub comes : Comes after
  pub shows_one : one.rows ≡ rows_one
  pub shows_two : two.rows ≡ rows_two
  pub shows_three : three.rows ≡ rows_three
  pub shows_four : four.rows ≡ []
  pub cost : one.cost + two.cost + three.cost + four.cost ≤ most

-- moves that come to C come to what follows from C
pub comes_also : {x node : ℕ} {sensed : Sensed} {times : Times} {seen : PortKey → ℤ} {ns : List ℕ} {q : Part}
    {view : View} {C D : Part → Type 0} {rows_one rows_two rows_three : List Shown} {most : ℕ} →
    PartMoves x node sensed times seen ns q view C rows_one rows_two rows_three most →
    ((p : Part) → C p → D p) → PartMoves x node sensed times seen ns q view D rows_one rows_two rows_three most
comes_also t also = record {
  one = t.one;
  two = t.two;
  three = t.three;
  four = t.four;
  from = t.from;
  one_two = t.one_two;
  two_three = t.two_three;
  three_four = t.three_four;
  low = t.low;
  number = t.number;
  outputs = t.outputs;
  after = t.after;
  to = t.to;
  comes = also t.after t.comes;
  shows_one = t.shows_one;
  shows_two = t.shows_two;
  shows_three = t.shows_three;
  shows_four = t.shows_four;
  cost = t.cost;
}

-- the rows of all parts in one phase
abbrev pub rows_in : (Given : Part → Type 0) → ((q : Part) → Given q → List Shown) → (qs : List Part) →
    Every Given qs → List Shown
rows_in Given rows [] gs = []
rows_in Given rows (q ∷ qs) gs = rows q gs.0 ++ rows_in Given rows qs gs.1

-- the shares of all parts
abbrev pub shares_in : (Given : Part → Type 0) → ((q : Part) → Given q → ℕ) → (qs : List Part) → Every Given qs → ℕ
shares_in Given share [] gs = 0
shares_in Given share (q ∷ qs) gs = share q gs.0 + shares_in Given share qs gs.1

-- the turn of a node ends without a trap, each part comes to what it should, and the plain rows are `shown`
pub record NodeTurned (x node : ℕ) (sensed : Sensed) (times : Times) (Comes : Part → Part → Type 0) (declared : ℕ)
    (qs : List Part) (shown_rows : List Shown) : Type 0 where
  pub after : List Part
  pub rows : List Shown
  pub is : turn declared x node sensed times Spot.Between qs [] ≡ Turned.Finished after rows
  pub stepped : Zip Comes qs after
  pub shown : filter is_plain rows ≡ shown_rows

-- parts of which something is given that yields their moves
module _ (x node : ℕ) (sensed : Sensed) (times : Times) (seen : PortKey → ℤ) (ns : List ℕ) (Given : Part → Type 0)
    (view : Part → View) (number : (q : Part) → (view q).number ≡ part_number q) (Comes : Part → Part → Type 0)
    (rows_one rows_two rows_three : (q : Part) → Given q → List Shown) (share : (q : Part) → Given q → ℕ)
    (made : (q : Part) (g : Given q) → PartMoves x node sensed times seen ns q (view q) (Comes q) (rows_one q g)
    (rows_two q g) (rows_three q g) (share q g)) where
  -- the moves of all parts in phase 1
  abbrev ones : (qs : List Part) → Every Given qs → List (Move x node sensed times 1 Any)
  ones [] gs = []
  ones (q ∷ qs) gs = (made q gs.0).one ∷ ones qs gs.1

  -- the moves of all parts in phase 2
  abbrev twos : (qs : List Part) → Every Given qs → List (Move x node sensed times 2 (Sees seen ns))
  twos [] gs = []
  twos (q ∷ qs) gs = (made q gs.0).two ∷ twos qs gs.1

  -- the moves of all parts in phase 3
  abbrev threes : (qs : List Part) → Every Given qs → List (Move x node sensed times 3 (Sees seen ns))
  threes [] gs = []
  threes (q ∷ qs) gs = (made q gs.0).three ∷ threes qs gs.1

  -- the moves of all parts in phase 4
  abbrev fours : (qs : List Part) → Every Given qs → List (Move x node sensed times 4 (Sees seen ns))
  fours [] gs = []
  fours (q ∷ qs) gs = (made q gs.0).four ∷ fours qs gs.1

  -- what the parts come to
  abbrev parts_after : (qs : List Part) → Every Given qs → List Part
  parts_after [] gs = []
  parts_after (q ∷ qs) gs = (made q gs.0).after ∷ parts_after qs gs.1

  -- phase 1 begins with the parts before the turn
  before-ones : (qs : List Part) (gs : Every Given qs) → befores x node sensed times 1 Any (ones qs gs) ≡ qs
  before-ones [] gs = refl
  before-ones (q ∷ qs) gs = ap₂ (λ p ps. p ∷ ps) (made q gs.0).from (before-ones qs gs.1)

  -- phase 2 begins where phase 1 ends
  ones-twos : (qs : List Part) (gs : Every Given qs) → afters x node sensed times 1 Any (ones qs gs)
      ≡ befores x node sensed times 2 (Sees seen ns) (twos qs gs)
  ones-twos [] gs = refl
  ones-twos (q ∷ qs) gs = ap₂ (λ p ps. p ∷ ps) (made q gs.0).one_two (ones-twos qs gs.1)

  -- phase 3 begins where phase 2 ends
  twos-threes : (qs : List Part) (gs : Every Given qs) → afters x node sensed times 2 (Sees seen ns) (twos qs gs)
      ≡ befores x node sensed times 3 (Sees seen ns) (threes qs gs)
  twos-threes [] gs = refl
  twos-threes (q ∷ qs) gs = ap₂ (λ p ps. p ∷ ps) (made q gs.0).two_three (twos-threes qs gs.1)

  -- phase 4 begins where phase 3 ends
  threes-fours : (qs : List Part) (gs : Every Given qs) → afters x node sensed times 3 (Sees seen ns) (threes qs gs)
      ≡ befores x node sensed times 4 (Sees seen ns) (fours qs gs)
  threes-fours [] gs = refl
  threes-fours (q ∷ qs) gs = ap₂ (λ p ps. p ∷ ps) (made q gs.0).three_four (threes-fours qs gs.1)

  -- phase 4 ends with what the parts come to
  after-fours : (qs : List Part) (gs : Every Given qs) →
      afters x node sensed times 4 (Sees seen ns) (fours qs gs) ≡ parts_after qs gs
  after-fours [] gs = refl
  after-fours (q ∷ qs) gs = ap₂ (λ p ps. p ∷ ps) (made q gs.0).to (after-fours qs gs.1)

  -- they come to what they should
  all-come : (qs : List Part) (gs : Every Given qs) → Zip Comes qs (parts_after qs gs)
  all-come [] gs = tt
  all-come (q ∷ qs) gs = ((made q gs.0).comes, all-come qs gs.1)

  -- the rows of the moves of phase 1
  rows-ones : (qs : List Part) (gs : Every Given qs) →
      rows_from x node sensed times 1 Any (ones qs gs) ≡ rows_in Given rows_one qs gs
  rows-ones [] gs = refl
  rows-ones (q ∷ qs) gs = ap₂ (λ p ps. p ++ ps) (made q gs.0).shows_one (rows-ones qs gs.1)

  -- the rows of the moves of phase 2
  rows-twos : (qs : List Part) (gs : Every Given qs) →
      rows_from x node sensed times 2 (Sees seen ns) (twos qs gs) ≡ rows_in Given rows_two qs gs
  rows-twos [] gs = refl
  rows-twos (q ∷ qs) gs = ap₂ (λ p ps. p ++ ps) (made q gs.0).shows_two (rows-twos qs gs.1)

  -- the rows of the moves of phase 3
  rows-threes : (qs : List Part) (gs : Every Given qs) →
      rows_from x node sensed times 3 (Sees seen ns) (threes qs gs) ≡ rows_in Given rows_three qs gs
  rows-threes [] gs = refl
  rows-threes (q ∷ qs) gs = ap₂ (λ p ps. p ++ ps) (made q gs.0).shows_three (rows-threes qs gs.1)

  -- the moves of phase 4 show no rows
  rows-fours : (qs : List Part) (gs : Every Given qs) →
      rows_from x node sensed times 4 (Sees seen ns) (fours qs gs) ≡ []
  rows-fours [] gs = refl
  rows-fours (q ∷ qs) gs = ap₂ (λ p ps. p ++ ps) (made q gs.0).shows_four (rows-fours qs gs.1)

  -- the instructions of all moves are at most the shares of all parts
  costs : (qs : List Part) (gs : Every Given qs) →
      costs_from x node sensed times 1 Any (ones qs gs)
      + costs_from x node sensed times 2 (Sees seen ns) (twos qs gs)
      + costs_from x node sensed times 3 (Sees seen ns) (threes qs gs)
      + costs_from x node sensed times 4 (Sees seen ns) (fours qs gs) ≤ shares_in Given share qs gs
  costs [] gs = omega arith
  costs (q ∷ qs) gs = let rest = costs qs gs.1 in let here = (made q gs.0).cost in omega (arith, rest, here)

  -- the numbers of the parts after phase 1 are those before the turn
  numbers : (qs : List Part) (gs : Every Given qs) →
      map part_number (befores x node sensed times 2 (Sees seen ns) (twos qs gs)) ≡ map part_number qs
  numbers [] gs = refl
  numbers (q ∷ qs) gs = ap₂ (λ p ps. p ∷ ps) ((made q gs.0).number ∙ number q) (numbers qs gs.1)

  -- the outputs of task t of a part, none where there is no part
  at_output : ℕ → Option Part → List ℤ
  at_output t q = unwrap_or (option_map (λ p. part_outputs p t) q) []

  -- the outputs of task t in a view, none where there is no view
  at_view : ℕ → Option View → List ℤ
  at_view t q = unwrap_or (option_map (λ (v : View). v.outputs t) q) []

  -- the part and the view of number n have the same outputs
  found : (n t : ℕ) (qs : List Part) (gs : Every Given qs) →
      at_output t (find (λ p. part_number p == n) (befores x node sensed times 2 (Sees seen ns) (twos qs gs)))
      ≡ at_view t (find (λ (v : View). v.number == n) (map view qs))
  unfolding at_output at_view
  found n t [] gs = refl
  found n t (q ∷ qs) gs =
      ap (λ c. at_output t (if c == n then Some (made q gs.0).two.before
      else find (λ p. part_number p == n) (befores x node sensed times 2 (Sees seen ns) (twos qs gs.1))))
      (made q gs.0).number
      ∙ by_test (found n t qs gs.1) ((view q).number == n)
    where
      by_test :
          at_output t (find (λ p. part_number p == n) (befores x node sensed times 2 (Sees seen ns) (twos qs gs.1)))
          ≡ at_view t (find (λ (v : View). v.number == n) (map view qs)) → (b : Bool) →
          at_output t (if b then Some (made q gs.0).two.before
          else find (λ p. part_number p == n) (befores x node sensed times 2 (Sees seen ns) (twos qs gs.1)))
          ≡ at_view t (if b then Some (view q) else find (λ (v : View). v.number == n) (map view qs))
      by_test rest true = (made q gs.0).outputs t
      by_test rest false = rest

  -- what is seen of the parts after phase 1 is what is seen in the views
  sees-views : (qs : List Part) (gs : Every Given qs) →
      outputs_on (befores x node sensed times 2 (Sees seen ns) (twos qs gs)) ≡ seen_in (map view qs)
  unfolding at_output at_view
  sees-views qs gs = λ q. λ key. ap (λ os. slice_index_or os key.output (pos 0)) (found key.module.0 key.task.0 qs gs) q

  -- nothing is due in a phase below the first
  none_low : (n : ℕ) (qs : List Part) → Every Given qs → joined (numbered n (due_of x 0) qs) ≡ []
  none_low n [] gs = refl
  none_low n (q ∷ qs) gs = ap₂ (λ p ps. p ++ ps) ((made q gs.0).low n) (none_low (suc n) qs gs.1)

  -- nothing is due before phase 1
  none_below : (qs : List Part) (gs : Every Given qs) → NoneBelow x 1 (befores x node sensed times 1 Any (ones qs gs))
  none_below qs gs q lt =
      let z : q ≡ 0 = omega (arith, lt) in
      ap₂ (λ r ps. due_in x r ps) z (before-ones qs gs) ∙ none_low 0 qs gs

  -- the turn of the node: each part comes to what it should, and their rows are shown phase by phase
  pub node_turned : (declared : ℕ) (qs : List Part) (gs : Every Given qs) → ns ≡ map part_number qs →
      seen ≡ seen_in (map view qs) → shares_in Given share qs gs ≤ declared →
      NodeTurned x node sensed times Comes declared qs
      (rows_in Given rows_one qs gs ++ rows_in Given rows_two qs gs ++ rows_in Given rows_three qs gs)
  node_turned declared qs gs are sees enough =
      let c = costs qs gs in
      let rows : List Shown = rows_from x node sensed times 1 Any (ones qs gs)
      ++ rows_from x node sensed times 2 (Sees seen ns) (twos qs gs)
      ++ rows_from x node sensed times 3 (Sees seen ns) (threes qs gs)
      ++ rows_from x node sensed times 4 (Sees seen ns) (fours qs gs) in
      let finishes : Finishes x node sensed times declared
      (befores x node sensed times 1 Any (ones qs gs))
      (afters x node sensed times 4 (Sees seen ns) (fours qs gs)) rows =
      node_turn x node sensed times Any (Sees seen ns) declared (ones qs gs) (twos qs gs) (threes qs gs)
      (fours qs gs) tt (none_below qs gs) (ones-twos qs gs)
      (record { outputs = sees-views qs gs ∙ sym sees; numbers = numbers qs gs ∙ sym are }) (twos-threes qs gs)
      (threes-fours qs gs) (omega (arith, c, enough)) in
      let shown : rows
      ≡ rows_in Given rows_one qs gs ++ rows_in Given rows_two qs gs ++ rows_in Given rows_three qs gs =
      (λ q. rows-ones qs gs q ++ rows-twos qs gs q ++ rows-threes qs gs q ++ rows-fours qs gs q)
      ∙ append-nil
      (rows_in Given rows_one qs gs ++ rows_in Given rows_two qs gs ++ rows_in Given rows_three qs gs) in
      record {
        after = parts_after qs gs;
        rows = finishes.rows;
        is = ap (λ ps. turn declared x node sensed times Spot.Between ps []) (sym (before-ones qs gs)) ∙ finishes.is
            ∙ ap (λ ps. Turned.Finished ps finishes.rows) (after-fours qs gs);
        stepped = all-come qs gs;
        shown = finishes.shown ∙ shown;
      }
