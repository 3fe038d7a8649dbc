-- A run from x up to the next event: its states and its rows.
use Rattle.std.proofs.Common.{◌≡◌, ℕ, zero, suc, ◌+◌, ◌-◌, ◌<◌, ◌≤◌, [], ◌++◌, ap, ap₂, ◌∙◌, arith}
use Rattle.std.proofs.lemmas.List.{append-nil}
use Rattle.tdl_base.specs.Sensed.{Course}
use Rattle.tdl_mode.specs.declared.program.Program.{Program}
use Rattle.tdl_mode.specs.Instants.{logical, state_at}
use Rattle.tdl_mode.specs.WellFormed.{WellFormed}
use Rattle.tdl_deploy.specs.declared.placement.Placement.{Placement}
use Rattle.tdl_deploy.specs.Rows.{node_rows, for_nodes, rows_at, logical_rows}
use Rattle.tdl_quiet.specs.Events.{next_event}
use Rattle.tdl_quiet.proofs.Places.{joined-none}
use Rattle.tdl_quiet.proofs.Standing.{state_at-stands}
use Rattle.tdl_quiet.proofs.Resting.{logical-rests, node_rows-none}

-- a run of a well-formed program, from instant x on
module _ (program : Program) (course : Course) (x : ℕ) (well : WellFormed program) where
  -- the instant of the next event
  abbrev pub next : ℕ
  next = next_event (state_at program course x) x

  -- up to it the state stays
  stays : (k : ℕ) → x + k < next → state_at program course (x + k) ≡ state_at program course x
  unfolding state_at
  stays zero lt = let e : x + 0 ≡ x = omega arith in ap (state_at program course) e
  stays (suc k) lt =
      let e : x + suc k ≡ suc (x + k) = omega arith in
      ap (state_at program course) e
      ∙ ap (logical (suc (x + k)) (course (suc (x + k)))) (stays k (omega (arith, lt)))
      ∙ logical-rests (state_at program course x) x (suc (x + k)) (state_at-stands program course x well)
      (omega arith) (omega (arith, lt)) (course (suc (x + k)))

  -- the same at an instant y
  pub state_at-stays : (y : ℕ) → x ≤ y → y < next → state_at program course y ≡ state_at program course x
  state_at-stays y from below =
      let e : y ≡ x + (y - x) = omega (arith, from) in
      ap (state_at program course) e ∙ stays (y - x) (omega (arith, from, below))

  -- there are no rows
  pub rows_at-none : (placement : Placement) (y : ℕ) → x < y → y < next → rows_at program placement course y ≡ []
  unfolding rows_at
  rows_at-none placement zero above below = absurd (omega (arith, above))
  rows_at-none placement (suc z) above below =
      joined-none (λ node n. node_rows program placement (suc z) (course (suc z)) (state_at program course z) node) 0
      placement.nodes
      (λ node i n at.
      ap (λ s. node_rows program placement (suc z) (course (suc z)) s node)
      (state_at-stays z (omega (arith, above)) (omega (arith, below)))
      ∙ node_rows-none (state_at program course x) x (suc z) (state_at-stands program course x well) above below
      program placement node (course (suc z)))

  -- so no rows are added
  pub logical_rows-stay : (placement : Placement) (k : ℕ) → x + k < next →
      logical_rows program placement course (x + k) ≡ logical_rows program placement course x
  unfolding logical_rows
  logical_rows-stay placement zero lt =
      let e : x + 0 ≡ x = omega arith in ap (logical_rows program placement course) e
  logical_rows-stay placement (suc k) lt =
      let e : x + suc k ≡ suc (x + k) = omega arith in
      ap (logical_rows program placement course) e
      ∙ ap₂ (λ rows more. rows ++ more) (logical_rows-stay placement k (omega (arith, lt)))
      (rows_at-none placement (suc (x + k)) (omega arith) (omega (arith, lt)))
      ∙ append-nil (logical_rows program placement course x)

  -- ---- a jump to an instant that is not past the next event

  -- the state there is one instant away
  pub state_at-jumps : (y : ℕ) → x < y → y ≤ next →
      state_at program course y ≡ logical y (course y) (state_at program course x)
  unfolding state_at
  state_at-jumps zero above within = absurd (omega (arith, above))
  state_at-jumps (suc z) above within =
      ap (logical (suc z) (course (suc z))) (state_at-stays z (omega (arith, above)) (omega (arith, within)))

  -- and its rows are those that are added
  pub logical_rows-jump : (placement : Placement) (y : ℕ) → x < y → y ≤ next →
      logical_rows program placement course y ≡ logical_rows program placement course x
      ++ for_nodes (node_rows program placement y (course y) (state_at program course x)) placement
  unfolding logical_rows rows_at
  logical_rows-jump placement zero above within = absurd (omega (arith, above))
  logical_rows-jump placement (suc z) above within =
      ap₂ (λ rows s. rows ++ for_nodes (node_rows program placement (suc z) (course (suc z)) s) placement)
      (logical_rows-stop z (omega (arith, above)) (omega (arith, within)))
      (state_at-stays z (omega (arith, above)) (omega (arith, within)))
    where
      logical_rows-stop : (z : ℕ) → x ≤ z → z < next →
          logical_rows program placement course z ≡ logical_rows program placement course x
      logical_rows-stop z from below =
          let e : z ≡ x + (z - x) = omega (arith, from) in
          ap (logical_rows program placement course) e
          ∙ logical_rows-stay placement (z - x) (omega (arith, from, below))
