-- Steps of a turn, one after the other: from where to where, in how many instructions, and with which plain rows.
use Rattle.std.specs.Prelude.{◌≡◌, ℕ, ◌+◌, ◌≤◌, List, [], ◌++◌, filter, option_map, unwrap_or, slice_get}
use Rattle.tdl_trace.specs.Shown.{Shown}
use Rattle.tdl_base.specs.Sensed.{Sensed}
use Rattle.tdl_verify.specs.States.{Part, Times}
use Rattle.tdl_verify.specs.Turns.{Due, Spot, Turned, turn, due_block_number}
use Rattle.tdl_verify.specs.Runs.{is_plain}

-- at most so many instructions lead from one spot and its parts to another, and show these plain rows
pub record Leads (x node : ℕ) (sensed : Sensed) (times : Times) (most : ℕ) (spot : Spot) (parts : List Part)
    (spot' : Spot) (parts' : List Part) (plain : List Shown) : Type 0 where
  pub count : ℕ
  pub within : count ≤ most
  pub new : List Shown
  pub shown : filter is_plain new ≡ plain
  pub goes : (k : ℕ) (rows : List Shown) →
      turn (k + count) x node sensed times spot parts rows ≡ turn k x node sensed times spot' parts' (rows ++ new)

-- the beginning of the block of a due trigger
abbrev pub block_spot : Due → List Part → Spot
block_spot d parts = Spot.In d.part (unwrap_or (option_map (due_block_number d) (slice_get parts d.part)) 0) 0

-- a turn within the declared number of instructions finishes with these parts and plain rows
pub record Finishes (x node : ℕ) (sensed : Sensed) (times : Times) (declared : ℕ) (parts parts' : List Part)
    (plain : List Shown) : Type 0 where
  pub rows : List Shown
  pub is : turn declared x node sensed times Spot.Between parts [] ≡ Turned.Finished parts' rows
  pub shown : filter is_plain rows ≡ plain
