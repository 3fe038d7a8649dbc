-- The rows of the counter with a period of 2 us, counted out, and a sum that wraps.
use Rattle.std.proofs.Common.{◌≡◌, ℕ, ℤ, pos, negsuc, ◌+ℤ◌, List, [], ◌∷◌, Some, None, codes, refl}
use Rattle.std.specs.Int.{int_wrap}
use Rattle.tdl_base.specs.declared.kinds.Kind.TheVariants.{Int}
use Rattle.tdl_base.specs.Numbers.{narrowed, wrapped}
use Rattle.tdl_body.proofs.Equations.{value_of-load}
use Rattle.tdl_mode.specs.declared.program.Program.{Program}
use Rattle.tdl_mode.specs.declared.program.Mode.{Mode}
use Rattle.tdl_mode.specs.States.{State}
use Rattle.tdl_mode.specs.Instants.{logical, begun, state_at}
use Rattle.tdl_trace.specs.Shown.{Shown}
use Rattle.tdl_deploy.specs.Named.{one_node}
use Rattle.tdl_deploy.specs.Rows.{logical_rows}
use Rattle.tdl_deploy.proofs.ExampleCounter.{counting, counter, counter_state, job, all_one, result_of-inc, next_state, first_instant, next_instant}

-- ---- a counter with a period of 2 us

-- what the task adds where 1 is sensed
abbrev plus_one : ℤ → ℤ
plus_one o = narrowed Int (wrapped (o +ℤ pos 1))

-- one mode, without a guard and without a switch
abbrev pub plain_modes : List Mode
plain_modes = counting (codes "main") 2 None [] ∷ []

-- the counter alone
abbrev plain : ℤ → Program
plain initial = record { modules = counter initial plain_modes ∷ [] }

-- its state in the cycle that began at `base`; the sensor shows 1
abbrev plain_at : ℤ → ℕ → ℤ → State
plain_at initial base output = counter_state initial plain_modes 0 base output (Some (job 0 (pos 1))) ∷ []

-- instant 0: the task is invoked
plain_at-0 : (i : ℤ) → state_at (plain i) all_one 0 ≡ plain_at i 0 i
unfolding state_at begun int_wrap
plain_at-0 i = rw value_of-load refl

-- within the first period nothing happens
plain_rests-1 : (i : ℤ) → logical 1 (all_one 1) (plain_at i 0 i) ≡ plain_at i 0 i
unfolding logical
plain_rests-1 i = refl

-- at its end the sum is committed, and the next period begins
plain_turns-2 : (i o : ℤ) → logical 2 (all_one 2) (plain_at i 0 o) ≡ plain_at i 2 (plus_one o)
unfolding logical int_wrap
plain_turns-2 i o = rw (result_of-inc, value_of-load) refl

-- within the second period nothing happens
plain_rests-3 : (i o : ℤ) → logical 3 (all_one 3) (plain_at i 2 o) ≡ plain_at i 2 o
unfolding logical
plain_rests-3 i o = refl

-- the state after instant 1
plain_at-1 : (i : ℤ) → state_at (plain i) all_one 1 ≡ plain_at i 0 i
plain_at-1 i = next_state (plain i) all_one 0 _ _ (plain_at-0 i) (plain_rests-1 i)

-- the state after instant 2
plain_at-2 : (i : ℤ) → state_at (plain i) all_one 2 ≡ plain_at i 2 (plus_one i)
plain_at-2 i = next_state (plain i) all_one 1 _ _ (plain_at-1 i) (plain_turns-2 i i)

-- the state after instant 3
plain_at-3 : (i : ℤ) → state_at (plain i) all_one 3 ≡ plain_at i 2 (plus_one i)
plain_at-3 i = next_state (plain i) all_one 2 _ _ (plain_at-2 i) (plain_rests-3 i (plus_one i))

-- at its end the next sum is committed
plain_turns-4 : (i o : ℤ) → logical 4 (all_one 4) (plain_at i 2 o) ≡ plain_at i 4 (plus_one o)
unfolding logical int_wrap
plain_turns-4 i o = rw (result_of-inc, value_of-load) refl

-- the rows up to a horizon
abbrev plain_rows : ℤ → ℕ → List Shown
plain_rows i horizon = logical_rows (plain i) (one_node (plain i)) all_one horizon

-- up to instant 0 there is the start mode alone
plain_rows-0 : (i : ℤ) → plain_rows i 0 ≡ Shown.Mode 0 0 0 0 ∷ []
plain_rows-0 i = first_instant (plain i) (one_node (plain i)) all_one _ _ (plain_at-0 i) refl

-- up to instant 1 there is no more
plain_rows-1 : (i : ℤ) → plain_rows i 1 ≡ Shown.Mode 0 0 0 0 ∷ []
plain_rows-1 i =
    next_instant (plain i) (one_node (plain i)) all_one 0 _ _ [] (plain_rows-0 i) (plain_at-0 i) (rw plain_rests-1 refl)

-- the first output is shown at the end of the first period
plain_rows-2 : (i : ℤ) → plain_rows i 2 ≡ Shown.Mode 0 0 0 0 ∷ Shown.Port 2 0 0 0 0 (plus_one i) ∷ []
plain_rows-2 i =
    next_instant (plain i) (one_node (plain i)) all_one 1 _ _ (Shown.Port 2 0 0 0 0 (plus_one i) ∷ [])
    (plain_rows-1 i) (plain_at-1 i)
    (rw (plain_turns-2, result_of-inc) refl)

-- a horizon between two ends of a period shows no more
plain_rows-3 : (i : ℤ) → plain_rows i 3 ≡ Shown.Mode 0 0 0 0 ∷ Shown.Port 2 0 0 0 0 (plus_one i) ∷ []
plain_rows-3 i =
    next_instant (plain i) (one_node (plain i)) all_one 2 _ _ [] (plain_rows-2 i) (plain_at-2 i) (rw plain_rests-3 refl)

-- two outputs are shown up to the end of the second period
plain_rows-4 : (i : ℤ) → plain_rows i 4 ≡
    Shown.Mode 0 0 0 0 ∷ Shown.Port 2 0 0 0 0 (plus_one i)
    ∷ Shown.Port 4 0 0 0 0 (plus_one (plus_one i)) ∷ []
plain_rows-4 i =
    next_instant (plain i) (one_node (plain i)) all_one 3 _ _ (Shown.Port 4 0 0 0 0 (plus_one (plus_one i)) ∷ [])
    (plain_rows-3 i) (plain_at-3 i)
    (rw (plain_turns-4, result_of-inc) refl)

-- 10, 11 and 12
counts_on : plain_rows (pos 10) 4 ≡
    Shown.Mode 0 0 0 0 ∷ Shown.Port 2 0 0 0 0 (pos 11) ∷ Shown.Port 4 0 0 0 0 (pos 12) ∷ []
unfolding int_wrap
counts_on = plain_rows-4 (pos 10)

-- the greatest int and 1 make the least
wraps : plain_rows (pos 2147483647) 2 ≡ Shown.Mode 0 0 0 0 ∷ Shown.Port 2 0 0 0 0 (negsuc 2147483647) ∷ []
unfolding int_wrap
wraps = plain_rows-2 (pos 2147483647)
