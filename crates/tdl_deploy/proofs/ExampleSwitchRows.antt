-- The rows of the counter with a mode switch, and with three switches at one offset.
use Rattle.std.proofs.Common.{◌≡◌, ℕ, ℤ, pos, List, [], ◌∷◌, Option, Some, None, codes, refl}
use Rattle.std.specs.Int.{int_wrap}
use Rattle.tdl_body.specs.declared.tree.Expr.{Expr}
use Rattle.tdl_body.proofs.Equations.{value_of-load}
use Rattle.tdl_mode.specs.declared.program.Program.{Program}
use Rattle.tdl_mode.specs.declared.program.Mode.{Mode}
use Rattle.tdl_mode.specs.declared.program.Switch.{Switch}
use Rattle.tdl_mode.specs.States.{State}
use Rattle.tdl_mode.specs.Instants.{logical, begun, state_at}
use Rattle.tdl_trace.specs.Shown.{Shown}
use Rattle.tdl_deploy.specs.Named.{one_node}
use Rattle.tdl_deploy.specs.Rows.{logical_rows}
use Rattle.tdl_deploy.proofs.ExampleCounter.{counting, counter, counter_state, job, all_one, result_of-inc, over_one, value_of-over_one, next_state, first_instant, next_instant}

-- ---- a mode switch

-- at 2 us, to a mode
abbrev to_mode : ℕ → Option Expr → Switch
to_mode target guard = record { act = 1; at = record { 0 = 2 }; target = record { 0 = target }; guard = guard }

-- `main` with a period of 2 us and the switch at its end, and `fast` with a period of 1 us
abbrev switching_modes : List Mode
switching_modes = counting (codes "main") 2 None (to_mode 1 None ∷ []) ∷ counting (codes "fast") 1 None [] ∷ []

-- the counter alone, with the two modes
abbrev switching : Program
switching = record { modules = counter (pos 10) switching_modes ∷ [] }

-- its state in the cycle of a mode that began at `base`; the sensor shows 1
abbrev switching_at : ℕ → ℕ → ℤ → State
switching_at mode base output = counter_state (pos 10) switching_modes mode base output (Some (job mode (pos 1))) ∷ []

-- instant 0: the task is invoked in the start mode
switching_at-0 : state_at switching all_one 0 ≡ switching_at 0 0 (pos 10)
unfolding state_at begun int_wrap
switching_at-0 = rw value_of-load refl

-- within the first period nothing happens
switching_rests-1 : logical 1 (all_one 1) (switching_at 0 0 (pos 10)) ≡ switching_at 0 0 (pos 10)
unfolding logical
switching_rests-1 = refl

-- at its end the sum is committed, the mode is `fast`, and a cycle of it begins
switching_turns-2 : logical 2 (all_one 2) (switching_at 0 0 (pos 10)) ≡ switching_at 1 2 (pos 11)
unfolding logical int_wrap
switching_turns-2 = rw (result_of-inc, value_of-load) refl

-- a cycle of `fast` ends after 1 us
switching_turns-3 : logical 3 (all_one 3) (switching_at 1 2 (pos 11)) ≡ switching_at 1 3 (pos 12)
unfolding logical int_wrap
switching_turns-3 = rw (result_of-inc, value_of-load) refl

-- the state after instant 1
switching_at-1 : state_at switching all_one 1 ≡ switching_at 0 0 (pos 10)
switching_at-1 = next_state switching all_one 0 _ _ switching_at-0 switching_rests-1

-- the output is kept, and the new mode's invocation begins at the switch
switching_at-2 : state_at switching all_one 2 ≡ switching_at 1 2 (pos 11)
switching_at-2 = next_state switching all_one 1 _ _ switching_at-1 switching_turns-2

-- the rows up to a horizon
abbrev switching_rows : ℕ → List Shown
switching_rows horizon = logical_rows switching (one_node switching) all_one horizon

-- up to instant 0 there is the start mode alone
switching_rows-0 : switching_rows 0 ≡ Shown.Mode 0 0 0 0 ∷ []
switching_rows-0 = first_instant switching (one_node switching) all_one _ _ switching_at-0 refl

-- and up to instant 1
switching_rows-1 : switching_rows 1 ≡ Shown.Mode 0 0 0 0 ∷ []
switching_rows-1 =
    next_instant switching (one_node switching) all_one 0 _ _ [] switching_rows-0 switching_at-0
    (rw switching_rests-1 refl)

-- the job ends before the mode is left
switching_rows-2 : switching_rows 2 ≡
    Shown.Mode 0 0 0 0 ∷ Shown.Port 2 0 0 0 0 (pos 11) ∷ Shown.Mode 2 0 0 1 ∷ []
unfolding int_wrap
switching_rows-2 =
    next_instant switching (one_node switching) all_one 1 _ _
    (Shown.Port 2 0 0 0 0 (pos 11) ∷ Shown.Mode 2 0 0 1 ∷ []) switching_rows-1 switching_at-1
    (rw (switching_turns-2, result_of-inc) refl)

-- the next job ends after the new mode's period of 1 us
switches : switching_rows 3 ≡
    Shown.Mode 0 0 0 0 ∷ Shown.Port 2 0 0 0 0 (pos 11) ∷ Shown.Mode 2 0 0 1
    ∷ Shown.Port 3 0 0 0 0 (pos 12) ∷ []
unfolding int_wrap
switches =
    next_instant switching (one_node switching) all_one 2 _ _
    (Shown.Port 3 0 0 0 0 (pos 12) ∷ []) switching_rows-2 switching_at-2
    (rw (switching_turns-3, result_of-inc) refl)

-- ---- three switches at one offset

-- the first is guarded by s > 1, and the others have no guard
abbrev choosing_modes : List Mode
choosing_modes =
    counting (codes "main") 2 None (to_mode 1 (Some over_one) ∷ to_mode 2 None ∷ to_mode 1 None ∷ [])
    ∷ counting (codes "fast") 1 None []
    ∷ counting (codes "slow") 2 None []
    ∷ []

-- the counter alone, with the three modes
abbrev choosing : Program
choosing = record { modules = counter (pos 10) choosing_modes ∷ [] }

-- its state in the cycle of a mode that began at `base`; the sensor shows 1
abbrev choosing_at : ℕ → ℕ → ℤ → State
choosing_at mode base output = counter_state (pos 10) choosing_modes mode base output (Some (job mode (pos 1))) ∷ []

-- instant 0: the task is invoked in the start mode
choosing_at-0 : state_at choosing all_one 0 ≡ choosing_at 0 0 (pos 10)
unfolding state_at begun int_wrap
choosing_at-0 = rw value_of-load refl

-- within the first period nothing happens
choosing_rests-1 : logical 1 (all_one 1) (choosing_at 0 0 (pos 10)) ≡ choosing_at 0 0 (pos 10)
unfolding logical
choosing_rests-1 = refl

-- at its end the first guard fails, and the first of the others is taken
choosing_turns-2 : logical 2 (all_one 2) (choosing_at 0 0 (pos 10)) ≡ choosing_at 2 2 (pos 11)
unfolding logical int_wrap
choosing_turns-2 = simp (result_of-inc, value_of-over_one, value_of-load)

-- the state after instant 1
choosing_at-1 : state_at choosing all_one 1 ≡ choosing_at 0 0 (pos 10)
choosing_at-1 = next_state choosing all_one 0 _ _ choosing_at-0 choosing_rests-1

-- the mode that is entered is `slow`
chooses : logical_rows choosing (one_node choosing) all_one 2 ≡
    Shown.Mode 0 0 0 0 ∷ Shown.Port 2 0 0 0 0 (pos 11) ∷ Shown.Mode 2 0 0 2 ∷ []
unfolding int_wrap
chooses =
    next_instant choosing (one_node choosing) all_one 1 _ _
    (Shown.Port 2 0 0 0 0 (pos 11) ∷ Shown.Mode 2 0 0 2 ∷ [])
    (next_instant choosing (one_node choosing) all_one 0 _ _ []
    (first_instant choosing (one_node choosing) all_one _ _ choosing_at-0 refl)
    choosing_at-0 (rw choosing_rests-1 refl))
    choosing_at-1 (rw (choosing_turns-2, result_of-inc) refl)
