-- The rows of the counter with a guard, where it holds and where it does not.
use Rattle.std.proofs.Common.{◌≡◌, ℕ, ℤ, pos, List, [], ◌∷◌, Option, Some, None, codes, refl}
use Rattle.std.specs.Int.{int_wrap}
use Rattle.tdl_body.proofs.Equations.{value_of-load}
use Rattle.tdl_mode.specs.declared.program.Program.{Program}
use Rattle.tdl_mode.specs.declared.program.Mode.{Mode}
use Rattle.tdl_base.specs.Sensed.{Course}
use Rattle.tdl_mode.specs.States.{Job, State}
use Rattle.tdl_mode.specs.Instants.{logical, begun, state_at}
use Rattle.tdl_trace.specs.Shown.{Shown}
use Rattle.tdl_deploy.specs.Named.{one_node}
use Rattle.tdl_deploy.specs.Rows.{logical_rows}
use Rattle.tdl_deploy.proofs.ExampleCounter.{counting, counter, counter_state, job, all_one, result_of-inc, over_one, value_of-over_one, next_state, first_instant, next_instant}

-- ---- a guard: the task is invoked where the sensor shows more than 1

-- one mode, with the guard
abbrev guarded_modes : List Mode
guarded_modes = counting (codes "main") 2 (Some over_one) [] ∷ []

-- the counter alone, with the guard
abbrev guarded : Program
guarded = record { modules = counter (pos 10) guarded_modes ∷ [] }

-- its state in the cycle that began at `base`
abbrev guarded_at : ℕ → ℤ → Option Job → State
guarded_at base output active = counter_state (pos 10) guarded_modes 0 base output active ∷ []

-- at instant 0 the guard fails: no job is active
guarded_at-0 : state_at guarded all_one 0 ≡ guarded_at 0 (pos 10) None
unfolding state_at begun int_wrap
guarded_at-0 = rw value_of-over_one refl

-- within the first period nothing happens
guarded_rests-1 : logical 1 (all_one 1) (guarded_at 0 (pos 10) None) ≡ guarded_at 0 (pos 10) None
unfolding logical
guarded_rests-1 = refl

-- at its end there is no job, and the guard fails again
guarded_turns-2 : logical 2 (all_one 2) (guarded_at 0 (pos 10) None) ≡ guarded_at 2 (pos 10) None
unfolding logical int_wrap
guarded_turns-2 = rw value_of-over_one refl

-- within the second period nothing happens
guarded_rests-3 : logical 3 (all_one 3) (guarded_at 2 (pos 10) None) ≡ guarded_at 2 (pos 10) None
unfolding logical
guarded_rests-3 = refl

-- its end is like that of the first
guarded_turns-4 : logical 4 (all_one 4) (guarded_at 2 (pos 10) None) ≡ guarded_at 4 (pos 10) None
unfolding logical int_wrap
guarded_turns-4 = rw value_of-over_one refl

-- the state after instant 1
guarded_at-1 : state_at guarded all_one 1 ≡ guarded_at 0 (pos 10) None
guarded_at-1 = next_state guarded all_one 0 _ _ guarded_at-0 guarded_rests-1

-- the state after instant 2
guarded_at-2 : state_at guarded all_one 2 ≡ guarded_at 2 (pos 10) None
guarded_at-2 = next_state guarded all_one 1 _ _ guarded_at-1 guarded_turns-2

-- the state after instant 3
guarded_at-3 : state_at guarded all_one 3 ≡ guarded_at 2 (pos 10) None
guarded_at-3 = next_state guarded all_one 2 _ _ guarded_at-2 guarded_rests-3

-- the output stays
guarded_at-4 : state_at guarded all_one 4 ≡ guarded_at 4 (pos 10) None
guarded_at-4 = next_state guarded all_one 3 _ _ guarded_at-3 guarded_turns-4

-- the rows up to a horizon
abbrev guarded_rows : Course → ℕ → List Shown
guarded_rows course horizon = logical_rows guarded (one_node guarded) course horizon

-- up to instant 0 there is the start mode alone
guarded_rows-0 : guarded_rows all_one 0 ≡ Shown.Mode 0 0 0 0 ∷ []
guarded_rows-0 = first_instant guarded (one_node guarded) all_one _ _ guarded_at-0 refl

-- and up to instant 1
guarded_rows-1 : guarded_rows all_one 1 ≡ Shown.Mode 0 0 0 0 ∷ []
guarded_rows-1 =
    next_instant guarded (one_node guarded) all_one 0 _ _ [] guarded_rows-0 guarded_at-0 (rw guarded_rests-1 refl)

-- and up to instant 2
guarded_rows-2 : guarded_rows all_one 2 ≡ Shown.Mode 0 0 0 0 ∷ []
guarded_rows-2 =
    next_instant guarded (one_node guarded) all_one 1 _ _ [] guarded_rows-1 guarded_at-1 (rw guarded_turns-2 refl)

-- and up to instant 3
guarded_rows-3 : guarded_rows all_one 3 ≡ Shown.Mode 0 0 0 0 ∷ []
guarded_rows-3 =
    next_instant guarded (one_node guarded) all_one 2 _ _ [] guarded_rows-2 guarded_at-2 (rw guarded_rests-3 refl)

-- where the sensor shows 1, no output is shown
not_invoked : guarded_rows all_one 4 ≡ Shown.Mode 0 0 0 0 ∷ []
not_invoked =
    next_instant guarded (one_node guarded) all_one 3 _ _ [] guarded_rows-3 guarded_at-3 (rw guarded_turns-4 refl)

-- all sensors show 2 at all instants
abbrev all_two : Course
all_two x m i = pos 2

-- at instant 0 the guard holds: the job copies 2
invoked_at-0 : state_at guarded all_two 0 ≡ guarded_at 0 (pos 10) (Some (job 0 (pos 2)))
unfolding state_at begun int_wrap
invoked_at-0 = rw (value_of-over_one, value_of-load) refl

-- within the first period nothing happens
invoked_rests-1 : logical 1 (all_two 1) (guarded_at 0 (pos 10) (Some (job 0 (pos 2)))) ≡
    guarded_at 0 (pos 10) (Some (job 0 (pos 2)))
unfolding logical
invoked_rests-1 = refl

-- at its end the sum is committed, and the guard holds again
invoked_turns-2 : logical 2 (all_two 2) (guarded_at 0 (pos 10) (Some (job 0 (pos 2)))) ≡
    guarded_at 2 (pos 12) (Some (job 0 (pos 2)))
unfolding logical int_wrap
invoked_turns-2 = rw (result_of-inc, value_of-over_one, value_of-load) refl

-- the state after instant 1
invoked_at-1 : state_at guarded all_two 1 ≡ guarded_at 0 (pos 10) (Some (job 0 (pos 2)))
invoked_at-1 = next_state guarded all_two 0 _ _ invoked_at-0 invoked_rests-1

-- where the sensor shows 2, it is
invoked : guarded_rows all_two 2 ≡ Shown.Mode 0 0 0 0 ∷ Shown.Port 2 0 0 0 0 (pos 12) ∷ []
unfolding int_wrap
invoked =
    next_instant guarded (one_node guarded) all_two 1 _ _ (Shown.Port 2 0 0 0 0 (pos 12) ∷ [])
    (next_instant guarded (one_node guarded) all_two 0 _ _ []
    (first_instant guarded (one_node guarded) all_two _ _ invoked_at-0 refl) invoked_at-0 (rw invoked_rests-1 refl))
    invoked_at-1 (rw (invoked_turns-2, result_of-inc) refl)
