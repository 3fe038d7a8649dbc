-- From x up to the next event nothing changes, and no rows are shown.
use Rattle.std.proofs.Common.{◌≡◌, ℕ, suc, ◌<◌, ◌≤◌, ℤ, List, [], ◌∷◌, ◌++◌, map, Bool, true, false, Some, refl, ap, ap₂, ◌∙◌, arith}
use Rattle.std.specs.Prelude.{slice_get, option_map, if◌then◌else◌}
use Rattle.std.specs.Option.{option_to_list}
use Rattle.tdl_base.specs.Sensed.{Sensed}
use Rattle.tdl_base.specs.declared.numbers.PortKey.{PortKey}
use Rattle.tdl_base.proofs.Tests.{eq_self}
use Rattle.tdl_body.specs.Values.{Look}
use Rattle.tdl_mode.specs.declared.program.Program.{Program}
use Rattle.tdl_mode.specs.States.{ModuleState, State, outputs_in}
use Rattle.tdl_mode.specs.Phases.{task_after, phase_one}
use Rattle.tdl_mode.specs.Instants.{look_in, alone, logical}
use Rattle.tdl_mode.specs.Laws.{AtNoOffset}
use Rattle.tdl_mode.proofs.ModuleByModule.{logical-alone}
use Rattle.tdl_mode.proofs.Resting.{alone_idle, not_ended, not_updated, phase_one-idle}
use Rattle.tdl_trace.specs.Shown.{Shown}
use Rattle.tdl_deploy.specs.declared.placement.Placement.{Placement}
use Rattle.tdl_deploy.specs.Placed.{hosts, sees}
use Rattle.tdl_deploy.specs.Rows.{committed_outputs, task_port_rows, module_port_rows, port_rows, actuator_row, module_act_rows, act_rows, module_mode_rows, mode_rows_from, mode_rows, node_rows}
use Rattle.tdl_quiet.specs.Standing.{AllStand}
use Rattle.tdl_quiet.specs.Events.{next_of, next_event}
use Rattle.tdl_quiet.proofs.Places.{numbered-rests, map-rests, joined-none}
use Rattle.tdl_quiet.proofs.NextCalls.{between}
use Rattle.tdl_quiet.proofs.NextEvents.{next_event-within}

-- a node shows no mode where the states are the same
mode_rows-same : (placement : Placement) (node x k : ℕ) (state : State) →
    mode_rows_from placement node x k state state ≡ []
mode_rows-same placement node x k [] = refl
mode_rows-same placement node x k (r ∷ more) =
    ap₂ (λ rows rest. rows ++ rest) (by_host (hosts placement node k)) (mode_rows-same placement node x (suc k) more)
  where
    by_host : (b : Bool) → (if b then module_mode_rows x node k r r else []) ≡ []
    by_host true = ap (λ t. if t then [] else Shown.Mode x node k r.mode ∷ []) (eq_self r.mode)
    by_host false = refl

-- all modules of the state stand at x, and y is an instant before the next event
module _ (state : State) (x y : ℕ) (stand : AllStand x state) (above : x < y) (below : y < next_event state x) where
  -- no module is at an offset of its mode
  off : (k : ℕ) (m : ModuleState) → slice_get state k ≡ Some m → AtNoOffset y m
  off k m at = between x m (stand k m at) y above (sooner (next_event-within state x k m at))
    where
      sooner : next_event state x ≤ next_of m x → y < next_of m x
      sooner le = omega (arith, le, below)

  -- so an instant there leaves the state
  pub logical-rests : (sensed : Sensed) → logical y sensed state ≡ state
  logical-rests sensed =
      let seen : PortKey → ℤ = outputs_in (map (phase_one y) state) in
      logical-alone y sensed state
      ∙ numbered-rests (λ k m. alone k y sensed seen m) 0 state
      (λ k n m at. let o = off n m at in alone_idle y o.offset o.mode m o.now o.at o.none k sensed seen)

  -- and so do its terminations
  phase_one-rests : map (phase_one y) state ≡ state
  phase_one-rests =
      map-rests (phase_one y) state
      (λ n m at. let o = off n m at in phase_one-idle y o.offset o.mode m o.now o.at o.none)

  -- no output is shown
  port_rows-none : (program : Program) (placement : Placement) (node : ℕ) →
      port_rows program placement node y state ≡ []
  port_rows-none program placement node =
      joined-none (module_port_rows program placement node y) 0 state
      (λ k n m at. let o = off n m at in
      joined-none (task_port_rows program placement node y k m) 0 m.tasks
      (λ t i u there. ap (λ b. if b then (if sees program placement node k u.definition
      then committed_outputs y node k t (task_after m y u) else []) else [])
      (not_ended y o.offset o.mode m o.now o.at o.none u)))

  -- no actuator is shown
  act_rows-none : (placement : Placement) (node : ℕ) (sensed : Sensed) →
      act_rows placement node y sensed (map (phase_one y) state) ≡ []
  act_rows-none placement node sensed =
      ap (act_rows placement node y sensed) phase_one-rests
      ∙ joined-none (λ k m. if hosts placement node k then rows_of k m else []) 0 state
      (λ k n m at. by_host k n m at (hosts placement node k))
    where
      rows_of : ℕ → ModuleState → List Shown
      rows_of k m = module_act_rows y node k m (look_in state sensed k m)

      by_host : (k n : ℕ) (m : ModuleState) → slice_get state n ≡ Some m → (b : Bool) →
          (if b then rows_of k m else []) ≡ []
      by_host k n m at true =
          let look : Look = look_in state sensed k m in
          let o = off n m at in
          joined-none (actuator_row y node k m look) 0 m.actuators
          (λ a i v there. ap (λ r. option_to_list (option_map (λ v. Shown.Act y node k a v) r))
          (not_updated y o.offset o.mode m o.now o.at o.none look a))
      by_host k n m at false = refl

  -- so no node shows anything
  pub node_rows-none : (program : Program) (placement : Placement) (node : ℕ) (sensed : Sensed) →
      node_rows program placement y sensed state node ≡ []
  node_rows-none program placement node sensed =
      ap₂ (λ ports acts. ports ++ acts ++ mode_rows placement node y state (logical y sensed state))
      (port_rows-none program placement node) (act_rows-none placement node sensed)
      ∙ ap (mode_rows placement node y state) (logical-rests sensed)
      ∙ mode_rows-same placement node y 0 state
