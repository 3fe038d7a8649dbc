-- The whole system: what stands before and after an instant, the step from one to the next, and instant 0.
use Rattle.std.specs.Prelude.{◌≡◌, ℕ, suc, ℤ, pos, List, [], ◌∷◌, ◌++◌, map, filter, length, Option, Some, slice_get, if◌then◌else◌}
use Rattle.tdl_base.specs.Lists.{numbered, Zip}
use Rattle.tdl_base.specs.declared.numbers.PortKey.{PortKey}
use Rattle.tdl_mode.specs.declared.program.Module.{Module}
use Rattle.tdl_base.specs.Sensed.{Sensed}
use Rattle.tdl_mode.specs.States.{ModuleState}
use Rattle.tdl_deploy.specs.Placed.{hosts}
use Rattle.tdl_trace.specs.Shown.{Shown}
use Rattle.tdl_image.specs.declared.bundle.Bundle.{Bundle}
use Rattle.tdl_verify.specs.States.{Part, NodeNow, node_first, all_parts}
use Rattle.tdl_verify.specs.Bus.{Flight}
use Rattle.tdl_verify.specs.Runs.{System, Now, Run, landed, next_instant, run_to, is_plain}
use Rattle.tdl_gen.specs.Realises.{image_of, bundle_of}
use Rattle.tdl_meaning.specs.Accepted.{Accepted}
use Rattle.tdl_meaning.specs.BusFrames.{BusFacts}
use Rattle.tdl_meaning.specs.Conditions.{Conditions, Losses, Gone, Takes}
use Rattle.tdl_meaning.specs.NodeShape.{Shapes}
use Rattle.tdl_meaning.specs.OneNode.{node_sees, first_sees, logic_after, state_first, Stepped, Walks, node_shows}
use Rattle.tdl_meaning.specs.PartFacts.{Parts, PartBefore, PartAfterTurn, PartLanded}

module _ (given : Accepted) where
  -- the nodes of the compiler's bundle before instant 0
  abbrev pub first_nodes : List NodeNow
  first_nodes =
      map node_first (numbered 0 (image_of given.program given.placement given.schedule) given.placement.nodes)

  -- what module kk sees, by what a node of these parts sees: what the first node does that hosts it, the first of all
  -- having number k
  abbrev pub seen_at : (List Part → PortKey → ℤ) → ℕ → List NodeNow → ℕ → PortKey → ℤ
  seen_at sees k [] kk = λ key. pos 0
  seen_at sees k (n ∷ more) kk = if hosts given.placement k kk then sees n.parts else seen_at sees (suc k) more kk

  -- the plain rows of all nodes at x, the first having number k
  abbrev pub all_show : ℕ → Sensed → (ℕ → ModuleState) → ℕ → List NodeNow → List Shown
  all_show x sensed logic k [] = []
  all_show x sensed logic k (n ∷ more) =
      node_shows given x k sensed (node_sees x logic n.parts) logic n.parts ++ all_show x sensed logic (suc k) more

  module _ (gone : ℕ → ℕ → Type 0) where
    -- what is known of a system before instant x, whose modules are in these states
    pub record StandsBefore (x : ℕ) (logic : ℕ → ModuleState) (s : System) : Type 0 where
      pub parts : Parts given (PartBefore given gone x logic) (all_parts s.nodes)
      pub bus : BusFacts given x logic s.flight

    -- what is known of a system after instant x, whose modules are in these states: the nodes, their parts, the bus
    pub record Stands (x : ℕ) (logic : ℕ → ModuleState) (s : System) : Type 0 where
      pub shapes : Shapes given 0 s.nodes
      pub size : length s.nodes ≡ length given.placement.nodes
      pub parts : Parts given (PartAfterTurn given gone x logic) (all_parts s.nodes)
      pub bus : BusFacts given (suc x) logic s.flight

    -- a run that is alive after instant x, in a system that stands and of which Also holds
    pub record Along (Also : ℕ → (ℕ → ModuleState) → System → Type 0) (x : ℕ) (ran : Run) : Type 0 where
      pub sys : System
      pub logic : ℕ → ModuleState
      pub is : ran.now ≡ Now.Alive sys
      pub stands : Stands x logic sys
      pub also : Also x logic sys

  module _ (run : Conditions given) (losses : Losses) where
    -- what each module sees at suc x, these being the nodes and the flight after the microsecond
    abbrev pub seen_next : ℕ → (ℕ → ModuleState) → List NodeNow → Option Flight → ℕ → PortKey → ℤ
    seen_next x logic nodes flight = seen_at (node_sees (suc x) logic) 0 (landed (suc x) losses.lost nodes flight)

    -- the modules' states after suc x
    abbrev pub logic_next : ℕ → (ℕ → ModuleState) → List NodeNow → Option Flight → ℕ → ModuleState
    logic_next x logic nodes flight =
        logic_after (suc x) (run.course (suc x)) (seen_next x logic nodes flight) logic

    -- the run of suc x, from a system after instant x
    abbrev pub run_next : ℕ → System → Run
    run_next x = next_instant run.horizon x (run.course (suc x)) run.times losses.lost

    -- the step of a system from after instant x to after suc x: it is alive, and stands again
    pub record Step (x : ℕ) (logic : ℕ → ModuleState) (s : System) : Type 0 where
      -- the nodes after the microsecond, and their parts before the next instant
      pub nodes : List NodeNow
      pub walked : Zip (Walks given x logic) (all_parts s.nodes) (all_parts nodes)
      pub before : Parts given (PartBefore given (Gone losses) (suc x) logic) (all_parts nodes)
      -- the nodes after delivery
      pub shapes : Shapes given 0 (landed (suc x) losses.lost nodes s.flight)
      pub size : length (landed (suc x) losses.lost nodes s.flight) ≡ length given.placement.nodes
      pub lands : (n : ℕ) (q : Part) → slice_get (all_parts (landed (suc x) losses.lost nodes s.flight)) n ≡ Some q →
          PartLanded given (Gone losses) (suc x) logic q
      -- the system after the turns and the bus
      pub after : System
      pub is : (run_next x s).now ≡ Now.Alive after
      pub stepped : Zip (Stepped given (suc x) (run.course (suc x)) (seen_next x logic nodes s.flight) logic)
          (all_parts (landed (suc x) losses.lost nodes s.flight)) (all_parts after.nodes)
      pub stands : Stands (Gone losses) (suc x) (logic_next x logic nodes s.flight) after
      -- the plain rows are those of the turns
      pub shown : filter is_plain (run_next x s).rows
          ≡ all_show (suc x) (run.course (suc x)) logic 0 (landed (suc x) losses.lost nodes s.flight)

    -- in each system that a bundle's run comes to, the commit of a frame that is lost is gone
    abbrev pub TakesAlong : Bundle → Type 0
    TakesAlong b = (x : ℕ) (logic : ℕ → ModuleState) (s : System) →
        (run_to b run.horizon run.course run.times losses.lost x).now ≡ Now.Alive s → Stands (Gone losses) x logic s →
        Takes given losses (suc x) logic s.flight

    -- what each module sees at instant 0
    abbrev pub seen_first : ℕ → PortKey → ℤ
    seen_first = seen_at first_sees 0 first_nodes

    -- after instant 0 the run of the compiler's bundle is alive, in a system that stands in the modules' first states
    pub record Begun : Type 0 where
      pub sys : System
      pub logic : ℕ → ModuleState
      pub is : (run_to (bundle_of given.program given.placement given.schedule) run.horizon run.course run.times
          losses.lost 0).now ≡ Now.Alive sys
      pub stands : Stands (Gone losses) 0 logic sys
      pub states : (kk : ℕ) (m : Module) → slice_get given.program.modules kk ≡ Some m →
          logic kk ≡ state_first kk (run.course 0) (seen_first kk) m
