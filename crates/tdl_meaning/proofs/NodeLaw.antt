-- One node: its instant 0, its turn after delivery, and its microsecond, as the laws say them.
use Rattle.std.proofs.Common.{◌≡◌, ℕ, ◌+◌, Some, subst, arith}
use Rattle.std.specs.Prelude.{slice_get}
use Rattle.tdl_mode.specs.States.{ModuleState}
use Rattle.tdl_verify.specs.States.{NodeNow}
use Rattle.tdl_meaning.proofs.AllParts.{node-at}
use Rattle.tdl_meaning.proofs.ShapesBeforeZero.{first_shapes}
use Rattle.tdl_meaning.proofs.PartsBeforeZero.{NodeAt, nodes_at}
use Rattle.tdl_meaning.proofs.NodesBoot as boot
use Rattle.tdl_meaning.proofs.NodeTurn as turn
use Rattle.tdl_meaning.proofs.NodeMicros as micros
use Rattle.tdl_meaning.specs.Accepted.{Accepted}
use Rattle.tdl_meaning.specs.AllItems.{Every}
use Rattle.tdl_meaning.specs.Conditions.{Conditions, Losses, Gone}
use Rattle.tdl_meaning.specs.NodeShape.{NodeShape}
use Rattle.tdl_meaning.specs.OneNode.{FirstDone, TurnDone, MicroDone}
use Rattle.tdl_meaning.specs.PartFacts.{PartLanded, PartAfterTurn}
use Rattle.tdl_meaning.specs.SystemStands.{first_nodes}

-- instant 0 of each node of the compiler's bundle ends
pub node_begins : (given : Accepted) (run : Conditions given) (j : ℕ) (n : NodeNow) →
    slice_get (first_nodes given) j ≡ Some n → FirstDone given j (run.course 0) run.times n
node_begins given run j n at =
    let z : 0 + j ≡ j = omega arith in
    let shape : NodeShape given j n = subst (λ k. NodeShape given k n) z
    (node-at (NodeShape given) 0 (first_nodes given) (first_shapes given 0 given.placement.nodes) j n at) in
    let first : NodeAt given j n = subst (λ k. NodeAt given k n) z
    (node-at (NodeAt given) 0 (first_nodes given) (nodes_at given 0 given.placement.nodes) j n at) in
    boot.first_done given (run.course 0) run.times run.within j n shape first

-- the turn of a node ends, its parts being after delivery
pub node_turns : (given : Accepted) (run : Conditions given) (losses : Losses) (x j : ℕ)
    (logic : ℕ → ModuleState) (n : NodeNow) → NodeShape given j n →
    Every (PartLanded given (Gone losses) x logic) n.parts → TurnDone given x j (run.course x) run.times logic n
node_turns given run losses x j logic n =
    turn.node_done given x (run.course x) run.times run.within logic (Gone losses) j n

-- its microsecond ends, its parts being after the turn
pub node_walks : (given : Accepted) (losses : Losses) (x j : ℕ) (logic : ℕ → ModuleState) (n : NodeNow) →
    NodeShape given j n → Every (PartAfterTurn given (Gone losses) x logic) n.parts → MicroDone given x j logic n
node_walks given losses x j logic n = micros.micro_done given (Gone losses) x logic j n
