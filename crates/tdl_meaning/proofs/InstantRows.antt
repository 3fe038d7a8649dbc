-- The rows of the turns of an instant above 0, in the run without losses, are the logical ones.
use Rattle.std.proofs.Common.{◌≡◌, ℕ, suc, ◌+◌, List, [], ◌∷◌, ◌++◌, length, Some, refl, ap₂, subst, arith}
use Rattle.std.specs.Prelude.{slice_get}
use Rattle.tdl_base.specs.Lists.{joined, numbered}
use Rattle.tdl_mode.specs.States.{ModuleState}
use Rattle.tdl_mode.specs.Instants.{state_at}
use Rattle.tdl_deploy.specs.declared.placement.PlacedNode.{PlacedNode}
use Rattle.tdl_deploy.specs.Rows.{node_rows, rows_at}
use Rattle.tdl_trace.specs.Shown.{Shown}
use Rattle.tdl_verify.specs.States.{Part, NodeNow}
use Rattle.tdl_verify.specs.Runs.{System}
use Rattle.tdl_verify.proofs.NodeSends.{all_parts}
use Rattle.tdl_meaning.proofs.Delivered.{in-node}
use Rattle.tdl_meaning.specs.OneNode.{node_shows, node_sees}
use Rattle.tdl_meaning.specs.SystemStands.{all_show}
use Rattle.tdl_meaning.proofs.SeenAfterEnds.{not_gone, LossFree, here, sees_right}
use Rattle.tdl_meaning.specs.WithoutLosses.{Agree, InSteps}
use Rattle.tdl_mode.proofs.StateLength.{state_size}
use Rattle.tdl_meaning.proofs.NodeRows.{node_shows-are}
use Rattle.tdl_meaning.specs.Accepted.{Accepted}
use Rattle.tdl_meaning.specs.NodeShape.{NodeShape, Shapes}
use Rattle.tdl_meaning.specs.PartFacts.{PartLanded}
use Rattle.tdl_meaning.specs.Conditions.{Conditions, Losses, Gone, NoneGone}

module _ (given : Accepted) (run : Conditions given) (losses : Losses) (safe : NoneGone losses) (x : ℕ)
    (logic : ℕ → ModuleState) where
  -- the rows of node j at suc x
  abbrev shows : ℕ → NodeNow → List Shown
  shows j n = node_shows given (suc x) j (run.course (suc x)) (node_sees (suc x) logic n.parts) logic n.parts

  -- where each node shows its rows, all nodes show those of all, the first having number k
  shows-all : (rows : ℕ → List Shown) (k : ℕ) (nodes : List NodeNow) → Shapes given k nodes →
      (ns : List PlacedNode) → length nodes ≡ length ns →
      ((j : ℕ) (n : NodeNow) → slice_get nodes j ≡ Some n → NodeShape given (k + j) n →
      shows (k + j) n ≡ rows (k + j)) →
      all_show given (suc x) (run.course (suc x)) logic k nodes ≡ joined (numbered k (λ node n. rows node) ns)
  shows-all rows k [] gs [] size each = refl
  shows-all rows k [] gs (d ∷ ns) size each = absurd (omega (arith, size))
  shows-all rows k (n ∷ more) gs [] size each = absurd (omega (arith, size))
  shows-all rows k (n ∷ more) gs (d ∷ ns) size each =
      let z : k + 0 ≡ k = omega arith in
      ap₂ (λ a b. a ++ b) (subst (λ c. NodeShape given c n → shows c n ≡ rows c) z (each 0 n refl) gs.0)
      (shows-all rows (suc k) more gs.1 ns (omega (arith, size)) (λ j m at.
      let s : k + suc j ≡ suc k + j = omega arith in
      subst (λ c. NodeShape given c m → shows c m ≡ rows c) s (each (suc j) m at)))

  module _ (s : System) (st : LossFree given run losses safe x logic s)
      (agree : Agree given run x logic) (stubs : InSteps logic (all_parts st.nodes)) where
    -- what the program says node j shows
    abbrev rows_of_node : ℕ → List Shown
    rows_of_node =
        node_rows given.program given.placement (suc x) (run.course (suc x)) (state_at given.program run.course x)

    -- each node shows it
    each_right : (j : ℕ) (n : NodeNow) → slice_get (here given run losses safe x logic s st) j ≡ Some n →
        NodeShape given j n → shows j n ≡ rows_of_node j
    each_right j n at g =
        node_shows-are given (Gone losses) (suc x) (run.course (suc x)) run.times run.within logic
        (all_parts st.nodes) st.before (λ kk. not_gone given run losses safe kk (suc x))
        (state_at given.program run.course x) (state_size given.program run.course x) agree j n g
        (sees_right given run losses safe x logic s st agree stubs j n at)
        (λ i q t there. in-node (PartLanded given (Gone losses) (suc x) logic)
        (here given run losses safe x logic s st) st.lands j n at i (Part.Outside q t) there)

    -- so the rows of the turns at suc x are the logical ones
    pub nodes_right : all_show given (suc x) (run.course (suc x)) logic 0
        (here given run losses safe x logic s st)
        ≡ rows_at given.program given.placement run.course (suc x)
    unfolding rows_at
    nodes_right =
        shows-all rows_of_node 0 (here given run losses safe x logic s st) st.shapes given.placement.nodes
        st.size (λ j n at. let z : j ≡ 0 + j = omega arith in
        subst (λ c. NodeShape given c n → shows c n ≡ rows_of_node c) z (each_right j n at))
