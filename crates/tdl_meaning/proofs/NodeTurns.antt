-- The turns of all nodes above instant 0: none traps, each part steps, and their plain rows.
use Rattle.std.proofs.Common.{◌≡◌, ℕ, suc, ◌+◌, ℤ, List, [], ◌∷◌, ◌++◌, filter, length, true, Some, refl, ap, ap₂, sym, ◌∙◌, subst, arith}
use Rattle.std.specs.Prelude.{slice_get}
use Rattle.std.proofs.lemmas.List.Elements.{filter-append}
use Rattle.tdl_base.specs.declared.numbers.PortKey.{PortKey}
use Rattle.tdl_base.specs.Sensed.{Sensed}
use Rattle.tdl_mode.specs.States.{ModuleState}
use Rattle.tdl_deploy.specs.Placed.{hosts}
use Rattle.tdl_trace.specs.Shown.{Shown}
use Rattle.tdl_verify.specs.States.{Part, NodeNow, Times}
use Rattle.tdl_verify.specs.Runs.{Turns, and_turn, all_turns, is_plain}
use Rattle.tdl_gen.specs.Realises.{IsWithinWorst}
use Rattle.tdl_verify.proofs.NodeSends.{all_parts}
use Rattle.tdl_meaning.proofs.Deliveries.{NodeStep}
use Rattle.tdl_meaning.proofs.AllParts.{node-at}
use Rattle.tdl_meaning.proofs.SeenAt.{seen_at-is}
use Rattle.tdl_meaning.specs.SystemStands.{seen_at, all_show}
use Rattle.tdl_meaning.proofs.Delivered.{in-node}
use Rattle.tdl_meaning.proofs.NodeTurn.{node_done, zip_steps}
use Rattle.tdl_meaning.specs.OneNode.{Stepped, TurnDone, node_sees}
use Rattle.tdl_meaning.specs.Accepted.{Accepted}
use Rattle.tdl_meaning.proofs.Every.{all-of, of-front, of-back}
use Rattle.tdl_meaning.specs.NodeShape.{NodeShape, Shapes}
use Rattle.tdl_meaning.specs.PartFacts.{PartLanded}

-- the nodes after all turns
nodes_of : Turns → List NodeNow
nodes_of (Turns.All nodes rows) = nodes
nodes_of (Turns.Stuck k reason) = []

-- the rows of all turns
rows_in : Turns → List Shown
rows_in (Turns.All nodes rows) = rows
rows_in (Turns.Stuck k reason) = []

module _ (given : Accepted) (x : ℕ) (sensed : Sensed) (times : Times) (within : IsWithinWorst given.program times)
    (logic : ℕ → ModuleState) where
  -- what each module sees, these being the nodes after delivery
  abbrev pub seen_by : List NodeNow → ℕ → PortKey → ℤ
  seen_by = seen_at given (node_sees x logic) 0

  module _ (gone : ℕ → ℕ → Type 0) where
    -- what is known of a part after delivery
    abbrev Landed : Part → Type 0
    Landed = PartLanded given gone x logic

    -- the turns of nodes from number k on
    record AllDone (k : ℕ) (nodes : List NodeNow) : Type 0 where
      after : List NodeNow
      rows : List Shown
      is : all_turns x sensed times k nodes ≡ Turns.All after rows
      shapes : Shapes given k after
      size : length after ≡ length nodes
      shown : filter is_plain rows ≡ all_show given x sensed logic k nodes

    -- none traps
    all_done : (k : ℕ) (nodes : List NodeNow) (gs : Shapes given k nodes) →
        ((n : ℕ) (q : Part) → slice_get (all_parts nodes) n ≡ Some q → Landed q) → AllDone k nodes
    unfolding all_parts
    all_done k [] gs ls = record { after = []; rows = []; is = refl; shapes = tt; size = refl; shown = refl }
    all_done k (n ∷ more) gs ls =
        let g = gs.0 in
        let d : TurnDone given x k sensed times logic n =
        node_done given x sensed times within logic gone k n g (of-front Landed n.parts (all_parts more) ls) in
        let rest = all_done (suc k) more gs.1 (of-back Landed n.parts (all_parts more) ls) in
        record {
          after = record n { parts = d.after } ∷ rest.after;
          rows = d.rows ++ rest.rows;
          is = ap₂ (λ a b. and_turn k n a b) d.is rest.is;
          shapes = (
            d.shape,
            rest.shapes,
          );
          size = ap suc rest.size;
          shown = filter-append is_plain d.rows rest.rows ∙ ap₂ (λ a b. a ++ b) d.shown rest.shown;
        }

    -- the turns of all nodes: what each does, and what stands after them
    pub record AllTurns (nodes : List NodeNow) : Type 0 where
      pub steps : (j : ℕ) (n : NodeNow) → slice_get nodes j ≡ Some n →
          NodeStep x sensed times (Stepped given x sensed (seen_by nodes) logic) j n
      pub shapes : (after : List NodeNow) (rows : List Shown) →
          all_turns x sensed times 0 nodes ≡ Turns.All after rows → Shapes given 0 after
      pub size : (after : List NodeNow) (rows : List Shown) →
          all_turns x sensed times 0 nodes ≡ Turns.All after rows → length after ≡ length nodes
      pub shown : (after : List NodeNow) (rows : List Shown) →
          all_turns x sensed times 0 nodes ≡ Turns.All after rows →
          filter is_plain rows ≡ all_show given x sensed logic 0 nodes

    -- they are so, the nodes being after delivery
    pub turns_all : (nodes : List NodeNow) → Shapes given 0 nodes →
        ((n : ℕ) (q : Part) → slice_get (all_parts nodes) n ≡ Some q → Landed q) → AllTurns nodes
    unfolding nodes_of rows_in
    turns_all nodes gs ls =
        let all : AllDone 0 nodes = all_done 0 nodes gs ls in
        record {
          steps = λ j n at.
              let z : 0 + j ≡ j = omega arith in
              let g : NodeShape given j n =
              subst (λ c. NodeShape given c n) z (node-at (NodeShape given) 0 nodes gs j n at) in
              let d : TurnDone given x j sensed times logic n =
              node_done given x sensed times within logic gone j n g
              (all-of Landed n.parts (in-node Landed nodes ls j n at)) in
              record {
                parts = d.after;
                rows = d.rows;
                is = d.is;
                stepped = zip_steps given x sensed times within logic gone (seen_by nodes) j
                    (node_sees x logic n.parts) n.parts d.after g.each (here j n at z) d.stepped;
              };
          shapes = λ after rows e. subst (Shapes given 0) (ap nodes_of (sym all.is ∙ e)) all.shapes;
          size = λ after rows e. ap length (sym (ap nodes_of (sym all.is ∙ e))) ∙ all.size;
          shown = λ after rows e. ap (filter is_plain) (sym (ap rows_in (sym all.is ∙ e))) ∙ all.shown;
        }
      where
        here : (j : ℕ) (n : NodeNow) → slice_get nodes j ≡ Some n → 0 + j ≡ j → (kk : ℕ) →
            hosts given.placement j kk ≡ true → seen_by nodes kk ≡ node_sees x logic n.parts
        here j n at z kk h = seen_at-is given (node_sees x logic) 0 j nodes n at kk
            (ap (λ c. hosts given.placement c kk) z ∙ h)
