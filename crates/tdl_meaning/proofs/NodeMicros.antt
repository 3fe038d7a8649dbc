-- A microsecond of all nodes: no processor clashes, and all parts come to the next instant.
use Rattle.std.proofs.Common.{◌≡◌, ℕ, suc, List, [], ◌∷◌, map, length, Some, refl, ap, ap₂, sym, ◌∙◌, subst}
use Rattle.std.specs.Prelude.{slice_get, flat_map}
use Rattle.tdl_mode.specs.States.{ModuleState}
use Rattle.tdl_verify.specs.States.{HostNow, Part, NodeNow}
use Rattle.tdl_base.specs.Lists.{first_of}
use Rattle.tdl_verify.specs.Micros.{run_part, stretches, opened}
use Rattle.tdl_verify.specs.Runs.{Micros, and_micros, all_micros}
use Rattle.tdl_meaning.proofs.HostMicro.{after_micro}
use Rattle.tdl_meaning.proofs.OneLive.{AllTurned, micro-is, host_in_step, run_part-host}
use Rattle.tdl_verify.proofs.NodeSends.{all_parts}
use Rattle.tdl_base.proofs.SideBySide.{Zip, zip-append}
use Rattle.std.proofs.lemmas.Option.{same_Some}
use Rattle.tdl_meaning.specs.OneNode.{Walks, MicroDone}
use Rattle.tdl_meaning.proofs.NodeShapes.{AllSame, node_kept}
use Rattle.tdl_meaning.specs.Accepted.{Accepted}
use Rattle.tdl_meaning.proofs.Every.{of-front, of-back}
use Rattle.tdl_meaning.specs.HostInStep.{HostFacts, HostAfter}
use Rattle.tdl_meaning.specs.PartFacts.{PartAfterTurn}
use Rattle.tdl_meaning.specs.NodeShape.{NodeShape, Shape, Shapes}
use Rattle.tdl_meaning.specs.AllItems.{Every}

module _ (given : Accepted) (gone : ℕ → ℕ → Type 0) (x : ℕ) (logic : ℕ → ModuleState) where
  -- the parts of node j after instant x, as its microsecond needs them
  parts_after : (j : ℕ) (qs : List Part) → Every (Shape given j) qs → Every (PartAfterTurn given gone x logic) qs →
      AllTurned given x j logic qs
  parts_after j [] gs bs = tt
  parts_after j (Part.Outside q t ∷ qs) gs bs = (tt, parts_after j qs gs.1 bs.1)
  parts_after j (Part.Host h s ∷ qs) gs bs =
      let g = gs.0 in
      let b = bs.0 in
      let same : b.tables.definition ≡ g.definition =
      same_Some b.tables.definition g.definition (sym b.tables.there ∙ g.there) in (
        record {
          definition = g.definition;
          there = g.there;
          tables = g.tables;
          hosted = g.hosted;
          facts = subst (λ c. HostAfter g.definition c x (logic h.number.0) s) g.tables
              (subst (λ m. HostAfter m h x (logic h.number.0) s) same b.facts);
        },
        parts_after j qs gs.1 bs.1,
      )

  -- they come to the next instant
  walks : (j : ℕ) (qs : List Part) (bs : AllTurned given x j logic qs) →
      Zip (Walks given x logic) qs (map (run_part x) qs)
  walks j [] bs = tt
  walks j (Part.Outside q t ∷ qs) bs = (refl, walks j qs bs.1)
  walks j (Part.Host h s ∷ qs) bs =
      let b = bs.0 in
      let ran : HostNow = after_micro given.schedule x h.number.0 b.definition s in (
        (
          ran,
          run_part-host given x j logic h s b,
          λ m at. subst (λ d. HostFacts d h (suc x) (logic h.number.0) ran)
              (same_Some b.definition m (sym b.there ∙ at))
              (subst (λ c. HostFacts b.definition c (suc x) (logic h.number.0) ran) (sym b.tables)
              (host_in_step given x j logic h s b)),
        ),
        walks j qs bs.1,
      )

  -- a microsecond leaves the parts, but for their states
  parts_same : (j : ℕ) (qs : List Part) (gs : Every (Shape given j) qs) → AllSame given j qs gs (map (run_part x) qs)
  parts_same j [] gs = tt
  parts_same j (Part.Outside q t ∷ qs) gs =
      (record { shape = gs.0; number = refl; count = refl; first = refl }, parts_same j qs gs.1)
  parts_same j (Part.Host h s ∷ qs) gs =
      (record { shape = gs.0; number = refl; count = refl; first = refl }, parts_same j qs gs.1)

  -- no two windows of a node are live, and its parts come to the next instant
  pub micro_done : (j : ℕ) (n : NodeNow) → NodeShape given j n → Every (PartAfterTurn given gone x logic) n.parts →
      MicroDone given x j logic n
  micro_done j n g ps =
      let bs = parts_after j n.parts g.each ps in
      let qs : List Part = map (run_part x) n.parts in
      let shape = node_kept given j n g qs (parts_same j n.parts g.each) in
      record {
        after = record n { parts = qs; running = opened n.running (first_of (flat_map (stretches x) n.parts)) };
        is = micro-is given x j logic n g.up bs;
        walked = walks j n.parts bs;
        shape = record { each = shape.each; up = shape.up; enough = shape.enough; order = shape.order };
      }

  -- the microsecond of nodes from number k on
  pub record MicrosDone (k : ℕ) (nodes : List NodeNow) : Type 0 where
    pub after : List NodeNow
    pub is : all_micros x k nodes ≡ Micros.Walked after
    pub walked : Zip (Walks given x logic) (all_parts nodes) (all_parts after)
    pub shapes : Shapes given k after
    pub size : length after ≡ length nodes

  -- no processor clashes, and all parts come to the next instant
  pub micros_done : (k : ℕ) (nodes : List NodeNow) → Shapes given k nodes →
      ((n : ℕ) (q : Part) → slice_get (all_parts nodes) n ≡ Some q → PartAfterTurn given gone x logic q) →
      MicrosDone k nodes
  unfolding all_parts
  micros_done k [] gs ps = record { after = []; is = refl; walked = tt; shapes = tt; size = refl }
  micros_done k (n ∷ more) gs ps =
      let here : MicroDone given x k logic n =
      micro_done k n gs.0 (of-front (PartAfterTurn given gone x logic) n.parts (all_parts more) ps) in
      let rest = micros_done (suc k) more gs.1
      (of-back (PartAfterTurn given gone x logic) n.parts (all_parts more) ps) in
      record {
        after = here.after ∷ rest.after;
        is = ap₂ (λ o m. and_micros k o m) here.is rest.is;
        walked = zip-append (Walks given x logic) n.parts (all_parts more) here.after.parts (all_parts rest.after)
            here.walked rest.walked;
        shapes = (here.shape, rest.shapes);
        size = ap suc rest.size;
      }
