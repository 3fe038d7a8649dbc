-- The turn of one node above instant 0: what it sees, its rows, and that it ends with each part stepped.
use Rattle.std.proofs.Common.{◌≡◌, ℕ, ◌+◌, ℤ, List, [], ◌∷◌, map, true, Some, refl, ap, sym, ◌∙◌, subst, arith}
use Rattle.std.specs.Prelude.{slice_get}
use Rattle.std.proofs.lemmas.List.{length-map}
use Rattle.tdl_base.specs.declared.numbers.PortKey.{PortKey}
use Rattle.tdl_mode.specs.declared.program.Module.{Module}
use Rattle.tdl_base.specs.Sensed.{Sensed}
use Rattle.tdl_mode.specs.States.{ModuleState}
use Rattle.tdl_mode.specs.Instants.{alone}
use Rattle.tdl_deploy.specs.Placed.{hosts}
use Rattle.tdl_verify.specs.States.{Part, NodeNow, Times, part_number}
use Rattle.tdl_gen.specs.Counts.{module_count, stub_count}
use Rattle.tdl_gen.specs.Realises.{IsWithinWorst}
use Rattle.tdl_meaning.proofs.PhaseFour.{Timely}
use Rattle.tdl_gen.proofs.StubMoves.{left_at}
use Rattle.tdl_meaning.proofs.PartsTurn.{AllGood, node_finishes}
use Rattle.tdl_meaning.proofs.PartMoves.{NodeTurned}
use Rattle.tdl_meaning.proofs.PartsTurn as one
use Rattle.tdl_meaning.proofs.OneLive.{ascends-apart}
use Rattle.tdl_meaning.proofs.EntriesDelivered.{of_mode}
use Rattle.tdl_base.proofs.SideBySide.{Zip}
use Rattle.std.proofs.lemmas.Option.{same_Some}
use Rattle.tdl_meaning.proofs.JobTimes.{timely_all}
use Rattle.tdl_meaning.proofs.NodeShapes.{Same, AllSame, node_kept}
use Rattle.tdl_meaning.specs.Accepted.{Accepted}
use Rattle.tdl_meaning.specs.HostInStep.{HostFacts, HostAfter}
use Rattle.tdl_meaning.specs.NodeShape.{Shape, shares, NodeShape}
use Rattle.tdl_meaning.specs.PartFacts.{PartLanded}
use Rattle.tdl_meaning.specs.AllItems.{Every}
use Rattle.tdl_meaning.specs.OneNode.{Stepped, TurnDone, node_sees, node_shows}
use Rattle.tdl_meaning.proofs.TaskOutputsTaken.{taken-length}

module _ (given : Accepted) (x : ℕ) (sensed : Sensed) (times : Times) (within : IsWithinWorst given.program times)
    (logic : ℕ → ModuleState) where
  -- the times of each module's jobs are within its worst cases
  abbrev pub timely : (n : ℕ) (m : Module) → slice_get given.program.modules n ≡ Some m → Timely times n m
  timely = timely_all given.program times within

  -- the parts of node j, as its turn needs them
  abbrev Goods : ℕ → List Part → Type 0
  Goods j = AllGood given x j sensed times timely logic

  -- after its turn each part is the same, but for its state
  same_turned : (j : ℕ) (seen : ℕ → PortKey → ℤ) (qs rs : List Part) (gs : Every (Shape given j) qs) →
      Zip (Stepped given x sensed seen logic) qs rs → AllSame given j qs gs rs
  same_turned j seen [] [] gs z = tt
  same_turned j seen [] (r ∷ rs) gs z = absurd z
  same_turned j seen (q ∷ qs) [] gs z = absurd z
  same_turned j seen (Part.Outside q t ∷ qs) (r ∷ rs) gs z = (
    subst (Same given j (Part.Outside q t) gs.0) (sym z.0) (record {
      shape = record {
        own = gs.0.own;
        size = gs.0.size ∙ sym (length-map t.entries (left_at x));
        outputs = gs.0.outputs ∙ sym (taken-length x q 0 q.entries t.entries t.outputs);
      };
      number = refl;
      count = refl;
      first = refl;
    }),
    same_turned j seen qs rs gs.1 z.1,
  )
  same_turned j seen (Part.Host h s ∷ qs) (r ∷ rs) gs z = (
    subst (Same given j (Part.Host h s) gs.0) (sym z.0.1)
        (record { shape = gs.0; number = refl; count = refl; first = refl }),
    same_turned j seen qs rs gs.1 z.1,
  )

  module _ (gone : ℕ → ℕ → Type 0) where
    -- the parts of node j after delivery are as its turn needs them
    abbrev good : (j : ℕ) (qs : List Part) → Every (Shape given j) qs → Every (PartLanded given gone x logic) qs →
        Goods j qs
    good j [] gs ls = tt
    good j (Part.Outside q t ∷ qs) gs ls = (
      record {
        own = gs.0.own;
        size = gs.0.size;
        mode = (logic q.number.0).mode;
        of = of_mode ls.0.tables.definition x (logic q.number.0) q.entries t.entries ls.0.facts;
      },
      good j qs gs.1 ls.1,
    )
    good j (Part.Host h s ∷ qs) gs ls = (
      record {
        definition = gs.0.definition;
        there = gs.0.there;
        tables = gs.0.tables;
        hosted = gs.0.hosted;
        facts = subst (λ c. HostFacts gs.0.definition c x (logic h.number.0) s) gs.0.tables
            (subst (λ m. HostFacts m h x (logic h.number.0) s)
            (same_Some ls.0.tables.definition gs.0.definition (sym ls.0.tables.there ∙ gs.0.there)) ls.0.facts);
      },
      good j qs gs.1 ls.1,
    )

    -- their shares are those of the shape
    shares-good : (j : ℕ) (qs : List Part) (gs : Every (Shape given j) qs)
        (ls : Every (PartLanded given gone x logic) qs) →
        one.shares given x j sensed times timely logic qs (good j qs gs ls)
        ≡ shares given j qs gs
    shares-good j [] gs ls = refl
    shares-good j (Part.Outside q t ∷ qs) gs ls = ap (λ c. stub_count q + c) (shares-good j qs gs.1 ls.1)
    shares-good j (Part.Host h s ∷ qs) gs ls =
        let g = gs.0 in ap (λ c. module_count g.definition + c) (shares-good j qs gs.1 ls.1)

    -- the turn of a node ends, its parts being after delivery
    pub node_done : (j : ℕ) (n : NodeNow) → NodeShape given j n → Every (PartLanded given gone x logic) n.parts →
        TurnDone given x j sensed times logic n
    node_done j n g ls =
        let count = shares-good j n.parts g.each ls in
        let enough = g.enough in
        let seen : PortKey → ℤ = node_sees x logic n.parts in
        let t : NodeTurned x j sensed times (Stepped given x sensed (λ kk. seen) logic) n.declared n.parts
        (node_shows given x j sensed seen logic n.parts) =
        node_finishes given x j sensed times timely logic seen
        (map part_number n.parts) (ascends-apart 0 n.parts g.up) n.declared n.parts (good j n.parts g.each ls) refl refl
        (omega (arith, count, enough)) in
        record {
          after = t.after;
          rows = t.rows;
          is = t.is;
          stepped = t.stepped;
          shown = t.shown;
          shape = node_kept given j n g t.after (same_turned j (λ kk. seen) n.parts t.after g.each t.stepped);
        }

    -- after its turn each part has stepped, where each hosted module sees what the node does
    pub zip_steps : (module_sees : ℕ → PortKey → ℤ) (j : ℕ) (seen : PortKey → ℤ) (qs rs : List Part) →
        Every (Shape given j) qs → ((kk : ℕ) → hosts given.placement j kk ≡ true → module_sees kk ≡ seen) →
        Zip (Stepped given x sensed (λ kk. seen) logic) qs rs → Zip (Stepped given x sensed module_sees logic) qs rs
    zip_steps module_sees j seen [] [] gs same z = tt
    zip_steps module_sees j seen [] (r ∷ rs) gs same z = absurd z
    zip_steps module_sees j seen (q ∷ qs) [] gs same z = absurd z
    zip_steps module_sees j seen (Part.Outside q t ∷ qs) (r ∷ rs) gs same z =
        (z.0, zip_steps module_sees j seen qs rs gs.1 same z.1)
    zip_steps module_sees j seen (Part.Host h s ∷ qs) (r ∷ rs) gs same z = (
      (
        z.0.0,
        z.0.1,
        λ m at. subst (λ (f : PortKey → ℤ). HostAfter m h x (alone h.number.0 x sensed f (logic h.number.0)) z.0.0)
            (sym (same h.number.0 gs.0.hosted)) (z.0.2 m at),
      ),
      zip_steps module_sees j seen qs rs gs.1 same z.1,
    )
