-- What is known of the parts after delivery.
use Rattle.std.proofs.Common.{◌≡◌, ℕ, pos, List, Option, Some, ap, sym, ◌∙◌, subst}
use Rattle.std.specs.Prelude.{slice_get}
use Rattle.tdl_base.specs.Sensed.{Sensed}
use Rattle.tdl_mode.specs.States.{ModuleState}
use Rattle.tdl_verify.specs.States.{Part, NodeNow}
use Rattle.tdl_verify.specs.Bus.{Flight}
use Rattle.tdl_verify.specs.Runs.{Lost, landed}
use Rattle.tdl_verify.proofs.NodeSends.{all_parts}
use Rattle.tdl_meaning.proofs.Deliveries.{part_landed, landed-parts}
use Rattle.tdl_base.proofs.ListPlaces.{In, in-flat}
use Rattle.tdl_meaning.proofs.PartsAndBus.{stub_landed}
use Rattle.tdl_meaning.proofs.MappedLists.{map-at}
use Rattle.tdl_meaning.specs.Accepted.{Accepted}
use Rattle.tdl_meaning.specs.BusFrames.{BusFacts, LosesAt}
use Rattle.tdl_meaning.specs.PartFacts.{PartBefore, Parts, PartLanded}

module _ (given : Accepted) (gone : ℕ → ℕ → Type 0) (x : ℕ) (logic : ℕ → ModuleState) where
  module _ (lost : Lost) (flight : Option Flight) (nodes : List NodeNow)
      (ps : Parts given (PartBefore given gone x logic) (all_parts nodes))
      (bus : BusFacts given x logic flight) (loses : LosesAt given gone x logic lost flight) where
    -- delivery brings a part to it
    part_lands : (sensed : Sensed) (q : Part) → PartBefore given gone x logic q →
        PartLanded given gone x logic (part_landed x lost flight q)
    part_lands sensed (Part.Host h s) b = b
    part_lands sensed (Part.Outside q t) b =
        stub_landed given gone x sensed (λ kk key. pos 0) logic lost flight bus loses q t b

    -- and all parts of all nodes
    pub all_land : (sensed : Sensed) (n : ℕ) (q : Part) →
        slice_get (all_parts (landed x lost nodes flight)) n ≡ Some q → PartLanded given gone x logic q
    all_land sensed n q at =
        let m = map-at (part_landed x lost flight) (all_parts nodes) n q
        (ap (λ l. slice_get l n) (sym (landed-parts x lost flight nodes)) ∙ at) in
        subst (PartLanded given gone x logic) (sym m.is) (part_lands sensed m.item (ps.each n m.item m.at))

-- what holds of the parts of all nodes holds of those of each
pub in-node : (P : Part → Type 0) (nodes : List NodeNow) →
    ((n : ℕ) (q : Part) → slice_get (all_parts nodes) n ≡ Some q → P q) → (j : ℕ) (n : NodeNow) →
    slice_get nodes j ≡ Some n → (i : ℕ) (q : Part) → slice_get n.parts i ≡ Some q → P q
unfolding all_parts
in-node P nodes h j n at i q there =
    let w : In q (all_parts nodes) = in-flat (λ (c : NodeNow). c.parts) nodes j n q at
    (record { place = i; at = there }) in
    h w.place q w.at
