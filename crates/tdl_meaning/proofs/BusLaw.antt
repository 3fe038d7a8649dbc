-- The bus at one instant, whatever is lost, as the laws say it: what arrives, what stubs take, and what is sent.
use Rattle.std.proofs.Common.{◌≡◌, ℕ, suc, ℤ, List, Some, refl, subst}
use Rattle.std.specs.Prelude.{slice_get}
use Rattle.tdl_base.proofs.SideBySide.{Zip}
use Rattle.tdl_base.specs.declared.numbers.PortKey.{PortKey}
use Rattle.tdl_base.specs.Sensed.{Sensed}
use Rattle.tdl_mode.specs.States.{ModuleState}
use Rattle.tdl_image.specs.declared.stub.Stub.{Stub}
use Rattle.tdl_verify.specs.States.{StubNow, Part, NodeNow}
use Rattle.tdl_verify.specs.Runs.{System, landed}
use Rattle.tdl_verify.proofs.NodeSends.{all_parts}
use Rattle.tdl_meaning.proofs.ActiveJobs.{well_modes}
use Rattle.tdl_meaning.proofs.Deliveries.{landed-parts}
use Rattle.tdl_meaning.proofs.Delivered.{all_land}
use Rattle.tdl_meaning.proofs.PartsAndBus.{stand, jobs_active, parts_turned}
use Rattle.tdl_meaning.proofs.StubsInStep as stubs
use Rattle.tdl_meaning.proofs.InstantSends as sends
use Rattle.tdl_meaning.specs.Accepted.{Accepted}
use Rattle.tdl_meaning.specs.Conditions.{Losses, Gone, Takes}
use Rattle.tdl_meaning.specs.BusTurn.{Took, SendsDone}
use Rattle.tdl_meaning.specs.NodeShape.{StubShape}
use Rattle.tdl_meaning.specs.OneNode.{logic_after, Stepped}
use Rattle.tdl_meaning.specs.PartFacts.{PartLanded, PartAfterTurn, Parts, StubFacts}
use Rattle.tdl_meaning.specs.SystemStands.{StandsBefore}

module _ (given : Accepted) (losses : Losses) (x : ℕ) (logic : ℕ → ModuleState) (s : System)
    (stands : StandsBefore given (Gone losses) x logic s) where
  -- the parts after delivery
  abbrev here : List Part
  here = all_parts (landed x losses.lost s.nodes s.flight)

  -- what arrives waits for its job's end with the job's result
  pub arrives : Takes given losses x logic s.flight → (sensed : Sensed) (n : ℕ) (q : Part) → slice_get here n ≡ Some q →
      PartLanded given (Gone losses) x logic q
  arrives lose = all_land given (Gone losses) x logic losses.lost s.flight s.nodes stands.parts stands.bus lose

  -- a stub after delivery takes the commits at x that are not gone
  pub takes : (sensed : Sensed) (seen : ℕ → PortKey → ℤ) (q : Stub) (t : StubNow) → StubShape q t →
      StubFacts given (Gone losses) (suc x) x logic q t →
      Took (Gone losses q.number.0) x (logic q.number.0) q t
  takes sensed seen q t shape f =
      let kk : ℕ = q.number.0 in
      stubs.took f.tables.definition (well_modes given kk f.tables.definition f.tables.there) x (logic kk)
      (stand given (Gone losses) x logic (all_parts s.nodes) stands.parts kk f.tables.definition f.tables.there) kk
      sensed (seen kk) q (Gone losses kk)
      (jobs_active given (Gone losses) x logic (all_parts s.nodes) stands.parts kk f.tables.definition f.tables.there)
      f.tables.all t shape.outputs f.facts f.gots

  module _ (sensed : Sensed) (seen : ℕ → PortKey → ℤ) where
    -- where each part after delivery makes its turn, what is known of the parts stands after the turns
    pub turned : Takes given losses x logic s.flight → (after : List Part) →
        Zip (Stepped given x sensed seen logic) here after →
        Parts given (PartAfterTurn given (Gone losses) x (logic_after x sensed seen logic)) after
    turned lose after z =
        parts_turned given (Gone losses) x sensed seen logic losses.lost s.flight stands.bus lose (all_parts s.nodes)
        after stands.parts
        (subst (λ qs. Zip (Stepped given x sensed seen logic) qs after)
        (landed-parts x losses.lost s.flight s.nodes) z)

    -- the nodes after the turns send without a trap
    pub sent : (nodes : List NodeNow) →
        Parts given (PartAfterTurn given (Gone losses) x (logic_after x sensed seen logic)) (all_parts nodes) →
        SendsDone given x (logic_after x sensed seen logic) s.flight nodes s.sent
    sent nodes after =
        sends.sends_done given (Gone losses) x sensed seen logic
        (stand given (Gone losses) x logic (all_parts s.nodes) stands.parts) s.flight stands.bus (all_parts nodes)
        after nodes s.sent refl
