-- An instant of the whole system traps on no node whatever is lost, and keeps what is known of parts and bus.
use Rattle.std.proofs.Common.{◌≡◌, ℕ, suc, ◌+◌, List, [], ◌++◌, map, filter, Some, refl, subst, arith}
use Rattle.std.specs.Prelude.{ℤ, slice_get}
use Rattle.tdl_base.specs.declared.numbers.PortKey.{PortKey}
use Rattle.tdl_mode.specs.declared.program.Module.{Module}
use Rattle.tdl_base.specs.Sensed.{Sensed}
use Rattle.tdl_mode.specs.States.{ModuleState}
use Rattle.tdl_trace.specs.Shown.{Shown}
use Rattle.tdl_verify.specs.States.{Part, NodeNow, Times}
use Rattle.tdl_verify.specs.Runs.{System, Sending, Now, Lost, Turns, landed, all_turns, instant, is_plain}
use Rattle.tdl_verify.proofs.NodeSends.{all_parts}
use Rattle.tdl_meaning.proofs.Deliveries.{part_landed, landed-parts, NodeStep, AllSteps, all_steps}
use Rattle.tdl_base.proofs.SideBySide.{Zip}
use Rattle.tdl_meaning.proofs.PartsAndBus.{stand, parts_turned}
use Rattle.tdl_meaning.specs.OneNode.{logic_after, Stepped}
use Rattle.tdl_meaning.proofs.InstantSends.{sends_done}
use Rattle.tdl_meaning.specs.BusTurn.{SendsDone}
use Rattle.tdl_meaning.specs.Accepted.{Accepted}
use Rattle.tdl_meaning.specs.BusFrames.{Loses, BusFacts}
use Rattle.tdl_meaning.specs.PartFacts.{PartBefore, PartAfterTurn, Parts}

module _ (given : Accepted) (gone : ℕ → ℕ → Type 0) (x : ℕ) (sensed : Sensed) (times : Times) (lost : Lost)
    (seen : ℕ → PortKey → ℤ) (logic : ℕ → ModuleState) where
  -- the logical state of each module after x
  abbrev pub next : ℕ → ModuleState
  next = logic_after x sensed seen logic

  -- the turn of one part
  abbrev pub Steps : Part → Part → Type 0
  Steps = Stepped given x sensed seen logic

  -- the system after the instant
  pub record InstantDone (ran : List Shown) (sys : System) : Type 0 where
    pub after : System
    pub rows : List Shown
    pub sent : List Shown
    pub sendings : List Sending
    pub is : instant x sensed times lost ran sys
        ≡ record { rows = ran ++ rows ++ sent; sendings = sendings; now = Now.Alive after }
    pub turns : all_turns x sensed times 0 (landed x lost sys.nodes sys.flight) ≡ Turns.All after.nodes rows
    pub shown : filter is_plain sent ≡ []
    pub stepped : Zip Steps (map (part_landed x lost sys.flight) (all_parts sys.nodes)) (all_parts after.nodes)
    pub parts : Parts given (PartAfterTurn given gone x next) (all_parts after.nodes)
    pub bus : BusFacts given (suc x) next after.flight

  -- an instant ends without a trap, where each node's turn steps its parts and each frame that is lost takes its commit
  pub instant_done : (ran : List Shown) (sys : System) →
      Parts given (PartBefore given gone x logic) (all_parts sys.nodes) → BusFacts given x logic sys.flight →
      ((kk : ℕ) (m : Module) → slice_get given.program.modules kk ≡ Some m →
      Loses lost (gone kk) m kk x (logic kk) sys.flight) →
      ((j : ℕ) (n : NodeNow) → slice_get (landed x lost sys.nodes sys.flight) j ≡ Some n →
      NodeStep x sensed times Steps j n) → InstantDone ran sys
  unfolding instant
  instant_done ran sys ps bus loses law =
      let nodes : List NodeNow = landed x lost sys.nodes sys.flight in
      let t : AllSteps x sensed times Steps 0 nodes = all_steps x sensed times Steps 0 nodes
      (λ j n at.
      let z : j ≡ 0 + j = omega arith in
      subst (λ i. NodeStep x sensed times Steps i n) z (law j n at)) in
      let z : Zip Steps (map (part_landed x lost sys.flight) (all_parts sys.nodes)) (all_parts t.after) =
      subst (λ qs. Zip Steps qs (all_parts t.after)) (landed-parts x lost sys.flight sys.nodes) t.stepped in
      let pa = parts_turned given gone x sensed seen logic lost sys.flight bus loses (all_parts sys.nodes)
      (all_parts t.after) ps z in
      let stands = stand given gone x logic (all_parts sys.nodes) ps in
      let d : SendsDone given x next sys.flight t.after sys.sent =
      sends_done given gone x sensed seen logic stands sys.flight bus (all_parts t.after) pa t.after sys.sent
      refl in
      record {
        after = record { nodes = t.after; flight = d.flight'; sent = d.count' };
        rows = t.rows;
        sent = d.rows;
        sendings = d.sendings;
        is =
            let a = t.is in
            let b = d.is in
            rw (a, b) refl;
        turns = t.is;
        shown = d.shown;
        stepped = z;
        parts = pa;
        bus = d.facts;
      }
