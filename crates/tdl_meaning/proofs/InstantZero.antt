-- The run of the compiler's bundle stands after instant 0, whatever is lost; so no run of it traps.
use Rattle.std.proofs.Common.{◌≡◌, ℕ, suc, ◌+◌, ◌<◌, ℤ, List, [], ◌∷◌, ◌++◌, map, true, ◌&&◌, ◌==◌, Some, None, refl, ap, sym, ◌∙◌, subst, arith}
use Rattle.std.specs.Prelude.{slice_get, flat_map}
use Rattle.std.proofs.lemmas.Bool.{eqb-true, and_parts}
use Rattle.std.proofs.lemmas.List.{length-map}
use Rattle.tdl_base.specs.Lists.{numbered}
use Rattle.tdl_base.specs.declared.numbers.PortKey.{PortKey}
use Rattle.tdl_mode.specs.declared.program.Module.{Module}
use Rattle.tdl_base.specs.Sensed.{Course}
use Rattle.tdl_mode.specs.States.{ModuleState}
use Rattle.tdl_image.specs.declared.bundle.Bundle.{Bundle}
use Rattle.tdl_image.specs.declared.hosted.ImageWindow.{ImageWindow}
use Rattle.tdl_verify.specs.States.{Part, NodeNow, Times, node_first, host_first, stub_initials}
use Rattle.tdl_verify.specs.Turns.{is_mode}
use Rattle.tdl_verify.specs.Bus.{starts, starts_at, start_of}
use Rattle.tdl_verify.specs.Runs.{System, Now, Run, IsAlive, Lost, system_first, instant, run_to, machine_run}
use Rattle.tdl_gen.specs.Tables.{hosted_of, windows_of}
use Rattle.tdl_gen.specs.Realises.{image_of, bundle_of, IsWithinWorst, HasTables, HasCounts}
use Rattle.tdl_gen.proofs.OneBundle.{one_bundle}
use Rattle.tdl_verify.proofs.NodeSends.{all_parts, sends_none, starts-parts}
use Rattle.tdl_base.proofs.SideBySide.{zip-left, zip-right}
use Rattle.tdl_meaning.proofs.StubTables.{stub_tables}
use Rattle.tdl_meaning.proofs.ItemPlaces.{flat-none}
use Rattle.tdl_meaning.proofs.SeenAt.{seen_at-is}
use Rattle.tdl_meaning.specs.SystemStands.{seen_at, TakesAlong, Begun, Stands, Along, first_nodes}
use Rattle.tdl_meaning.proofs.RunSteps.{along, any_losses, any_takes}
use Rattle.tdl_meaning.specs.Conditions.{Conditions, Losses, Gone}
use Rattle.tdl_meaning.proofs.ShapesBeforeZero.{first_shapes}
use Rattle.tdl_meaning.proofs.HostsMet.{host_tables}
use Rattle.tdl_meaning.proofs.PartsBeforeZero.{PartAt, NodesAt, nodes_at, none_waits, none_got}
use Rattle.tdl_meaning.proofs.HostedOnce.{hosted_once, hosted_in}
use Rattle.tdl_meaning.proofs.NodesBoot.{start_of as state_of, logic_first, HasStarted, AllBooted, all_booted}
use Rattle.tdl_mode.proofs.StateLength.{length-numbered}
use Rattle.tdl_meaning.specs.Accepted.{Accepted}
use Rattle.tdl_meaning.proofs.Every.{all-at, all-append}
use Rattle.tdl_meaning.proofs.FilterCounts.{filter-none}
use Rattle.tdl_meaning.specs.Entries.{EntryFact, Got}
use Rattle.tdl_meaning.specs.AllItems.{AllEntries, Every}
use Rattle.tdl_meaning.specs.BusTables.{HostTables, StubTables}
use Rattle.tdl_meaning.specs.PartFacts.{PartAfterTurn, Parts}
use Rattle.tdl_meaning.specs.BusFrames.{BusFacts}
use Rattle.tdl_meaning.specs.OneNode.{first_sees}

module _ (given : Accepted) where
  -- a part of some node before instant 0
  abbrev pub AnyAt : Part → Type 0
  AnyAt q = (j : ℕ) × PartAt given j q

  -- a part of node j is one of some node
  any : (j : ℕ) (qs : List Part) → Every (PartAt given j) qs → Every AnyAt qs
  any j [] as' = tt
  any j (q ∷ qs) as' = ((j, as'.0), any j qs as'.1)

  -- each part of all nodes is one of some node
  pub any_all : (k : ℕ) (nodes : List NodeNow) → NodesAt given k nodes → Every AnyAt (all_parts nodes)
  unfolding all_parts
  any_all k [] as' = tt
  any_all k (n ∷ more) as' =
      all-append AnyAt n.parts (all_parts more) (any k n.parts as'.0) (any_all (suc k) more as'.1)

  module _ (course : Course) (times : Times) (within : IsWithinWorst given.program times) where
    -- what each module sees at instant 0
    abbrev pub first_seen : ℕ → PortKey → ℤ
    first_seen = seen_at given first_sees 0 (first_nodes given)

    -- the modules' states after instant 0
    abbrev pub first_logic : ℕ → ModuleState
    first_logic = logic_first given (course 0) times within first_seen

    -- what instant 0 makes of a part
    abbrev pub Starts : Part → Part → Type 0
    Starts = HasStarted given (course 0) times within first_seen

    -- instant 0 of all nodes
    pub booted : AllBooted given (course 0) times within first_seen 0 (first_nodes given)
    booted = all_booted given (course 0) times within first_seen 0 (first_nodes given)
        (first_shapes given 0 given.placement.nodes) (nodes_at given 0 given.placement.nodes)
        (λ i. seen_at-is given first_sees 0 i (first_nodes given))

    -- the system after instant 0
    unfoldable pub first_system : System
    first_system = record { nodes = booted.after; flight = None; sent = 0 }

    module _ (gone : ℕ → ℕ → Type 0) where
      -- what is known of a part after instant 0
      abbrev AfterTurn : Part → Type 0
      AfterTurn = PartAfterTurn given gone 0 first_logic

      -- it holds of each part that has started
      part_after : (q r : Part) → AnyAt q → Starts q r → AfterTurn r
      part_after (Part.Host h s) r (j, a) (s', is, after) =
          let tables : HostTables given h =
          subst (HostTables given) (sym a.tables) (host_tables given gone h.number.0 a.definition a.there) in
          subst AfterTurn (sym is) (record { tables = tables; facts = after tables.definition tables.there })
      part_after (Part.Outside q t) r (j, a) is =
          let tables : StubTables given q = subst (StubTables given) (sym a.tables)
          (stub_tables given gone j q.number.0 a.definition a.there a.away a.near) in
          let m : Module = tables.definition in
          subst AfterTurn (sym is) (record {
            tables = tables;
            facts = subst (AllEntries (EntryFact m 1 (first_logic q.number.0)) q.entries) (sym a.entries)
                (none_waits m 1 (first_logic q.number.0) (λ e. stub_initials q e.task) q.entries);
            gots = subst (AllEntries (Got (gone q.number.0) m 1 1 (first_logic q.number.0)) q.entries) (sym a.entries)
                (none_got (gone q.number.0) m (first_logic q.number.0) (windows_of given.schedule q.number.0)
                (λ e. stub_initials q e.task) q.entries tables.receive tables.sender);
          })

      -- all parts after instant 0 are right, and each module has one host
      first_right : Parts given AfterTurn (all_parts booted.after)
      first_right = record {
        each = λ n q at.
            let l = zip-left Starts (all_parts (first_nodes given)) (all_parts booted.after) booted.started n q at in
            part_after l.item q (all-at AnyAt (all_parts (first_nodes given))
            (any_all 0 (first_nodes given) (nodes_at given 0 given.placement.nodes)) n l.item l.at) l.holds;
        once = hosted_once given 0 booted.after booted.shapes;
        hosted = λ kk m there.
            let i = hosted_in given kk m there in
            let r = zip-right Starts (all_parts (first_nodes given)) (all_parts booted.after) booted.started i.place
            (host_first (hosted_of given.schedule kk m)) i.at in
            record {
              place = i.place;
              host = hosted_of given.schedule kk m;
              state = r.holds.0;
              at = r.at ∙ ap Some r.holds.1;
              number = refl;
            };
      }

      -- no bus window begins at offset 0
      late : (kk : ℕ) (m : Module) → slice_get given.program.modules kk ≡ Some m → (n : ℕ) (w : ImageWindow) →
          slice_get (windows_of given.schedule kk) n ≡ Some w → w.bus ≡ true → 0 < w.offset
      late kk m there n w at bus =
          let a = ((host_tables given gone kk m there).wells n w at bus).after in omega (arith, a)

      -- the bus after instant 0 is free
      first_bus : BusFacts given 1 first_logic None
      first_bus = record {
        flies = λ f is. absurd (cc is);
        under = λ kk m there n w at bus mode begun open'.
            let a = late kk m there n w at bus in absurd (omega (arith, a, begun));
      }

      -- no part starts a frame at instant 0
      no_start : (q : Part) → AfterTurn q → starts 0 q ≡ []
      no_start (Part.Outside q t) b = refl
      no_start (Part.Host h s) b =
          ap (map (start_of h s)) (filter-none (starts_at 0 s) h.windows (λ n w at e.
          let bus = and_parts w.bus (is_mode w.mode s.mode && s.base + w.offset == 0) e in
          let begins = and_parts (is_mode w.mode s.mode) (s.base + w.offset == 0) bus.1 in
          let z = eqb-true (s.base + w.offset) 0 begins.1 in
          let a = (b.tables.wells n w at bus.0).after in
          omega (arith, z, a)))

      -- so none is started
      no_starts : flat_map (starts 0) (all_parts booted.after) ≡ []
      no_starts = flat-none (starts 0) (all_parts booted.after) (λ n q at. no_start q (first_right.each n q at))

      -- what is known of it
      pub first_stands : Stands given gone 0 first_logic first_system
      unfolding first_system
      first_stands = record {
        shapes = booted.shapes;
        size = booted.size
            ∙ length-map (numbered 0 (image_of given.program given.placement given.schedule) given.placement.nodes)
            node_first
            ∙ length-numbered (image_of given.program given.placement given.schedule) 0 given.placement.nodes;
        parts = first_right;
        bus = first_bus;
      }

    -- instant 0 of the compiler's bundle comes to it
    pub first_is : (lost : Lost) →
        instant 0 (course 0) times lost [] (system_first (bundle_of given.program given.placement given.schedule))
        ≡ record { rows = booted.rows ++ []; sendings = []; now = Now.Alive first_system }
    unfolding instant bundle_of first_system
    first_is lost =
        let t = booted.is in
        let s = sends_none 0 0 booted.after None 0 (starts-parts 0 booted.after ∙ no_starts (λ kk at. Unit {0})) in
        rw (t, s) refl

-- the run of the compiler's bundle begins in a system that stands
pub begun : (given : Accepted) (run : Conditions given) (losses : Losses) → Begun given run losses
unfolding run_to
begun given run losses = record {
  sys = first_system given run.course run.times run.within;
  logic = first_logic given run.course run.times run.within;
  is = ap (λ (r : Run). r.now) (first_is given run.course run.times run.within losses.lost);
  stands = first_stands given run.course run.times run.within (Gone losses);
  states = λ kk m there.
      ap (state_of given (run.course 0) run.times run.within
      (first_seen given run.course run.times run.within) kk) there;
}

-- the run of a bundle with the compiler's tables and counts is alive at every instant, and stands, whatever is lost
pub stands_along : (given : Accepted) (run : Conditions given) (losses : Losses) (bundle : Bundle) →
    HasTables bundle given.program given.placement given.schedule →
    HasCounts bundle given.program given.placement given.schedule → TakesAlong given run losses bundle → (x : ℕ) →
    Along given (Gone losses) (λ x logic s. Unit {0}) x
    (run_to bundle run.horizon run.course run.times losses.lost x)
stands_along given run losses bundle tables counts lose =
    let Alive : Run → Type 0 = Along given (Gone losses) (λ x logic s. Unit {0}) 0 in
    let f : Begun given run losses = begun given run losses in
    let compiled : Bundle = bundle_of given.program given.placement given.schedule in
    let first : Alive (run_to compiled run.horizon run.course run.times losses.lost 0) =
    record { sys = f.sys; logic = f.logic; is = f.is; stands = f.stands; also = tt } in
    along given run losses (λ x logic s. Unit {0}) (λ x logic s st also. tt) bundle lose
    (subst (λ c. Alive (run_to c run.horizon run.course run.times losses.lost 0))
    (sym (one_bundle bundle given.program given.placement given.schedule tables counts)) first)

-- so it has no trap, whatever is lost
pub never_traps : (given : Accepted) (bundle : Bundle) → HasTables bundle given.program given.placement given.schedule →
    HasCounts bundle given.program given.placement given.schedule → (horizon : ℕ) (course : Course) (times : Times) →
    IsWithinWorst given.program times → (lost : Lost) → IsAlive (machine_run bundle horizon course times lost).now
never_traps given bundle tables counts horizon course times within lost =
    let run : Conditions given = record { horizon = horizon; course = course; times = times; within = within } in
    let a = stands_along given run (any_losses lost) bundle tables counts
    (λ x logic s is stands. any_takes given lost (suc x) logic s.flight) horizon in
    subst IsAlive (sym a.is) tt
