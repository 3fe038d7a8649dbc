-- The turn of a node of hosted modules and stubs at an instant above 0, whatever its stubs received, is in step with
-- the logical instant.
use Rattle.std.proofs.Common.{◌≡◌, ℕ, ◌≤◌, ℤ, List, [], ◌∷◌, ◌++◌, map, length, Bool, true, false, ◌==◌, Some, refl, ap, sym, ◌∙◌, subst, arith}
use Rattle.std.specs.Prelude.{flat_map, slice_get}
use Rattle.std.proofs.lemmas.Bool.{eqb-true}
use Rattle.tdl_base.specs.declared.numbers.PortKey.{PortKey}
use Rattle.tdl_mode.specs.declared.program.Module.{Module}
use Rattle.tdl_mode.specs.States.{ModuleState}
use Rattle.tdl_mode.specs.Instants.{alone}
use Rattle.tdl_deploy.specs.Placed.{hosts}
use Rattle.tdl_trace.specs.Shown.{Shown}
use Rattle.tdl_image.specs.declared.hosted.Hosted.{Hosted}
use Rattle.tdl_image.specs.declared.stub.Stub.{Stub}
use Rattle.tdl_base.specs.Sensed.{Sensed}
use Rattle.tdl_verify.specs.States.{HostNow, StubNow, Part, Times, part_number}
use Rattle.tdl_gen.specs.Counts.{module_count, stub_count}
use Rattle.tdl_gen.specs.Tables.{hosted_of}
use Rattle.tdl_gen.proofs.Takes.{OwnBlocks}
use Rattle.tdl_gen.proofs.StubMoves.{taken, in_one, other_phase, takes_move, stub_quiet}
use Rattle.tdl_gen.specs.Takes.{OfMode}
use Rattle.tdl_gen.proofs.TakeCounts.{takes_fit}
use Rattle.tdl_gen.proofs.HostMoves.{Apart, Sees}
use Rattle.tdl_meaning.proofs.PhaseFour.{Timely}
use Rattle.tdl_meaning.proofs.HostTurns.{HostTurn}
use Rattle.tdl_meaning.proofs.DueTurn.{due_turn}
use Rattle.tdl_meaning.proofs.IdleTurn.{idle_move, idle_turn}
use Rattle.tdl_meaning.proofs.CoveredWindows.{all_covered}
use Rattle.tdl_meaning.proofs.PartMoves.{Any, comes_also, PartMoves, NodeTurned, rows_in, shares_in, node_turned}
use Rattle.std.proofs.lemmas.Option.{same_Some}
use Rattle.tdl_meaning.specs.Accepted.{Accepted}
use Rattle.tdl_meaning.specs.HostInStep.{HostFacts, HostAfter}
use Rattle.tdl_meaning.specs.AllItems.{Every}
use Rattle.tdl_meaning.specs.OneNode.{view, node_sees, Stepped, port_rows_of, act_rows_of, mode_rows_of, node_shows}

-- node `node` at instant x, its jobs within their worst cases, and the logical states before the instant
module _ (given : Accepted) (x node : ℕ) (sensed : Sensed) (times : Times)
    (timely : (n : ℕ) (m : Module) → slice_get given.program.modules n ≡ Some m → Timely times n m)
    (logic : ℕ → ModuleState) where
  -- a hosted module before the turn
  pub record GoodHost (h : Hosted) (s : HostNow) : Type 0 where
    pub definition : Module
    pub there : slice_get given.program.modules h.number.0 ≡ Some definition
    pub tables : h ≡ hosted_of given.schedule h.number.0 definition
    pub hosted : hosts given.placement node h.number.0 ≡ true
    pub facts : HostFacts definition (hosted_of given.schedule h.number.0 definition) x (logic h.number.0) s

  -- a stub before the turn: each entry has its block, and those that are due are of one mode
  pub record GoodStub (q : Stub) (t : StubNow) : Type 0 where
    pub own : OwnBlocks q
    pub size : length q.entries ≡ length t.entries
    pub mode : ℕ
    pub of : OfMode x mode q.entries t.entries

  -- a part before the turn
  abbrev pub Good : Part → Type 0
  Good (Part.Host h s) = GoodHost h s
  Good (Part.Outside q t) = GoodStub q t

  -- all parts of the node before the turn
  abbrev pub AllGood : List Part → Type 0
  AllGood qs = Every Good qs

  -- a view has the number of its part
  view-number : (q : Part) → (view x logic q).number ≡ part_number q
  view-number (Part.Host h s) = refl
  view-number (Part.Outside q t) = refl

  -- a part's share of the declared count
  abbrev pub share : (q : Part) → Good q → ℕ
  share (Part.Host h s) g = module_count g.definition
  share (Part.Outside q t) g = stub_count q

  -- the shares of all parts
  abbrev pub shares : (qs : List Part) → AllGood qs → ℕ
  shares qs gs = shares_in Good share qs gs

  -- what the node sees of its parts after phase 1, and their numbers
  module _ (seen : PortKey → ℤ) (ns : List ℕ) (apart : Apart ns) where
    -- what a part comes to
    abbrev Steps : Part → Part → Type 0
    Steps = Stepped given x sensed (λ kk. seen) logic

    -- its rows in phase 1
    abbrev ports : Part → List Shown
    ports = port_rows_of given x node logic

    -- its rows in phase 2
    abbrev acts : Part → List Shown
    acts = act_rows_of given x node sensed seen logic

    -- its rows in phase 3
    abbrev modes : Part → List Shown
    modes = mode_rows_of given x node sensed seen logic

    -- the moves of a part, with what it comes to, its rows and its share
    abbrev Moves : Part → ℕ → Type 0
    Moves q most = PartMoves x node sensed times seen ns q (view x logic q) (Steps q)
        (ports q) (acts q) (modes q) most

    -- a hosted module makes its turn in step with its logical instant, whether its trigger is due or not
    host_turn : (k : ℕ) (m : Module) (s : HostNow) (there : slice_get given.program.modules k ≡ Some m)
        (hosted : hosts given.placement node k ≡ true) (f : HostFacts m (hosted_of given.schedule k m) x (logic k) s) →
        HostTurn given k m x node sensed times seen ns (logic k) s
    host_turn k m s there hosted f = by_test (f.facts.next == f.offset) refl
      where
        by_test : (b : Bool) → (f.facts.next == f.offset) ≡ b →
            HostTurn given k m x node sensed times seen ns (logic k) s
        by_test true e = due_turn given k m (given.well_formed.modules k m there)
            (all_covered given k m there (given.well_formed.modules k m there)) x node hosted sensed times
            (timely k m there) seen ns apart (logic k) s f (eqb-true f.facts.next f.offset e)
        by_test false e = idle_turn given k m (given.well_formed.modules k m there)
            (all_covered given k m there (given.well_formed.modules k m there)) x node hosted sensed times
            (timely k m there) seen ns apart (logic k) s f e

    -- the moves of a hosted module with the tables of the compiler
    host_moves : (k : ℕ) (m : Module) (s : HostNow) → slice_get given.program.modules k ≡ Some m →
        hosts given.placement node k ≡ true → HostFacts m (hosted_of given.schedule k m) x (logic k) s →
        Moves (Part.Host (hosted_of given.schedule k m) s) (module_count m)
    host_moves k m s there hosted f =
        comes_also (host_turn k m s there hosted f) (λ p c. (
          c.0,
          c.1,
          λ n at. subst (λ d. HostAfter d (hosted_of given.schedule k m) x (alone k x sensed seen (logic k)) c.0)
              (same_Some m n (sym there ∙ at)) c.2,
        ))

    -- the moves of each part
    made : (q : Part) (g : Good q) → Moves q (share q g)
    unfolding takes_move idle_move
    made (Part.Host h s) g = subst (λ c. Moves (Part.Host c s) (module_count g.definition)) (sym g.tables)
        (host_moves h.number.0 g.definition s g.there g.hosted g.facts)
    made (Part.Outside q t) g =
        let after : Part = Part.Outside q (taken x q t) in
        let fit = takes_fit x g.mode q t.entries g.size g.of in
        record {
          one = takes_move x node sensed times Any (λ front back a b e. tt) q g.own t g.size;
          two = idle_move x node sensed times 2 (Sees seen ns) after (λ r lt n. stub_quiet x q t r n);
          three = idle_move x node sensed times 3 (Sees seen ns) after (λ r lt n. stub_quiet x q t r n);
          four = idle_move x node sensed times 4 (Sees seen ns) after (λ r lt n. stub_quiet x q t r n);
          from = refl;
          one_two = refl;
          two_three = refl;
          three_four = refl;
          low = λ n. other_phase x 0 n q 0 q.entries t.entries (in_one q g.own) refl;
          number = refl;
          outputs = λ o. refl;
          after = after;
          to = refl;
          comes = refl;
          shows_one = refl;
          shows_two = refl;
          shows_three = refl;
          shows_four = refl;
          cost = omega (arith, fit);
        }

    -- rows that depend on the part alone
    rows-plain : (f : Part → List Shown) (qs : List Part) (gs : AllGood qs) →
        rows_in Good (λ q g. f q) qs gs ≡ flat_map f qs
    rows-plain f [] gs = refl
    rows-plain f (q ∷ qs) gs = ap (λ l. f q ++ l) (rows-plain f qs gs.1)

    -- the turn ends without a trap, each part comes to its state, and the plain rows are those of the parts, where the
    -- node sees its parts after phase 1, and their shares are within the declared count
    pub node_finishes : (declared : ℕ) (qs : List Part) (gs : AllGood qs) → ns ≡ map part_number qs →
        seen ≡ node_sees x logic qs → shares qs gs ≤ declared →
        NodeTurned x node sensed times Steps declared qs (node_shows given x node sensed seen logic qs)
    node_finishes declared qs gs are sees enough =
        subst (NodeTurned x node sensed times Steps declared qs)
        (λ q. rows-plain ports qs gs q ++ rows-plain acts qs gs q ++ rows-plain modes qs gs q)
        (node_turned x node sensed times seen ns Good (view x logic) view-number Steps
        (λ q g. ports q) (λ q g. acts q) (λ q g. modes q) share made
        declared qs gs are sees enough)
