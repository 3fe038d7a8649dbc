-- The turn of a node of hosted modules and stubs at instant 0 is in step with the logical instant.
use Rattle.std.proofs.Common.{◌≡◌, ℕ, suc, ◌≤◌, ℤ, List, [], ◌∷◌, ◌++◌, map, Some, None, refl, sym, ◌∙◌, subst, arith}
use Rattle.std.specs.Prelude.{slice_get}
use Rattle.tdl_base.specs.declared.numbers.PortKey.{PortKey}
use Rattle.tdl_mode.specs.declared.program.Module.{Module}
use Rattle.tdl_mode.specs.States.{look_of}
use Rattle.tdl_trace.specs.Shown.{Shown}
use Rattle.tdl_image.specs.declared.hosted.Hosted.{Hosted}
use Rattle.tdl_image.specs.declared.stub.Stub.{Stub}
use Rattle.tdl_base.specs.Sensed.{Sensed}
use Rattle.tdl_verify.specs.States.{HostNow, Part, Times, part_number, host_first, stub_first, stub_initials}
use Rattle.tdl_verify.specs.Turns.{due_of, due_entries}
use Rattle.tdl_gen.specs.Counts.{module_count}
use Rattle.tdl_gen.specs.Tables.{hosted_of}
use Rattle.tdl_gen.proofs.HostMoves.{Apart, Sees}
use Rattle.tdl_meaning.proofs.PhaseFour.{Timely}
use Rattle.tdl_meaning.proofs.IdleTurn.{idle_move}
use Rattle.tdl_meaning.proofs.CoveredWindows.{all_covered}
use Rattle.tdl_meaning.proofs.PartMoves.{Any, comes_also, PartMoves, NodeTurned, rows_in, shares_in, node_turned}
use Rattle.tdl_base.proofs.SideBySide.{Zip}
use Rattle.std.proofs.lemmas.Option.{same_Some}
use Rattle.tdl_mode.specs.Instants.{entered}
use Rattle.tdl_mode.specs.Phases.{phase_four}
use Rattle.tdl_image.specs.declared.stub.Receive.{Receive}
use Rattle.tdl_meaning.proofs.BootTurn.{boot_turn}
use Rattle.tdl_meaning.specs.Accepted.{Accepted}
use Rattle.tdl_meaning.specs.HostInStep.{HostAfter}
use Rattle.tdl_meaning.specs.AllItems.{Every}
use Rattle.tdl_meaning.specs.OneNode.{first_view, first_sees}

-- entries without a trigger are not due
none_due : (x q k : ℕ) (p : Stub) (n : ℕ) (es : List Receive) (copy : Receive → List ℤ) →
    due_entries x q k p n es (map (λ (e : Receive). record { copy = copy e; due = None }) es) ≡ []
none_due x q k p n [] copy = refl
none_due x q k p n (e ∷ es) copy = none_due x q k p (suc n) es copy

-- node `node`, its jobs within their worst cases
module _ (given : Accepted) (node : ℕ) (sensed : Sensed) (times : Times)
    (timely : (n : ℕ) (m : Module) → slice_get given.program.modules n ≡ Some m → Timely times n m) where
  -- a hosted module before instant 0
  pub record FirstHost (h : Hosted) (s : HostNow) : Type 0 where
    pub definition : Module
    pub there : slice_get given.program.modules h.number.0 ≡ Some definition
    pub is : Part.Host h s ≡ host_first (hosted_of given.schedule h.number.0 definition)

  -- a part before instant 0
  abbrev pub First : Part → Type 0
  First (Part.Host h s) = FirstHost h s
  First (Part.Outside q t) = Part.Outside q t ≡ stub_first q

  -- all parts of the node before instant 0
  abbrev pub AllFirst : List Part → Type 0
  AllFirst qs = Every First qs

  -- a part's share of the declared count: a stub takes nothing at instant 0
  abbrev pub share : (q : Part) → First q → ℕ
  share (Part.Host h s) g = module_count g.definition
  share (Part.Outside q t) g = 0

  -- the shares of all parts
  abbrev pub shares : (qs : List Part) → AllFirst qs → ℕ
  shares qs gs = shares_in First share qs gs

  -- what the node sees of its parts, and their numbers
  module _ (seen : PortKey → ℤ) (ns : List ℕ) (apart : Apart ns) where
    -- what a part comes to: a host to the logical state after instant 0, a stub stays as it is
    abbrev pub Stepped : Part → Part → Type 0
    Stepped (Part.Host h s) after = (s' : HostNow) × (after ≡ Part.Host h s')
        × ((m : Module) → slice_get given.program.modules h.number.0 ≡ Some m →
        HostAfter m h 0 (phase_four 0 (look_of h.number.0 (entered m).tasks sensed seen) (entered m)) s')
    Stepped (Part.Outside q t) after = after ≡ Part.Outside q t

    -- the row of a part: the start mode of a host
    abbrev pub entry_row : (q : Part) → First q → List Shown
    entry_row (Part.Host h s) g = Shown.Mode 0 node h.number.0 g.definition.start.0 ∷ []
    entry_row (Part.Outside q t) g = []

    -- the moves of a part with row `entry` and share `most`
    abbrev Moves : Part → List Shown → ℕ → Type 0
    Moves q entry most = PartMoves 0 node sensed times seen ns q (first_view q) (Stepped q) [] [] entry most

    -- the moves of a stub
    stub_moves : (q : Stub) → Moves (stub_first q) [] 0
    unfolding idle_move
    stub_moves q =
        let quiet : (r n : ℕ) → due_of 0 r n (stub_first q) ≡ [] =
        λ r n. none_due 0 r n q 0 q.entries (λ e. stub_initials q e.task) in
        record {
          one = idle_move 0 node sensed times 1 Any (stub_first q) (λ r lt n. quiet r n);
          two = idle_move 0 node sensed times 2 (Sees seen ns) (stub_first q) (λ r lt n. quiet r n);
          three = idle_move 0 node sensed times 3 (Sees seen ns) (stub_first q) (λ r lt n. quiet r n);
          four = idle_move 0 node sensed times 4 (Sees seen ns) (stub_first q) (λ r lt n. quiet r n);
          from = refl;
          one_two = refl;
          two_three = refl;
          three_four = refl;
          low = quiet 0;
          number = refl;
          outputs = λ o. refl;
          after = stub_first q;
          to = refl;
          comes = refl;
          shows_one = refl;
          shows_two = refl;
          shows_three = refl;
          shows_four = refl;
          cost = omega arith;
        }

    -- the moves of a hosted module
    host_moves : (k : ℕ) (m : Module) → slice_get given.program.modules k ≡ Some m →
        Moves (host_first (hosted_of given.schedule k m)) (Shown.Mode 0 node k m.start.0 ∷ []) (module_count m)
    host_moves k m there =
        comes_also (boot_turn given k m (given.well_formed.modules k m there)
        (all_covered given k m there (given.well_formed.modules k m there)) node sensed times
        (timely k m there) seen ns apart) (λ p c. (
          c.0,
          c.1,
          λ n at. subst (λ d. HostAfter d (hosted_of given.schedule k m) 0
              (phase_four 0 (look_of k (entered d).tasks sensed seen) (entered d)) c.0)
              (same_Some m n (sym there ∙ at)) c.2,
        ))

    -- the moves of each part
    made : (q : Part) (g : First q) → Moves q (entry_row q g) (share q g)
    made (Part.Host h s) g =
        subst (λ q. Moves q (Shown.Mode 0 node h.number.0 g.definition.start.0 ∷ []) (module_count g.definition))
        (sym g.is)
        (host_moves h.number.0 g.definition g.there)
    made (Part.Outside q t) g = subst (λ p. Moves p [] 0) (sym g) (stub_moves q)

    -- each part comes to its state
    abbrev pub AllBegun : List Part → List Part → Type 0
    AllBegun qs rs = Zip Stepped qs rs

    -- the rows of all parts
    abbrev pub entered_rows : (qs : List Part) → AllFirst qs → List Shown
    entered_rows qs gs = rows_in First entry_row qs gs

    -- phases 1 and 2 show nothing
    rows-none : (qs : List Part) (gs : AllFirst qs) → rows_in First (λ q g. []) qs gs ≡ []
    rows-none [] gs = refl
    rows-none (q ∷ qs) gs = rows-none qs gs.1

    -- the turn of instant 0 ends without a trap, each part comes to its state, and the plain rows are those of the
    -- parts
    abbrev pub BootDone : (declared : ℕ) (qs : List Part) → AllFirst qs → Type 0
    BootDone declared qs gs = NodeTurned 0 node sensed times Stepped declared qs (entered_rows qs gs)

    -- so it does where the node sees the initial outputs, and the shares of its parts are within the declared count
    pub boot_done : (declared : ℕ) (qs : List Part) (gs : AllFirst qs) → ns ≡ map part_number qs →
        seen ≡ first_sees qs → shares qs gs ≤ declared → BootDone declared qs gs
    boot_done declared qs gs are sees enough =
        subst (NodeTurned 0 node sensed times Stepped declared qs)
        (λ q. rows-none qs gs q ++ rows-none qs gs q ++ entered_rows qs gs)
        (node_turned 0 node sensed times seen ns First first_view (λ q. refl) Stepped (λ q g. []) (λ q g. []) entry_row
        share made declared qs gs are sees enough)
