-- The sends of an instant trap on no node whatever is lost, and keep what is known of the bus.
use Rattle.std.proofs.Common.{◌≡◌, ℕ, zero, suc, ◌+◌, ◌<◌, ◌≤◌, List, [], ◌∷◌, length, Bool, true, false, ◌==◌, Option, Some, None, refl, ap, sym, ◌∙◌, subst, arith}
use Rattle.std.specs.Prelude.{ℤ, slice_get, if◌then◌else◌, flat_map}
use Rattle.std.proofs.lemmas.Bool.{eqb-true}
use Rattle.std.proofs.lemmas.Bool.Decides.{nat_tests}
use Rattle.std.proofs.lemmas.Option.{same_Some}
use Rattle.tdl_base.specs.declared.numbers.PortKey.{PortKey}
use Rattle.tdl_mode.specs.declared.program.Module.{Module}
use Rattle.tdl_base.specs.Sensed.{Sensed}
use Rattle.tdl_mode.specs.States.{ModuleState}
use Rattle.tdl_frame.specs.Frames.{Frame}
use Rattle.tdl_image.specs.declared.hosted.ImageWindow.{ImageWindow}
use Rattle.tdl_verify.specs.States.{Part, NodeNow}
use Rattle.tdl_verify.specs.Bus.{Flight, Start, starts}
use Rattle.tdl_verify.specs.Runs.{still_flying, all_sends}
use Rattle.tdl_gen.specs.Tables.{windows_of}
use Rattle.tdl_verify.proofs.NodeSends.{all_starts, sends_none, sends_one, all_parts, starts-parts}
use Rattle.tdl_base.proofs.ListPlaces.{only-one, none-in}
use Rattle.std.proofs.lemmas.List.{nil_from_length}
use Rattle.tdl_meaning.proofs.ActiveJobs.{Standing, same_cycle, well_modes}
use Rattle.tdl_meaning.proofs.FramesOnBus.{flight_kept}
use Rattle.tdl_meaning.proofs.OneStart.{one_start_all}
use Rattle.tdl_meaning.proofs.BusStarts.{ModeWindow, part_starts, on_bus, Starting, starting, SomeStart, some_start, no_start_flying}
use Rattle.tdl_meaning.specs.OneNode.{logic_after}
use Rattle.tdl_meaning.specs.Accepted.{Accepted}
use Rattle.tdl_meaning.specs.BusFrames.{Carries, Under, UnderWay, FlightFact, BusFacts}
use Rattle.tdl_meaning.specs.PartFacts.{PartAfterTurn, Parts}
use Rattle.tdl_meaning.specs.BusTurn.{SendsDone}

module _ (given : Accepted) (gone : ℕ → ℕ → Type 0) (x : ℕ) (sensed : Sensed) (seen : ℕ → PortKey → ℤ)
    (logic : ℕ → ModuleState)
    (stands : (kk : ℕ) (m : Module) → slice_get given.program.modules kk ≡ Some m → Standing m x (logic kk))
    (flight : Option Flight) (bus : BusFacts given x logic flight) (after : List Part)
    (known_after : Parts given (PartAfterTurn given gone x (logic_after x sensed seen logic)) after) where
  -- the logical state of each module after x
  abbrev next : ℕ → ModuleState
  next = logic_after x sensed seen logic

  -- the starts of all parts
  abbrev list : List Start
  list = part_starts given gone x next after known_after

  -- the frame of a bus window that starts at x
  abbrev Fresh : ℕ → Module → ImageWindow → Type 0
  Fresh = Starting given gone x next after known_after

  -- a frame that stays on the bus
  abbrev Flying : Flight → Type 0
  Flying f = (flight ≡ Some f) × (x < f.until)

  -- ---- what was on the bus before

  -- a bus window that began before x and goes on after x has its frame on the bus
  old_under : (kk : ℕ) (m : Module) (w : ImageWindow) → ModeWindow given next kk m w → (next kk).base + w.offset < x →
      suc x ≤ (next kk).base + w.offset + w.length →
      (f : Flight) × Flying f × Carries m kk (suc x) (next kk) w f
  old_under kk m w own begun open' =
      let well = well_modes given kk m own.there in
      let stood = stands kk m own.there in
      let b = same_cycle m well x (logic kk) stood kk sensed (seen kk) w.offset begun in
      let base = b.base in
      let u = bus.under kk m own.there own.place w own.at own.bus (own.mode' ∙ b.mode') (omega (arith, begun, base))
      (omega (arith, open', base)) in
      let until = u.carries.until in
      let later : x < u.frame.until = omega (arith, until, open', base) in (
        u.frame,
        (u.is, later),
        flight_kept m well x (logic kk) stood kk sensed (seen kk) kk w u.frame u.carries later,
      )

  -- a frame that stays keeps its facts
  kept_fact : (f : Flight) → flight ≡ Some f → x < f.until → FlightFact given (suc x) next f
  kept_fact f is later =
      let q = bus.flies f is in
      record {
        owner = q.owner;
        definition = q.definition;
        there = q.there;
        is = q.is;
        flies = record {
          place = q.flies.place;
          window = q.flies.window;
          at = q.flies.at;
          bus = q.flies.bus;
          carries = flight_kept q.definition (well_modes given q.owner q.definition q.there) x (logic q.owner)
              (stands q.owner q.definition q.there) q.owner sensed (seen q.owner) q.owner q.flies.window f
              q.flies.carries
              later;
        };
      }

  -- a bus window under way after x has its frame on the bus: where it starts at x, and where it began before
  under_all : (flight' : Option Flight) →
      ((kk : ℕ) (m : Module) (w : ImageWindow) → Fresh kk m w → Under m kk (suc x) (next kk) w flight') →
      ((kk : ℕ) (m : Module) (w : ImageWindow) (f : Flight) → Flying f → Carries m kk (suc x) (next kk) w f →
      Under m kk (suc x) (next kk) w flight') →
      (kk : ℕ) (m : Module) → slice_get given.program.modules kk ≡ Some m →
      UnderWay m kk (windows_of given.schedule kk) (suc x) (next kk) flight'
  under_all flight' fresh old kk m there n w at wb mode begun open' = by_time ((next kk).base + w.offset == x) refl
    where
      own : ModeWindow given next kk m w
      own = record { there = there; place = n; at = at; bus = wb; mode' = mode }

      below : (a b : ℕ) → (a == b) ≡ false → a < suc b → a < b
      below a b e lt = grind (arith, nat_tests, e, lt)

      by_time : (b : Bool) → ((next kk).base + w.offset == x) ≡ b → Under m kk (suc x) (next kk) w flight'
      by_time true t =
          fresh kk m w
          (starting given gone x next after known_after kk m w own (eqb-true ((next kk).base + w.offset) x t))
      by_time false t =
          let u = old_under kk m w own (below ((next kk).base + w.offset) x t begun) open' in
          old kk m w u.0 u.1 u.2

  -- ---- the sends

  -- the nodes after the turns have these parts
  abbrev Nodes : List NodeNow → Type 0
  Nodes nodes = all_parts nodes ≡ after

  -- so their starts are those of the parts
  starts-list : (nodes : List NodeNow) → Nodes nodes → all_starts x nodes ≡ list
  starts-list nodes e = starts-parts x nodes ∙ ap (flat_map (starts x)) e

  -- where there are no starts no frame is new
  not_fresh : length list ≡ 0 → (kk : ℕ) (m : Module) (w : ImageWindow) → Fresh kk m w → ⊥
  not_fresh none kk m w s = none-in (Start.Sends s.frame s.until) list none s.listed

  -- nothing starts while a frame stays
  done_busy : (nodes : List NodeNow) (count : ℕ) → Nodes nodes → (f : Flight) → flight ≡ Some f → x < f.until →
      still_flying x flight ≡ Some f → SendsDone given x next flight nodes count
  done_busy nodes count e f is later still =
      let q = kept_fact f is later in
      let sent = (bus.flies f is).flies.carries.begun in
      let none = no_start_flying given gone x next after known_after f q sent later in
      let no_starts : all_starts x nodes ≡ [] = starts-list nodes e ∙ nil_from_length list none in
      record {
        flight' = Some f;
        count' = count;
        rows = [];
        sendings = [];
        is = ap (λ o. all_sends x 0 nodes o count) still ∙ sends_none x 0 nodes (Some f) count no_starts;
        shown = refl;
        facts = record {
          flies = λ g s. subst (FlightFact given (suc x) next) (same_Some f g s) q;
          under = under_all (Some f) (λ kk m w s. absurd (not_fresh none kk m w s)) stays;
        };
      }
    where
      stays : (kk : ℕ) (m : Module) (w : ImageWindow) (g : Flight) → Flying g → Carries m kk (suc x) (next kk) w g →
          Under m kk (suc x) (next kk) w (Some f)
      stays kk m w g fl carries = record {
        frame = f;
        is = refl;
        carries = subst (Carries m kk (suc x) (next kk) w) (same_Some g f (sym fl.0 ∙ is)) carries;
      }

  -- the bus stays free where nothing starts
  done_none : (nodes : List NodeNow) (count : ℕ) → Nodes nodes → ((f : Flight) → Flying f → ⊥) →
      still_flying x flight ≡ None → length list ≡ 0 → SendsDone given x next flight nodes count
  done_none nodes count e free still none =
      let no_starts : all_starts x nodes ≡ [] = starts-list nodes e ∙ nil_from_length list none in
      record {
        flight' = None;
        count' = count;
        rows = [];
        sendings = [];
        is = ap (λ o. all_sends x 0 nodes o count) still ∙ sends_none x 0 nodes None count no_starts;
        shown = refl;
        facts = record {
          flies = λ g s. absurd (cc s);
          under = under_all None (λ kk m w s. absurd (not_fresh none kk m w s)) (λ kk m w f fl c. absurd (free f fl));
        };
      }

  -- the frame of a start on the bus
  abbrev flown : ℕ → Frame → ℕ → Flight
  flown count frame until = record { number = suc count; sent_at = x; until = until; frame = frame }

  -- a start whose frame carries what the bus window's must
  abbrev Carried : ℕ → ℕ → Module → ImageWindow → Start → Type 0
  Carried count kk m w (Start.Sends f u) = Carries m kk (suc x) (next kk) w (flown count f u)
  Carried count kk m w s = Unit {0}

  -- where the bus is free, the one frame that starts is sent
  done_one : (nodes : List NodeNow) (count : ℕ) → Nodes nodes → ((f : Flight) → Flying f → ⊥) →
      still_flying x flight ≡ None → length list ≤ 1 → SomeStart given gone x next after known_after →
      SendsDone given x next flight nodes count
  done_one nodes count e free still le f =
      let s = f.starts' in
      let r = sends_one x 0 nodes count s.frame s.until (starts-list nodes e ∙ one f.kk f.definition f.window s) in
      let fact : FlightFact given (suc x) next (flown count s.frame s.until) = record {
        owner = f.kk;
        definition = f.definition;
        there = f.own.there;
        is = s.owner;
        flies = record {
          place = f.own.place;
          window = f.window;
          at = f.own.at;
          bus = f.own.bus;
          carries = s.carries (suc count);
        };
      } in
      record {
        flight' = Some (flown count s.frame s.until);
        count' = suc count;
        rows = r.rows;
        sendings = r.sendings;
        is = ap (λ o. all_sends x 0 nodes o count) still ∙ r.is;
        shown = r.shown;
        facts = record {
          flies = λ g q. subst (FlightFact given (suc x) next) (same_Some (flown count s.frame s.until) g q) fact;
          under = under_all (Some (flown count s.frame s.until))
              (it_is s.frame s.until (one f.kk f.definition f.window s))
              (λ kk m w g fl c. absurd (free g fl));
        };
      }
    where
      one : (kk : ℕ) (m : Module) (w : ImageWindow) (s : Fresh kk m w) → list ≡ Start.Sends s.frame s.until ∷ []
      one kk m w s = only-one (Start.Sends s.frame s.until) list le s.listed

      it_is : (frame : Frame) (until : ℕ) → list ≡ Start.Sends frame until ∷ [] → (kk : ℕ) (m : Module)
          (w : ImageWindow) → Fresh kk m w → Under m kk (suc x) (next kk) w (Some (flown count frame until))
      it_is frame until is kk m w s =
          let same : Start.Sends s.frame s.until ≡ Start.Sends frame until =
          same_Some (Start.Sends s.frame s.until) (Start.Sends frame until)
          (ap (λ l. slice_get l 0) (sym (one kk m w s) ∙ is)) in
          record {
            frame = flown count frame until;
            is = refl;
            carries = subst (Carried count kk m w) same (s.carries (suc count));
          }

  -- the sends of all nodes end without a trap
  pub sends_done : (nodes : List NodeNow) (count : ℕ) → Nodes nodes → SendsDone given x next flight nodes count
  sends_done nodes count e = by_flight flight refl
    where
      le : length list ≤ 1
      le = one_start_all given x after (on_bus given gone x next after known_after) known_after.once

      free_done : ((f : Flight) → Flying f → ⊥) → still_flying x flight ≡ None →
          SendsDone given x next flight nodes count
      free_done free still = by_count (length list) refl
        where
          by_count : (n : ℕ) → length list ≡ n → SendsDone given x next flight nodes count
          by_count zero q = done_none nodes count e free still q
          by_count (suc n) q =
              done_one nodes count e free still le (some_start given gone x next after known_after (omega (arith, q)))

      later : (a b : ℕ) → a ≤ b → (b == a) ≡ false → a < b
      later a b le ne = grind (arith, nat_tests, le, ne)

      lands : (f : Flight) → flight ≡ Some f → f.until ≡ x → (g : Flight) → Flying g → ⊥
      lands f is now g fl =
          let until : f.until ≡ g.until = ap (λ (h : Flight). h.until) (same_Some f g (sym is ∙ fl.0)) in
          let lt = fl.1 in
          omega (arith, until, now, lt)

      by_until : (f : Flight) → flight ≡ Some f → (b : Bool) → (f.until == x) ≡ b →
          SendsDone given x next flight nodes count
      by_until f is true t =
          free_done (lands f is (eqb-true f.until x t))
          (ap (still_flying x) is ∙ ap (λ b. if b then None else Some f) t)
      by_until f is false t =
          done_busy nodes count e f is (later x f.until ((bus.flies f is).flies.carries.open') t)
          (ap (still_flying x) is ∙ ap (λ b. if b then None else Some f) t)

      by_flight : (o : Option Flight) → flight ≡ o → SendsDone given x next flight nodes count
      by_flight None is = free_done (λ g fl. let h = fl.0 in absurd (cc (is, h))) (ap (still_flying x) is)
      by_flight (Some f) is = by_until f is (f.until == x) refl
