-- What is known of all parts and of the bus before an instant, and that it stands after the turns.
use Rattle.std.proofs.Common.{◌≡◌, ℕ, suc, List, map, Option, Some, ap, sym, ◌∙◌, subst, subst₂}
use Rattle.std.specs.Prelude.{slice_get, ℤ}
use Rattle.tdl_base.specs.declared.numbers.PortKey.{PortKey}
use Rattle.std.proofs.lemmas.Option.{same_Some}
use Rattle.tdl_mode.specs.declared.program.Module.{Module}
use Rattle.tdl_base.specs.Sensed.{Sensed}
use Rattle.tdl_mode.specs.States.{TaskState, ModuleState}
use Rattle.tdl_image.specs.declared.hosted.Hosted.{Hosted}
use Rattle.tdl_image.specs.declared.stub.Stub.{Stub}
use Rattle.tdl_verify.specs.States.{HostNow, EntryNow, StubNow, Part}
use Rattle.tdl_verify.specs.Bus.{Flight}
use Rattle.tdl_verify.specs.Runs.{Lost}
use Rattle.tdl_gen.specs.Tables.{windows_of}
use Rattle.tdl_gen.proofs.StubMoves.{left_at, taken}
use Rattle.tdl_meaning.proofs.ActiveJobs.{Standing, well_modes}
use Rattle.tdl_meaning.proofs.EntryFacts.{entry_kept}
use Rattle.tdl_meaning.proofs.EntryLists.{each_entry, entries_each, left-each}
use Rattle.tdl_meaning.proofs.EntriesDelivered.{FlightOf, entry_landed, landed_fact, landed_got, got_kept}
use Rattle.tdl_meaning.proofs.HostJobs.{JobsActive, standing, live_before}
use Rattle.tdl_meaning.proofs.Deliveries.{part_landed}
use Rattle.tdl_meaning.proofs.MappedLists.{map-at, map-to}
use Rattle.tdl_base.proofs.SideBySide.{Zip, zip-left, zip-right}
use Rattle.tdl_meaning.specs.Accepted.{Accepted}
use Rattle.tdl_meaning.proofs.AllParts.{host_of, WasHost}
use Rattle.tdl_meaning.specs.HostInStep.{HostFacts}
use Rattle.tdl_meaning.specs.Entries.{EntryFact, Got}
use Rattle.tdl_meaning.specs.AllItems.{AllEntries}
use Rattle.tdl_meaning.specs.BusFrames.{LosesAt, Flies, BusFacts}
use Rattle.tdl_meaning.specs.PartFacts.{HostBefore, Parts, StubFacts, PartBefore, PartAfterTurn}
use Rattle.tdl_meaning.specs.OneNode.{logic_after, Stepped}

module _ (given : Accepted) (gone : ℕ → ℕ → Type 0) where
  -- what follows from the facts of a host holds of each module's logical state
  of_host : (x : ℕ) (logic : ℕ → ModuleState) (parts : List Part) → Parts given (PartBefore given gone x logic) parts →
      (Q : Module → ModuleState → Type 0) →
      ((m : Module) (h : Hosted) (r : ModuleState) (s : HostNow) → HostFacts m h x r s → Q m r) →
      (kk : ℕ) (m : Module) → slice_get given.program.modules kk ≡ Some m → Q m (logic kk)
  of_host x logic parts ps Q says kk m there =
      let o = ps.hosted kk m there in
      let b : HostBefore given x logic o.host o.state = ps.each o.place (Part.Host o.host o.state) o.at in
      let definition : b.tables.definition ≡ m =
      same_Some b.tables.definition m (sym b.tables.there ∙ ap (slice_get given.program.modules) o.number ∙ there) in
      subst₂ (λ k t. Q t (logic k)) o.number definition
      (says b.tables.definition o.host (logic o.host.number.0) o.state b.facts)

  -- each module stands at an offset of its mode
  pub stand : (x : ℕ) (logic : ℕ → ModuleState) (parts : List Part) →
      Parts given (PartBefore given gone x logic) parts → (kk : ℕ) (m : Module) →
      slice_get given.program.modules kk ≡ Some m → Standing m x (logic kk)
  stand x logic parts ps =
      of_host x logic parts ps (λ m r. Standing m x r) (λ m h r s f. standing m h x r s f)

  -- each job of a module's tasks is an active job
  pub jobs_active : (x : ℕ) (logic : ℕ → ModuleState) (parts : List Part) →
      Parts given (PartBefore given gone x logic) parts → (kk : ℕ) (m : Module) →
      slice_get given.program.modules kk ≡ Some m → JobsActive m x (logic kk)
  jobs_active x logic parts ps =
      of_host x logic parts ps (λ m r. JobsActive m x r) (λ m h r s f. live_before m h x r s f)

  -- each logical state has the definitions of its module and of its tasks
  pub texts_of : (x : ℕ) (logic : ℕ → ModuleState) (parts : List Part) →
      Parts given (PartBefore given gone x logic) parts → (kk : ℕ) (m : Module) →
      slice_get given.program.modules kk ≡ Some m →
      ((logic kk).definition ≡ m) × (map (λ (v : TaskState). v.definition) (logic kk).tasks ≡ m.tasks)
  texts_of x logic parts ps =
      of_host x logic parts ps (λ m r. (r.definition ≡ m) × (map (λ (v : TaskState). v.definition) r.tasks ≡ m.tasks))
      (λ m h r s f. (f.facts.definition, f.facts.definitions))

  module _ (x : ℕ) (sensed : Sensed) (seen : ℕ → PortKey → ℤ) (logic : ℕ → ModuleState) where
    -- the logical states after x
    abbrev next : ℕ → ModuleState
    next = logic_after x sensed seen logic

    -- the turn of one part
    abbrev Steps : Part → Part → Type 0
    Steps = Stepped given x sensed seen logic

    module _ (lost : Lost) (flight : Option Flight) (bus : BusFacts given x logic flight)
        (loses : LosesAt given gone x logic lost flight) where
      -- a flight of module kk is the frame of one of its bus windows
      flight_of : (kk : ℕ) (m : Module) → slice_get given.program.modules kk ≡ Some m →
          FlightOf m kk (windows_of given.schedule kk) x (logic kk) flight
      flight_of kk m there f is owner =
          let q = bus.flies f is in
          let n : q.owner ≡ kk = sym q.is ∙ owner in
          let e : q.definition ≡ m =
          same_Some q.definition m (sym q.there ∙ ap (slice_get given.program.modules) n ∙ there) in
          subst₂ (λ k t. Flies t k (windows_of given.schedule k) x (logic k) f) n e q.flies

      -- the entries of a stub after delivery
      abbrev landed_entries : Stub → StubNow → List EntryNow
      landed_entries q t = each_entry (entry_landed x lost q.number.0 flight) q.entries t.entries

      -- what is known of a stub stands after delivery
      pub stub_landed : (q : Stub) (t : StubNow) → StubFacts given gone x x logic q t →
          StubFacts given gone (suc x) x logic q (record t { entries = landed_entries q t })
      stub_landed q t f =
          let tb = f.tables in
          let kk : ℕ = q.number.0 in
          let fo = flight_of kk tb.definition tb.there in
          record {
            tables = tb;
            facts = entries_each (EntryFact tb.definition x (logic kk)) (EntryFact tb.definition x (logic kk))
                (entry_landed x lost kk flight) q.entries t.entries
                (λ n e now at fact. landed_fact tb.definition kk (windows_of given.schedule kk) x (logic kk) lost
                flight fo e
                (tb.receive n e at) now fact) f.facts;
            gots = entries_each (Got (gone kk) tb.definition x x (logic kk))
                (Got (gone kk) tb.definition (suc x) x (logic kk))
                (entry_landed x lost kk flight) q.entries t.entries
                (λ n e now at got. landed_got tb.definition kk (windows_of given.schedule kk) x (logic kk) lost flight
                fo
                (gone kk) (bus.under kk tb.definition tb.there) (loses kk tb.definition tb.there) e (tb.receive n e at)
                (tb.sender n e at) now got) f.gots;
          }

      -- what is known of a stub after the delivery stands after the turn
      stub_turned : (parts : List Part) → Parts given (PartBefore given gone x logic) parts → (q : Stub) (t : StubNow) →
          StubFacts given gone (suc x) x logic q t → StubFacts given gone (suc x) (suc x) next q (taken x q t)
      stub_turned parts ps q t f =
          let tb = f.tables in
          let kk : ℕ = q.number.0 in
          let m = tb.definition in
          let well = well_modes given kk m tb.there in
          let stood = stand x logic parts ps kk m tb.there in
          record {
            tables = tb;
            facts = subst (AllEntries (EntryFact m (suc x) (next kk)) q.entries)
                (sym (left-each (EntryFact m x (logic kk)) x q.entries t.entries f.facts))
                (entries_each (EntryFact m x (logic kk)) (EntryFact m (suc x) (next kk))
                (λ e now. left_at x now) q.entries t.entries
                (λ n e now at fact. entry_kept m well x (logic kk) stood kk sensed (seen kk) e now fact) f.facts);
            gots = subst (AllEntries (Got (gone kk) m (suc x) (suc x) (next kk)) q.entries)
                (sym (left-each (EntryFact m x (logic kk)) x q.entries t.entries f.facts))
                (entries_each (Got (gone kk) m (suc x) x (logic kk)) (Got (gone kk) m (suc x) (suc x) (next kk))
                (λ e now. left_at x now) q.entries t.entries
                (λ n e now at got. got_kept m well x (logic kk) stood kk sensed (seen kk) (windows_of given.schedule kk)
                (gone kk) e (tb.receive n e at) (tb.sender n e at) now got) f.gots);
          }

      -- what is known of a part stands after its turn
      part_turned : (parts : List Part) → Parts given (PartBefore given gone x logic) parts → (q q' : Part) →
          PartBefore given gone x logic q → Steps (part_landed x lost flight q) q' → PartAfterTurn given gone x next q'
      part_turned parts ps (Part.Host h s) q' b (s', is, after) =
          subst (PartAfterTurn given gone x next) (sym is)
          (record { tables = b.tables; facts = after b.tables.definition b.tables.there })
      part_turned parts ps (Part.Outside q t) q' b is =
          subst (PartAfterTurn given gone x next) (sym is)
          (stub_turned parts ps q (record t { entries = landed_entries q t }) (stub_landed q t b))

      -- a part that is a host after the turns was one before
      was_host : (parts after : List Part) → Zip Steps (map (part_landed x lost flight) parts) after →
          (n : ℕ) (h : Hosted) (s : HostNow) → slice_get after n ≡ Some (Part.Host h s) → WasHost parts n h
      was_host parts after z n h s at =
          let l = zip-left Steps (map (part_landed x lost flight) parts) after z n (Part.Host h s) at in
          let m = map-at (part_landed x lost flight) parts n l.item l.at in
          by_part m.item m.at (subst (λ q. Steps q (Part.Host h s)) m.is l.holds)
        where
          by_part : (q : Part) → slice_get parts n ≡ Some q → Steps (part_landed x lost flight q) (Part.Host h s) →
              WasHost parts n h
          by_part (Part.Host h0 s0) at (s', is, after) =
              record { state = s0; at = at ∙ ap (λ g. Some (Part.Host g s0)) (sym (ap (host_of h) is)) }
          by_part (Part.Outside q t) at is = absurd (cc is)

      -- what is known of all parts stands after their turns
      pub parts_turned : (parts after : List Part) → Parts given (PartBefore given gone x logic) parts →
          Zip Steps (map (part_landed x lost flight) parts) after → Parts given (PartAfterTurn given gone x next) after
      parts_turned parts after ps z = record {
        each = λ n q at.
            let l = zip-left Steps (map (part_landed x lost flight) parts) after z n q at in
            let m = map-at (part_landed x lost flight) parts n l.item l.at in
            part_turned parts ps m.item q (ps.each n m.item m.at) (subst (λ b. Steps b q) m.is l.holds);
        once = λ i j h h' s s' lt ai bj same.
            let a = was_host parts after z i h s ai in
            let b = was_host parts after z j h' s' bj in
            ps.once i j h h' a.state b.state lt a.at b.at same;
        hosted = λ kk m there.
            let o = ps.hosted kk m there in
            let r = zip-right Steps (map (part_landed x lost flight) parts) after z o.place (Part.Host o.host o.state)
            (map-to (part_landed x lost flight) parts o.place (Part.Host o.host o.state) o.at) in
            record {
              place = o.place;
              host = o.host;
              state = r.holds.0;
              at = r.at ∙ ap Some r.holds.1;
              number = o.number;
            };
      }
