-- The frames that start on the bus after the turns of an instant, and that none starts while another is there.
use Rattle.std.proofs.Common.{◌≡◌, ℕ, suc, ◌+◌, ◌<◌, List, [], ◌∷◌, filter, length, ◌&&◌, ◌==◌, Some, true, refl, ap, sym, ◌∙◌, subst, subst₂, arith}
use Rattle.std.specs.Prelude.{slice_get, flat_map}
use Rattle.std.proofs.lemmas.Bool.{eqb-true, eq-eqb, and_parts, and_from}
use Rattle.std.proofs.lemmas.List.{length-map}
use Rattle.std.proofs.lemmas.Option.{same_Some}
use Rattle.tdl_mode.specs.declared.program.Module.{Module}
use Rattle.tdl_mode.specs.States.{ModuleState}
use Rattle.tdl_frame.specs.Frames.{Frame}
use Rattle.tdl_image.specs.declared.hosted.Hosted.{Hosted}
use Rattle.tdl_image.specs.declared.hosted.ImageWindow.{ImageWindow}
use Rattle.tdl_verify.specs.States.{HostNow, Part}
use Rattle.tdl_verify.specs.Turns.{is_mode}
use Rattle.tdl_verify.specs.Bus.{Flight, Start, starts_at, start_of, starts}
use Rattle.tdl_gen.specs.Tables.{windows_of}
use Rattle.tdl_base.proofs.ListPlaces.{In, in-filter, in-flat, some-flat}
use Rattle.tdl_meaning.proofs.WindowSends.{sends_frame, carries_sent}
use Rattle.tdl_meaning.proofs.BusWindowsApart.{OnGrain}
use Rattle.tdl_meaning.proofs.OneStart.{AllOnBus, Busy, SenderStands, no_start_busy}
use Rattle.tdl_meaning.proofs.MappedLists.{map-to}
use Rattle.tdl_meaning.proofs.FilterCounts.{some-passes}
use Rattle.tdl_meaning.proofs.ImageWindows.{scheduled_window}
use Rattle.tdl_meaning.specs.Accepted.{Accepted}
use Rattle.tdl_meaning.specs.HostInStep.{HostAfter}
use Rattle.tdl_meaning.specs.BusFrames.{Carries, FlightFact}
use Rattle.tdl_meaning.specs.BusTables.{WellWindow}
use Rattle.tdl_meaning.specs.PartFacts.{PartAfterTurn, Parts}

-- a bus window of module kk, in the mode that the module is in
pub record ModeWindow (given : Accepted) (next : ℕ → ModuleState) (kk : ℕ) (m : Module) (w : ImageWindow) : Type 0 where
  pub there : slice_get given.program.modules kk ≡ Some m
  pub place : ℕ
  pub at : slice_get (windows_of given.schedule kk) place ≡ Some w
  pub bus : w.bus ≡ true
  pub mode' : w.mode ≡ (next kk).mode

module _ (given : Accepted) (gone : ℕ → ℕ → Type 0) (x : ℕ) (next : ℕ → ModuleState) (after : List Part)
    (known_after : Parts given (PartAfterTurn given gone x next) after) where
  -- the starts of all parts
  abbrev pub part_starts : List Start
  part_starts = flat_map (starts x) after

  -- what the bus needs of the parts
  pub on_bus : AllOnBus given after
  on_bus n (Part.Host h s) at =
      let b = known_after.each n (Part.Host h s) at in
      record {
        definition = b.tables.definition;
        there = b.tables.there;
        windows = b.tables.windows;
        mode = (next h.number.0).mode;
        mode' = b.facts.facts.mode';
        grain = subst (OnGrain b.tables.definition) (sym b.facts.facts.base) b.facts.facts.grain;
      }
  on_bus n (Part.Outside q t) at = tt

  -- the host of a module after the turns
  record Owned (kk : ℕ) (m : Module) : Type 0 where
    place : ℕ
    host : Hosted
    state : HostNow
    at : slice_get after place ≡ Some (Part.Host host state)
    number : host.number.0 ≡ kk
    windows : host.windows ≡ windows_of given.schedule kk
    wells : (n : ℕ) (w : ImageWindow) → slice_get host.windows n ≡ Some w → w.bus ≡ true → WellWindow m host w
    facts : HostAfter m host x (next kk) state

  -- each module has a host
  owned : (kk : ℕ) (m : Module) → slice_get given.program.modules kk ≡ Some m → Owned kk m
  owned kk m there =
      let o = known_after.hosted kk m there in
      let b = known_after.each o.place (Part.Host o.host o.state) o.at in
      let definition : b.tables.definition ≡ m =
      same_Some b.tables.definition m (sym b.tables.there ∙ ap (slice_get given.program.modules) o.number ∙ there) in
      record {
        place = o.place;
        host = o.host;
        state = o.state;
        at = o.at;
        number = o.number;
        windows = b.tables.windows ∙ ap (windows_of given.schedule) o.number;
        wells = subst (λ t. (n : ℕ) (w : ImageWindow) → slice_get o.host.windows n ≡ Some w → w.bus ≡ true →
            WellWindow t o.host w) definition b.tables.wells;
        facts = subst₂ (λ k t. HostAfter t o.host x (next k) o.state) o.number definition b.facts;
      }

  -- the frame of a bus window that starts: it is among the starts, and carries what the window's frame must
  pub record Starting (kk : ℕ) (m : Module) (w : ImageWindow) : Type 0 where
    pub frame : Frame
    pub until : ℕ
    pub listed : In (Start.Sends frame until) part_starts
    pub owner : frame.owner ≡ kk
    pub carries : (number : ℕ) →
        Carries m kk (suc x) (next kk) w (record { number = number; sent_at = x; until = until; frame = frame })

  -- a bus window whose start is at x starts a frame
  pub starting : (kk : ℕ) (m : Module) (w : ImageWindow) → ModeWindow given next kk m w →
      (next kk).base + w.offset ≡ x → Starting kk m w
  starting kk m w own begins =
      let o = owned kk m own.there in
      let at : slice_get o.host.windows own.place ≡ Some w = ap (λ ws. slice_get ws own.place) o.windows ∙ own.at in
      let ok = o.wells own.place w at own.bus in
      let now : o.state.base + w.offset ≡ x = ap (λ b. b + w.offset) o.facts.facts.base ∙ begins in
      let sent = sends_frame m o.host x (next kk) o.state o.facts w ok own.mode' now in
      let in_mode : is_mode w.mode o.state.mode ≡ true =
      ap (is_mode w.mode) o.facts.facts.mode' ∙ eq-eqb (next kk).mode w.mode (sym own.mode') in
      let test : starts_at x o.state w ≡ true =
      and_from _ _ own.bus (and_from _ _ in_mode (eq-eqb (o.state.base + w.offset) x now)) in
      let i = in-filter (starts_at x o.state) o.host.windows own.place w at test in
      let here : In (start_of o.host o.state w) (starts x (Part.Host o.host o.state)) = record {
        place = i.place;
        at = map-to (start_of o.host o.state) (filter (starts_at x o.state) o.host.windows) i.place w i.at;
      } in
      let among : In (start_of o.host o.state w) part_starts =
      in-flat (starts x) after o.place (Part.Host o.host o.state) (start_of o.host o.state w) o.at here in
      let until : ℕ = o.state.base + w.offset + w.length in
      let frame : Frame = record { owner = o.host.number.0; mode = w.mode; members = sent.member ∷ [] } in
      record {
        frame = frame;
        until = until;
        listed = subst (λ s. In s part_starts) sent.is among;
        owner = o.number;
        carries = λ number. subst (λ k. Carries m k (suc x) (next kk) w
            (record { number = number; sent_at = x; until = until; frame = frame })) o.number
            (carries_sent m o.host x (next kk) o.state o.facts w ok own.mode' now sent number);
      }

  -- a bus window that starts
  pub record SomeStart : Type 0 where
    pub kk : ℕ
    pub definition : Module
    pub window : ImageWindow
    pub own : ModeWindow given next kk definition window
    pub starts' : Starting kk definition window

  -- there is one where there are starts
  pub some_start : 0 < length part_starts → SomeStart
  some_start lt =
      let f = some-flat (starts x) after lt in
      by_part f.place f.item f.at f.some
    where
      by_part : (n : ℕ) (q : Part) → slice_get after n ≡ Some q → 0 < length (starts x q) → SomeStart
      by_part n (Part.Outside q t) at lt = absurd (omega (arith, lt))
      by_part n (Part.Host h s) at lt =
          let kk : ℕ = h.number.0 in
          let b = known_after.each n (Part.Host h s) at in
          let size = length-map (filter (starts_at x s) h.windows) (start_of h s) in
          let v = some-passes (starts_at x s) h.windows (omega (arith, lt, size)) in
          let bus = and_parts v.item.bus (is_mode v.item.mode s.mode && s.base + v.item.offset == x) v.passes in
          let now = and_parts (is_mode v.item.mode s.mode) (s.base + v.item.offset == x) bus.1 in
          let in_mode : is_mode v.item.mode (Some (next kk).mode) ≡ true =
          sym (ap (is_mode v.item.mode) b.facts.facts.mode') ∙ now.0 in
          let begins : (next kk).base + v.item.offset ≡ x =
          ap (λ j. j + v.item.offset) (sym b.facts.facts.base) ∙ eqb-true (s.base + v.item.offset) x now.1 in
          let own : ModeWindow given next kk b.tables.definition v.item = record {
            there = b.tables.there;
            place = v.place;
            at = ap (λ ws. slice_get ws v.place) (sym b.tables.windows) ∙ v.at;
            bus = bus.0;
            mode' = sym (eqb-true (next kk).mode v.item.mode in_mode);
          } in
          record {
            kk = kk;
            definition = b.tables.definition;
            window = v.item;
            own = own;
            starts' = starting kk b.tables.definition v.item own begins;
          }

  -- nothing starts while a frame is there
  pub no_start_flying : (f : Flight) → FlightFact given (suc x) next f → f.sent_at < x → x < f.until →
      length part_starts ≡ 0
  no_start_flying f q sent later =
      let c = q.flies.carries in
      let v = scheduled_window given.schedule q.owner q.flies.place q.flies.window q.flies.at q.flies.bus in
      let o = owned q.owner q.definition q.there in
      let from = c.from in
      let until = c.until in
      let off = v.offset' in
      let len = v.length' in
      let busy : Busy given x = record {
        place = v.place;
        window = v.window;
        at = v.at;
        bus = v.bus';
        definition = q.definition;
        there = ap (slice_get given.program.modules) v.module' ∙ q.there;
        base = (next q.owner).base;
        grain = o.facts.facts.grain;
        from = omega (arith, sent, from, off);
        until = omega (arith, later, until, off, len);
      } in
      no_start_busy given x busy after on_bus (stands busy v.module' (v.mode' ∙ c.mode') refl)
    where
      stands : (b : Busy given x) → b.window.module.0 ≡ q.owner → b.window.mode.0 ≡ (next q.owner).mode →
          b.base ≡ (next q.owner).base → (n : ℕ) (r : Part) → slice_get after n ≡ Some r → SenderStands given x b r
      stands b module' mode base n (Part.Outside r t) at = tt
      stands b module' mode base n (Part.Host h s) at = λ same.
          let d = known_after.each n (Part.Host h s) at in
          let e : h.number.0 ≡ q.owner = same ∙ module' in (
            d.facts.facts.mode' ∙ ap Some (ap (λ k. (next k).mode) e ∙ sym mode),
            d.facts.facts.base ∙ ap (λ k. (next k).base) e ∙ sym base,
          )
