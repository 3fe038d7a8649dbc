-- The starts of all parts at an instant are at most one, and none while a frame is in flight.
use Rattle.std.proofs.Common.{◌≡◌, ℕ, ◌+◌, ◌-◌, ◌<◌, ◌≤◌, List, filter, length, Bool, true, false, ◌&&◌, ◌==◌, Some, refl, ap, sym, ◌∙◌, arith}
use Rattle.std.specs.Prelude.{slice_get, flat_map}
use Rattle.std.proofs.lemmas.Bool.{eqb-true, eq-eqb, and_parts}
use Rattle.std.proofs.lemmas.List.{length-map}
use Rattle.std.proofs.lemmas.Option.{same_Some}
use Rattle.tdl_mode.specs.declared.program.Module.{Module}
use Rattle.tdl_deploy.specs.declared.schedule.Window.{Window}
use Rattle.tdl_image.specs.declared.hosted.Hosted.{Hosted}
use Rattle.tdl_verify.specs.States.{HostNow, Part}
use Rattle.tdl_verify.specs.Turns.{is_mode}
use Rattle.tdl_verify.specs.Bus.{starts_at, start_of, starts}
use Rattle.tdl_deploy.specs.Passes.{is_bus}
use Rattle.tdl_gen.specs.Tables.{image_window, windows_of}
use Rattle.tdl_meaning.proofs.FilterCounts.{some-passes, one-passes, one-flat, none-flat}
use Rattle.tdl_meaning.proofs.ImageWindows.{windows-count}
use Rattle.tdl_meaning.proofs.BusWindowsApart.{OnGrain, two_modules, one_module}
use Rattle.tdl_meaning.specs.Accepted.{Accepted}

module _ (given : Accepted) where
  -- what the bus needs of a hosted module after its turn
  pub record OnBus (h : Hosted) (s : HostNow) : Type 0 where
    pub definition : Module
    pub there : slice_get given.program.modules h.number.0 ≡ Some definition
    pub windows : h.windows ≡ windows_of given.schedule h.number.0
    pub mode : ℕ
    pub mode' : s.mode ≡ Some mode
    pub grain : OnGrain definition s.base

  -- what the bus needs of a part after its turn: nothing of a stub
  abbrev BusPart : Part → Type 0
  BusPart (Part.Host h s) = OnBus h s
  BusPart (Part.Outside q t) = Unit {0}

  -- what the bus needs of all parts
  abbrev pub AllOnBus : List Part → Type 0
  AllOnBus parts = (n : ℕ) (q : Part) → slice_get parts n ≡ Some q → BusPart q

  -- no two parts host one module
  abbrev HostedOnce : List Part → Type 0
  HostedOnce parts = (i j : ℕ) (h h' : Hosted) (s s' : HostNow) → i < j → slice_get parts i ≡ Some (Part.Host h s) →
      slice_get parts j ≡ Some (Part.Host h' s') → h.number.0 ≡ h'.number.0 → ⊥

  -- a bus window of the hosted module in the schedule that starts at x
  pub record Begins (x : ℕ) (h : Hosted) (s : HostNow) (b : OnBus h s) : Type 0 where
    pub place : ℕ
    pub window : Window
    pub at : slice_get given.schedule.windows place ≡ Some window
    pub module' : window.module.0 ≡ h.number.0
    pub bus : is_bus window.resource ≡ true
    pub mode' : window.mode.0 ≡ b.mode
    pub now : s.base + window.offset ≡ x

  -- a window of the schedule is one of the hosted module that starts at x
  abbrev begins_at : ℕ → Hosted → HostNow → Window → Bool
  begins_at x h s w = w.module.0 == h.number.0 && starts_at x s (image_window w)

  -- a window of the schedule that passes this test begins at x
  begins_from : (x : ℕ) (h : Hosted) (s : HostNow) (b : OnBus h s) (n : ℕ) (w : Window) →
      slice_get given.schedule.windows n ≡ Some w → begins_at x h s w ≡ true → Begins x h s b
  begins_from x h s b n w at e =
      let q = and_parts (w.module.0 == h.number.0) (starts_at x s (image_window w)) e in
      let q2 = and_parts (is_bus w.resource) (is_mode w.mode.0 s.mode && s.base + w.offset == x) q.1 in
      let q3 = and_parts (is_mode w.mode.0 s.mode) (s.base + w.offset == x) q2.1 in
      record {
        place = n;
        window = w;
        at = at;
        module' = eqb-true w.module.0 h.number.0 q.0;
        bus = q2.0;
        mode' = sym (eqb-true b.mode w.mode.0 (sym (ap (is_mode w.mode.0) b.mode') ∙ q3.0));
        now = eqb-true (s.base + w.offset) x q3.1;
      }

  -- the starts of a hosted module are as many as the windows of the schedule that begin
  part-count : (x : ℕ) (h : Hosted) (s : HostNow) → OnBus h s →
      length (starts x (Part.Host h s)) ≡ length (filter (begins_at x h s) given.schedule.windows)
  part-count x h s b =
      length-map (filter (starts_at x s) h.windows) (start_of h s)
      ∙ ap (λ ws. length (filter (starts_at x s) ws)) b.windows
      ∙ windows-count given.schedule h.number.0 (starts_at x s)

  -- a hosted module with a start has a window that begins
  begins : (x : ℕ) (h : Hosted) (s : HostNow) (b : OnBus h s) → 0 < length (starts x (Part.Host h s)) →
      Begins x h s b
  begins x h s b lt =
      let c = part-count x h s b in
      let q = some-passes (begins_at x h s) given.schedule.windows (omega (arith, lt, c)) in
      begins_from x h s b q.place q.item q.at q.passes

  -- a hosted module has at most one start
  one_part : (x : ℕ) (h : Hosted) (s : HostNow) → OnBus h s → length (starts x (Part.Host h s)) ≤ 1
  unfolding begins_from
  one_part x h s b =
      let c = part-count x h s b in
      let one = one-passes (begins_at x h s) given.schedule.windows two in
      omega (arith, c, one)
    where
      two : (i j : ℕ) (v w : Window) → i < j → slice_get given.schedule.windows i ≡ Some v →
          slice_get given.schedule.windows j ≡ Some w → begins_at x h s v ≡ true → begins_at x h s w ≡ true → ⊥
      two i j v w lt vi wj e f =
          let a = begins_from x h s b i v vi e in
          let d = begins_from x h s b j w wj f in
          let now = a.now in
          let now' = d.now in
          let la = given.passes.lengths i v vi in
          let ld = given.passes.lengths j w wj in
          one_module given i j v w (λ e. omega (arith, e, lt)) vi wj a.bus d.bus (a.module' ∙ sym d.module')
          (a.mode' ∙ sym d.mode') v.offset (omega arith) (omega (arith, la)) (omega (arith, now, now'))
          (omega (arith, now, now', ld))

  -- all parts together have at most one start
  pub one_start_all : (x : ℕ) (parts : List Part) → AllOnBus parts → HostedOnce parts →
      length (flat_map (starts x) parts) ≤ 1
  one_start_all x parts on once = one-flat (starts x) parts each two
    where
      each : (n : ℕ) (q : Part) → slice_get parts n ≡ Some q → length (starts x q) ≤ 1
      each n (Part.Host h s) at = one_part x h s (on n (Part.Host h s) at)
      each n (Part.Outside q t) at = omega arith

      two : (i j : ℕ) (a b : Part) → i < j → slice_get parts i ≡ Some a → slice_get parts j ≡ Some b →
          0 < length (starts x a) → 0 < length (starts x b) → ⊥
      two i j (Part.Outside q t) b lt ai bj la lb = absurd (omega (arith, la))
      two i j (Part.Host h s) (Part.Outside q t) lt ai bj la lb = absurd (omega (arith, lb))
      two i j (Part.Host h s) (Part.Host h' s') lt ai bj la lb =
          let c = on i (Part.Host h s) ai in
          let c' = on j (Part.Host h' s') bj in
          let a = begins x h s c la in
          let b = begins x h' s' c' lb in
          let l = given.passes.lengths a.place a.window a.at in
          let l' = given.passes.lengths b.place b.window b.at in
          two_modules given a.place b.place a.window b.window a.at b.at a.bus b.bus
          (λ e. once i j h h' s s' lt ai bj (sym a.module' ∙ e ∙ b.module')) c.definition c'.definition
          (ap (slice_get given.program.modules) a.module' ∙ c.there)
          (ap (slice_get given.program.modules) b.module' ∙ c'.there)
          s.base s'.base a.window.offset b.window.offset c.grain c'.grain (omega arith) (omega (arith, l))
          (omega arith) (omega (arith, l')) (a.now ∙ sym b.now)

  -- a bus window of the schedule that is under way at x, where its module's cycle began at the base
  pub record Busy (x : ℕ) : Type 0 where
    pub place : ℕ
    pub window : Window
    pub at : slice_get given.schedule.windows place ≡ Some window
    pub bus : is_bus window.resource ≡ true
    pub definition : Module
    pub there : slice_get given.program.modules window.module.0 ≡ Some definition
    pub base : ℕ
    pub grain : OnGrain definition base
    pub from : base + window.offset < x
    pub until : x < base + window.offset + window.length

  -- where a part hosts the window's module, it is in the window's mode and its cycle began at the window's base
  abbrev pub SenderStands : (x : ℕ) → Busy x → Part → Type 0
  SenderStands x b (Part.Host h s) = h.number.0 ≡ b.window.module.0 →
      (s.mode ≡ Some b.window.mode.0) × (s.base ≡ b.base)
  SenderStands x b (Part.Outside q t) = Unit {0}

  -- no part has a start while a bus window is under way
  pub no_start_busy : (x : ℕ) (b : Busy x) (parts : List Part) → AllOnBus parts →
      ((n : ℕ) (q : Part) → slice_get parts n ≡ Some q → SenderStands x b q) → length (flat_map (starts x) parts) ≡ 0
  no_start_busy x b parts on stands = none-flat (starts x) parts none
    where
      none : (n : ℕ) (q : Part) → slice_get parts n ≡ Some q → 0 < length (starts x q) → ⊥
      none n (Part.Outside q t) at lt = omega (arith, lt)
      none n (Part.Host h s) at lt =
          let c = on n (Part.Host h s) at in
          let a = begins x h s c lt in
          by_module c a (h.number.0 == b.window.module.0) refl
        where
          other_place : (c : OnBus h s) (a : Begins x h s c) → b.window.offset < a.window.offset →
              b.place ≡ a.place → ⊥
          other_place c a lt e =
              let same_place = sym b.at ∙ ap (slice_get given.schedule.windows) e ∙ a.at in
              let g = ap (λ (u : Window). u.offset) (same_Some b.window a.window same_place) in
              omega (arith, g, lt)

          by_module : (c : OnBus h s) → Begins x h s c → (e : Bool) → (h.number.0 == b.window.module.0) ≡ e → ⊥
          by_module c a true e =
              let f = stands n (Part.Host h s) at (eqb-true h.number.0 b.window.module.0 e) in
              let base = f.1 in
              let now = a.now in
              let from = b.from in
              let until = b.until in
              let mode : b.window.mode.0 ≡ c.mode = same_Some b.window.mode.0 c.mode (sym f.0 ∙ c.mode') in
              let l = given.passes.lengths a.place a.window a.at in
              let other = other_place c a (omega (arith, base, now, from)) in
              one_module given b.place a.place b.window a.window other b.at a.at b.bus a.bus
              (sym (eqb-true h.number.0 b.window.module.0 e) ∙ sym a.module') (mode ∙ sym a.mode')
              a.window.offset (omega (arith, base, now, from)) (omega (arith, base, now, until)) (omega arith)
              (omega (arith, l))
          by_module c a false e =
              let l = given.passes.lengths a.place a.window a.at in
              let from = b.from in
              let until = b.until in
              let now = a.now in
              let y : ℕ = x - b.base in
              let there : b.base + y ≡ x = omega (arith, from) in
              let other : b.window.module.0 ≡ a.window.module.0 → ⊥ =
              λ g. cc (eq-eqb h.number.0 b.window.module.0 (sym a.module' ∙ sym g), e) in
              two_modules given b.place a.place b.window a.window b.at a.at b.bus a.bus other b.definition c.definition
              b.there
              (ap (slice_get given.program.modules) a.module' ∙ c.there) b.base s.base y a.window.offset b.grain c.grain
              (omega (arith, from, there)) (omega (arith, until, there)) (omega arith) (omega (arith, l))
              (there ∙ sym now)
