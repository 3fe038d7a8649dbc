-- The windows of a module's image against the schedule: as many pass each test, and each bus window has its other.
use Rattle.std.proofs.Common.{◌≡◌, ℕ, ◌+◌, List, [], ◌∷◌, map, filter, length, Bool, true, false, ◌&&◌, ◌==◌, Some, arith}
use Rattle.std.specs.Prelude.{slice_get, if◌then◌else◌}
use Rattle.std.proofs.lemmas.Bool.{eqb-true, eq-eqb, and_parts, and_from}
use Rattle.tdl_base.proofs.Tests.{eq_self}
use Rattle.tdl_deploy.specs.declared.schedule.Schedule.{Schedule}
use Rattle.tdl_deploy.specs.declared.schedule.Window.{Window}
use Rattle.tdl_image.specs.declared.hosted.ImageWindow.{ImageWindow}
use Rattle.tdl_deploy.specs.Passes.{is_bus}
use Rattle.tdl_base.specs.Lists.{inserted}
use Rattle.tdl_gen.specs.Tables.{image_window, is_before, ordered_from, windows_of}
use Rattle.tdl_verify.proofs.Covered.{unit}
use Rattle.tdl_meaning.proofs.FilterCounts.{length-filter-cons, length-filter-map-filter, filter-some, some-passes}

-- a window that is put in its place counts like one in front
placed-count : (q : ImageWindow → Bool) (w : ImageWindow) (vs : List ImageWindow) →
    length (filter q (inserted is_before w vs)) ≡ unit (q w) + length (filter q vs)
placed-count q w [] = length-filter-cons q w []
placed-count q w (v ∷ vs) = by_test (placed-count q w vs) (is_before w v)
  where
    by_test : length (filter q (inserted is_before w vs)) ≡ unit (q w) + length (filter q vs) → (b : Bool) →
        length (filter q (if b then w ∷ v ∷ vs else v ∷ inserted is_before w vs))
        ≡ unit (q w) + length (filter q (v ∷ vs))
    by_test rest true = length-filter-cons q w (v ∷ vs)
    by_test rest false =
        let a = length-filter-cons q v (inserted is_before w vs) in
        let b = length-filter-cons q v vs in
        omega (arith, rest, a, b)

-- to put windows in order changes no count
ordered-count : (q : ImageWindow → Bool) (done ws : List ImageWindow) →
    length (filter q (ordered_from done ws)) ≡ length (filter q done) + length (filter q ws)
ordered-count q done [] = omega arith
ordered-count q done (w ∷ ws) =
    let a = ordered-count q (inserted is_before w done) ws in
    let b = placed-count q w done in
    let c = length-filter-cons q w ws in
    omega (arith, a, b, c)

-- the windows of an image that pass a test are as many as those of the schedule
pub windows-count : (schedule : Schedule) (m : ℕ) (q : ImageWindow → Bool) →
    length (filter q (windows_of schedule m))
    ≡ length (filter (λ w. w.module.0 == m && q (image_window w)) schedule.windows)
windows-count schedule m q =
    let a = ordered-count q [] (map image_window (filter (λ w. w.module.0 == m) schedule.windows)) in
    let b = length-filter-map-filter (λ w. w.module.0 == m) image_window q schedule.windows in
    omega (arith, a, b)

-- v is a bus window with the fields of w
abbrev is_alike : ImageWindow → ImageWindow → Bool
is_alike w v =
    v.bus && (v.mode == w.mode && (v.invocation == w.invocation && (v.offset == w.offset && v.length == w.length)))

-- what the test of a bus window alike says
record Alike (w v : ImageWindow) : Type 0 where
  bus' : v.bus ≡ true
  mode' : v.mode ≡ w.mode
  invocation' : v.invocation ≡ w.invocation
  offset' : v.offset ≡ w.offset
  length' : v.length ≡ w.length

-- a window that passes the test has the fields of w
alike : (w v : ImageWindow) → is_alike w v ≡ true → Alike w v
alike w v e =
    let a = and_parts _ _ e in
    let b = and_parts _ _ a.1 in
    let c = and_parts _ _ b.1 in
    let d = and_parts _ _ c.1 in
    record {
      bus' = a.0;
      mode' = eqb-true v.mode w.mode b.0;
      invocation' = eqb-true v.invocation w.invocation c.0;
      offset' = eqb-true v.offset w.offset d.0;
      length' = eqb-true v.length w.length d.1;
    }

-- a bus window passes the test against itself
is_alike-self : (w : ImageWindow) → w.bus ≡ true → is_alike w w ≡ true
is_alike-self w bus =
    and_from _ _ bus (and_from _ _ (eq_self w.mode) (and_from _ _ (eq_self w.invocation)
    (and_from _ _ (eq_self w.offset) (eq_self w.length))))

module _ (s : Schedule) (kk : ℕ) where
  -- the window of the schedule that a bus window of module kk's image comes from
  pub record ScheduledWindow (w : ImageWindow) : Type 0 where
    pub place : ℕ
    pub window : Window
    pub at : slice_get s.windows place ≡ Some window
    pub module' : window.module.0 ≡ kk
    pub bus' : is_bus window.resource ≡ true
    pub mode' : window.mode.0 ≡ w.mode
    pub invocation' : window.invocation ≡ w.invocation
    pub offset' : window.offset ≡ w.offset
    pub length' : window.length ≡ w.length

  -- each bus window of the image comes from one of the schedule
  pub scheduled_window : (n : ℕ) (w : ImageWindow) → slice_get (windows_of s kk) n ≡ Some w → w.bus ≡ true →
      ScheduledWindow w
  scheduled_window n w at bus =
      let many = windows-count s kk (is_alike w) in
      let here = filter-some (is_alike w) (windows_of s kk) n w at (is_alike-self w bus) in
      let test : Window → Bool = λ v. v.module.0 == kk && is_alike w (image_window v) in
      let v = some-passes test s.windows (omega (arith, many, here)) in
      let tests = and_parts (v.item.module.0 == kk) (is_alike w (image_window v.item)) v.passes in
      let f = alike w (image_window v.item) tests.1 in
      record {
        place = v.place;
        window = v.item;
        at = v.at;
        module' = eqb-true v.item.module.0 kk tests.0;
        bus' = f.bus';
        mode' = f.mode';
        invocation' = f.invocation';
        offset' = f.offset';
        length' = f.length';
      }

  -- the window of module kk's image that a bus window of the schedule becomes
  pub record ImagedWindow (v : Window) : Type 0 where
    pub place : ℕ
    pub window : ImageWindow
    pub at : slice_get (windows_of s kk) place ≡ Some window
    pub bus' : window.bus ≡ true
    pub mode' : window.mode ≡ v.mode.0
    pub invocation' : window.invocation ≡ v.invocation
    pub offset' : window.offset ≡ v.offset
    pub length' : window.length ≡ v.length

  -- each bus window of the module in the schedule becomes one of the image
  pub imaged_window : (n : ℕ) (v : Window) → slice_get s.windows n ≡ Some v → v.module.0 ≡ kk →
      is_bus v.resource ≡ true → ImagedWindow v
  imaged_window n v at own bus =
      let q : ImageWindow → Bool = is_alike (image_window v) in
      let many = windows-count s kk q in
      let here = filter-some (λ v. v.module.0 == kk && q (image_window v)) s.windows n v at
      (and_from _ _ (eq-eqb v.module.0 kk own) (is_alike-self (image_window v) bus)) in
      let w = some-passes q (windows_of s kk) (omega (arith, many, here)) in
      let f = alike (image_window v) w.item w.passes in
      record {
        place = w.place;
        window = w.item;
        at = w.at;
        bus' = f.bus';
        mode' = f.mode';
        invocation' = f.invocation';
        offset' = f.offset';
        length' = f.length';
      }
