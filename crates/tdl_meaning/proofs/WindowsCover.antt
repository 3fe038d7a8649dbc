-- At the start of an invocation's bus window its processor windows have covered its worst case.
use Rattle.std.proofs.Common.{◌≡◌, ℕ, suc, ◌+◌, ◌≤◌, List, [], ◌∷◌, map, filter, Bool, true, false, not, ◌&&◌, ◌==◌, Some, refl, ap, ap₂, sym, ◌∙◌, arith}
use Rattle.std.specs.Prelude.{slice_get, if◌then◌else◌, sum}
use Rattle.std.proofs.lemmas.List.Sums.{sum_by-cons}
use Rattle.tdl_deploy.specs.declared.schedule.Schedule.{Schedule}
use Rattle.tdl_deploy.specs.declared.schedule.Window.{Window}
use Rattle.tdl_image.specs.declared.hosted.ImageWindow.{ImageWindow}
use Rattle.tdl_deploy.specs.Passes.{is_bus, is_cpu_of}
use Rattle.tdl_base.specs.Lists.{inserted}
use Rattle.tdl_gen.specs.Tables.{image_window, is_before, ordered_from, windows_of}
use Rattle.tdl_verify.specs.Covered.{is_own, only_if, covered, covered_by}

-- the sum of a count over windows
total : (ImageWindow → ℕ) → List ImageWindow → ℕ
total f [] = 0
total f (w ∷ ws) = f w + total f ws

-- a window that is put in its place adds its count
placed-total : (f : ImageWindow → ℕ) (w : ImageWindow) (vs : List ImageWindow) →
    total f (inserted is_before w vs) ≡ f w + total f vs
unfolding total
placed-total f w [] = refl
placed-total f w (v ∷ vs) = by_test (placed-total f w vs) (is_before w v)
  where
    by_test : total f (inserted is_before w vs) ≡ f w + total f vs → (b : Bool) →
        total f (if b then w ∷ v ∷ vs else v ∷ inserted is_before w vs) ≡ f w + (f v + total f vs)
    by_test rest true = refl
    by_test rest false = omega (arith, rest)

-- to put windows in order changes no sum
ordered-total : (f : ImageWindow → ℕ) (done ws : List ImageWindow) →
    total f (ordered_from done ws) ≡ total f done + total f ws
unfolding total
ordered-total f done [] = omega arith
ordered-total f done (w ∷ ws) =
    let a = ordered-total f (inserted is_before w done) ws in
    let b = placed-total f w done in
    omega (arith, a, b)

-- what a window of an invocation covers before offset d
own : ℕ → ℕ → ℕ → ImageWindow → ℕ
own k n d w = only_if (is_own k n w) (covered w.offset w.length d)

-- what all windows cover is the sum of what each covers
covered-total : (k n d : ℕ) (ws : List ImageWindow) → covered_by k n d ws ≡ total (own k n d) ws
unfolding total own
covered-total k n d [] = refl
covered-total k n d (w ∷ ws) =
    ap (λ r. only_if (is_own k n w) (covered w.offset w.length d) + r) (covered-total k n d ws)

-- the test of a processor window, with the module first
regroup : (b m c : Bool) → ((if b then false else true) && (m && c)) ≡ (m && (not b && c))
regroup true true c = refl
regroup true false c = refl
regroup false true c = refl
regroup false false c = refl

-- the lengths of the processor windows of an invocation, together
abbrev cpu_lengths : ℕ → ℕ → ℕ → List Window → ℕ
cpu_lengths kk k n ws = sum (map (λ (w : Window). w.length) (filter (is_cpu_of kk k n) ws))

-- the windows of module kk, as an image has them but in the order of the schedule
abbrev imaged : ℕ → List Window → List ImageWindow
imaged kk ws = map image_window (filter (λ w. w.module.0 == kk) ws)

-- the processor windows of an invocation end by offset d
abbrev DoneBy : ℕ → ℕ → ℕ → ℕ → List Window → Type 0
DoneBy kk k n d ws =
    (j : ℕ) (w : Window) → slice_get ws j ≡ Some w → is_cpu_of kk k n w ≡ true → w.offset + w.length ≤ d

-- the lengths of the processor windows of an invocation are covered by offset d, where they end by it
lengths-covered : (kk k n d : ℕ) (ws : List Window) → DoneBy kk k n d ws →
    cpu_lengths kk k n ws ≡ total (own k n d) (imaged kk ws)
unfolding total own
lengths-covered kk k n d [] done = refl
lengths-covered kk k n d (w ∷ ws) done =
    by_test (lengths-covered kk k n d ws (λ j v at. done (suc j) v at)) (w.module.0 == kk) refl is_cpu refl
  where
    is_cpu : Bool
    is_cpu = not (is_bus w.resource) && (w.mode.0 == k && w.invocation == n)

    test-is : is_cpu_of kk k n w ≡ ((w.module.0 == kk) && is_cpu)
    test-is = regroup (is_bus w.resource) (w.module.0 == kk) (w.mode.0 == k && w.invocation == n)

    lengths_if : Bool → ℕ
    lengths_if b = sum (map (λ (w : Window). w.length)
        (if b then w ∷ filter (is_cpu_of kk k n) ws else filter (is_cpu_of kk k n) ws))

    total_if : Bool → ℕ
    total_if b = total (own k n d) (map image_window
        (if b then w ∷ filter (λ w. w.module.0 == kk) ws else filter (λ w. w.module.0 == kk) ws))

    whole : (o l d : ℕ) → o + l ≤ d → covered o l d ≡ l
    whole o l d le = omega (arith, le)

    plus_none : (r : ℕ) → r ≡ 0 + r
    plus_none r = omega arith

    by_test : cpu_lengths kk k n ws ≡ total (own k n d) (imaged kk ws) →
        (b : Bool) → (w.module.0 == kk) ≡ b → (c : Bool) → is_cpu ≡ c →
        lengths_if (is_cpu_of kk k n w) ≡ total_if (w.module.0 == kk)
    by_test rest false e c f = ap lengths_if (test-is ∙ ap (λ a. a && is_cpu) e) ∙ rest ∙ sym (ap total_if e)
    by_test rest true e true f =
        let t : is_cpu_of kk k n w ≡ true = test-is ∙ ap₂ (λ a b. a && b) e f in
        let here : only_if is_cpu (covered w.offset w.length d) ≡ w.length =
        ap (λ a. only_if a (covered w.offset w.length d)) f ∙ whole w.offset w.length d (done 0 w refl t) in
        ap lengths_if t ∙ sum_by-cons (λ n. n) w.length (map (λ (w : Window). w.length) (filter (is_cpu_of kk k n) ws))
        ∙ ap₂ (λ a b. a + b) (sym here) rest ∙ sym (ap total_if e)
    by_test rest true e false f =
        let t : is_cpu_of kk k n w ≡ false = test-is ∙ ap₂ (λ a b. a && b) e f in
        let here : only_if is_cpu (covered w.offset w.length d) ≡ 0 =
        ap (λ a. only_if a (covered w.offset w.length d)) f in
        ap lengths_if t ∙ rest ∙ plus_none (total (own k n d) (imaged kk ws))
        ∙ ap (λ a. a + total (own k n d) (imaged kk ws)) (sym here) ∙ sym (ap total_if e)

-- where the processor windows of an invocation end by offset d, the image's windows cover their lengths by d
pub covers_all : (schedule : Schedule) (kk k n d : ℕ) → ((j : ℕ) (w : Window) → slice_get schedule.windows j ≡ Some w →
    is_cpu_of kk k n w ≡ true → w.offset + w.length ≤ d) →
    sum (map (λ (w : Window). w.length) (filter (is_cpu_of kk k n) schedule.windows))
    ≡ covered_by k n d (windows_of schedule kk)
unfolding total
covers_all schedule kk k n d done =
    let a = lengths-covered kk k n d schedule.windows done in
    let b = ordered-total (own k n d) [] (imaged kk schedule.windows) in
    let c = covered-total k n d (windows_of schedule kk) in
    omega (arith, a, b, c)
