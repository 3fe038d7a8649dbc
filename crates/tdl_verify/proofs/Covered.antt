-- What the windows of a job cover grows by one in each microsecond in which one of them is live.
use Rattle.std.proofs.Common.{◌≡◌, ℕ, suc, ◌+◌, ◌≤◌, List, [], ◌∷◌, length, Bool, true, false, not, ◌&&◌, ◌||◌, ◌==◌, Some, filter, refl, ap, ap₂, sym, ◌∙◌, arith}
use Rattle.std.specs.Prelude.{nat_le, nat_lt, if◌then◌else◌}
use Rattle.std.specs.List.{list_any}
use Rattle.std.proofs.Math.Bool.{and-true, and-false}
use Rattle.std.proofs.lemmas.Bool.Decides.{nat_tests}
use Rattle.std.proofs.lemmas.Bool.{and_parts}
use Rattle.tdl_image.specs.declared.hosted.ImageWindow.{ImageWindow}
use Rattle.tdl_verify.specs.States.{HostNow}
use Rattle.tdl_verify.specs.Micros.{is_live, is_job_of}
pub use Rattle.tdl_verify.specs.Covered.{unit}
use Rattle.tdl_verify.specs.Covered.{is_own, only_if, covered, covered_by}

-- how many windows of the job are live
abbrev own_live : ℕ → ℕ → ℕ → HostNow → List ImageWindow → ℕ
own_live m i x s [] = 0
own_live m i x s (w ∷ ws) = unit (is_live x s w && is_job_of m i w) + own_live m i x s ws

-- the microsecond at offset d lies in the window
abbrev in_window : ℕ → ImageWindow → Bool
in_window d w = nat_le w.offset d && nat_lt d (w.offset + w.length)

-- a window covers one microsecond more of d + 1 than of d, where the one at offset d lies in it
covered-suc : (o n d : ℕ) → covered o n (suc d) ≡ covered o n d + unit (nat_le o d && nat_lt d (o + n))
covered-suc o n d = grind (arith, nat_tests)

-- an instant lies in a window of a cycle as its offset lies in the window
shifted : (base o n d : ℕ) →
    (nat_le (base + o) (base + d) && nat_lt (base + d) (base + o + n)) ≡ (nat_le o d && nat_lt d (o + n))
shifted base o n d = ap₂ (λ a c. a && c) (low base o d) (high base o n d)
  where
    low : (base o d : ℕ) → nat_le (base + o) (base + d) ≡ nat_le o d
    low base o d = grind (arith, nat_tests)

    high : (base o n d : ℕ) → nat_lt (base + d) (base + o + n) ≡ nat_lt d (o + n)
    high base o n d = grind (arith, nat_tests)

-- two tests change places, where the job's own test implies the one of its mode
reordered : (bus mode job at : Bool) → (job ≡ true → mode ≡ true) →
    ((not bus && (mode && at)) && job) ≡ ((not bus && job) && at)
reordered true mode job at h = refl
reordered false true true at h = and-true at
reordered false true false at h = and-false at
reordered false false true at h = absurd (cc (h refl))
reordered false false false at h = refl

-- a window of the job is live where it is an own one and the offset lies in it
is_live-own : (m i x d : ℕ) (s : HostNow) (w : ImageWindow) → s.mode ≡ Some m → x ≡ s.base + d →
    (is_live x s w && is_job_of m i w) ≡ (is_own m i w && in_window d w)
is_live-own m i x d s w mode at =
    let a : is_live x s w ≡ (not w.bus && ((m == w.mode) && in_window d w)) =
    rw (mode, at) (ap (λ t. not w.bus && ((m == w.mode) && t)) (shifted s.base w.offset w.length d)) in
    ap (λ t. t && is_job_of m i w) a ∙ reordered w.bus (m == w.mode) (is_job_of m i w) (in_window d w)
    (λ j. turned m w.mode ∙ (and_parts (w.mode == m) (w.invocation == i) j).0)
  where
    turned : (a b : ℕ) → (a == b) ≡ (b == a)
    turned a b = grind (arith, nat_tests)

-- what counts only if a test holds grows only if it holds
only_if-unit : (b c : Bool) (n k : ℕ) → k ≡ n + unit c → only_if b k ≡ only_if b n + unit (b && c)
only_if-unit true c n k h = h
only_if-unit false c n k h = refl

-- what the windows of the job cover gains one for each of them that is live
covered_by-suc : (m i x d : ℕ) (s : HostNow) (ws : List ImageWindow) → s.mode ≡ Some m → x ≡ s.base + d →
    covered_by m i (suc d) ws ≡ covered_by m i d ws + own_live m i x s ws
covered_by-suc m i x d s [] mode at = refl
covered_by-suc m i x d s (w ∷ ws) mode at =
    let rest = covered_by-suc m i x d s ws mode at in
    let mine = only_if-unit (is_own m i w) (in_window d w) (covered w.offset w.length d)
    (covered w.offset w.length (suc d))
    (covered-suc w.offset w.length d) in
    let live : unit (is_own m i w && in_window d w) ≡ unit (is_live x s w && is_job_of m i w) =
    ap unit (sym (is_live-own m i x d s w mode at)) in
    omega (arith, rest, mine, live)

-- how many windows pass a test
count : (ImageWindow → Bool) → List ImageWindow → ℕ
count j ws = length (filter j ws)

-- the live windows of the job are those of the job among the live ones
own_live-count : (m i x : ℕ) (s : HostNow) (ws : List ImageWindow) →
    own_live m i x s ws ≡ count (is_job_of m i) (filter (is_live x s) ws)
unfolding count
own_live-count m i x s [] = refl
own_live-count m i x s (w ∷ ws) = by_test (own_live-count m i x s ws) (is_live x s w) (is_job_of m i w) refl
  where
    by_test : own_live m i x s ws ≡ length (filter (is_job_of m i) (filter (is_live x s) ws)) →
        (t j : Bool) → is_job_of m i w ≡ j →
        unit (t && j) + own_live m i x s ws
        ≡ length (filter (is_job_of m i) (if t then w ∷ filter (is_live x s) ws else filter (is_live x s) ws))
    by_test rest true true q = rw q (omega (arith, rest))
    by_test rest true false q = rw q (omega (arith, rest))
    by_test rest false j q = omega (arith, rest)

-- among at most one window there is one that passes, or none
count-one : (j : ImageWindow → Bool) (ws : List ImageWindow) → length ws ≤ 1 → count j ws ≡ unit (list_any j ws)
unfolding count
count-one j [] le = refl
count-one j (w ∷ []) le = by_test (j w)
  where
    by_test : (t : Bool) → length (if t then w ∷ [] else []) ≡ unit (t || false)
    by_test true = refl
    by_test false = refl
count-one j (v ∷ w ∷ ws) le = absurd (omega (arith, le))

-- where at most one window is live, the windows of the job cover one microsecond more where that window is the job's
pub covered_by-one : (m i x d : ℕ) (s : HostNow) (ws : List ImageWindow) → s.mode ≡ Some m → x ≡ s.base + d →
    length (filter (is_live x s) ws) ≤ 1 →
    covered_by m i (suc d) ws ≡ covered_by m i d ws + unit (list_any (is_job_of m i) (filter (is_live x s) ws))
covered_by-one m i x d s ws mode at le =
    covered_by-suc m i x d s ws mode at
    ∙ ap (λ n. covered_by m i d ws + n)
    (own_live-count m i x s ws ∙ count-one (is_job_of m i) (filter (is_live x s) ws) le)

-- ---- all windows of a job

-- the windows of the job lie between two offsets
abbrev pub Between : ℕ → ℕ → ℕ → ℕ → List ImageWindow → Type 0
Between m i a z [] = Unit {0}
Between m i a z (w ∷ ws) = (is_own m i w ≡ true → (a ≤ w.offset) × (w.offset + w.length ≤ z)) × Between m i a z ws

-- the lengths of the windows of the job, in sum
abbrev pub length_of : ℕ → ℕ → List ImageWindow → ℕ
length_of m i [] = 0
length_of m i (w ∷ ws) = only_if (is_own m i w) w.length + length_of m i ws

-- numbers that are equal where a test holds count the same only if it holds
only_if-same : (b : Bool) (n k : ℕ) → (b ≡ true → n ≡ k) → only_if b n ≡ only_if b k
only_if-same true n k h = h refl
only_if-same false n k h = refl

-- windows cover their whole lengths of the offset before which they end
pub covered_whole : (m i a z : ℕ) (ws : List ImageWindow) → Between m i a z ws → covered_by m i z ws ≡ length_of m i ws
covered_whole m i a z [] h = refl
covered_whole m i a z (w ∷ ws) h =
    let rest = covered_whole m i a z ws h.1 in
    let mine = only_if-same (is_own m i w) (covered w.offset w.length z) w.length
    (λ e. let k = (h.0 e).1 in omega (arith, k)) in
    omega (arith, rest, mine)

-- windows cover nothing of the offset from which on they begin
pub covered_none : (m i a z : ℕ) (ws : List ImageWindow) → Between m i a z ws → covered_by m i a ws ≡ 0
covered_none m i a z [] h = refl
covered_none m i a z (w ∷ ws) h =
    let rest = covered_none m i a z ws h.1 in
    let mine = only_if-same (is_own m i w) (covered w.offset w.length a) 0
    (λ e. let k = (h.0 e).0 in omega (arith, k)) in
    let none : only_if (is_own m i w) 0 ≡ 0 = zeros (is_own m i w) in
    omega (arith, rest, mine, none)
  where
    zeros : (b : Bool) → only_if b 0 ≡ 0
    zeros true = refl
    zeros false = refl
