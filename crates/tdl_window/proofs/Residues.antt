-- Offsets and windows modulo a number.
use Rattle.std.proofs.Common.{◌≡◌, ◌⊎◌, inl, inr, ℕ, zero, suc, ◌+◌, ◌-◌, ◌*◌, ◌%◌, ◌<◌, ◌≤◌, ◌==◌, Bool, true, false, nat_lt, Some, None, ap, sym, ◌∙◌, arith}
use Rattle.std.specs.List.{list_any}
use Rattle.std.proofs.Math.Nat.{mod-lt, mod-zero, mod-eq_of_lt, mod-add-mod, add-mod_right, mod-eq-sub-mod, add-mul-mod_self_right, mul-suc}
use Rattle.std.proofs.lemmas.Bool.{cases_lt, or_cases, or_left, or_right, eqb-true, eq-eqb, lt-ltb, le-ltb, false_from_ne_true, true≢false}
use Rattle.tdl_deploy.specs.declared.schedule.Window.{Window}
use Rattle.tdl_deploy.specs.Passes.{Meets}
use Rattle.tdl_window.specs.Gaps.{IsGap}
use Rattle.tdl_window.specs.Meeting.{microseconds, has_congruent, meet}

-- ---- gaps, d being above 0, p = from % d and q = to % d

-- a number on is as far from the residue
from-residue : (d from h : ℕ) → (from % d + h) % d ≡ (from + h) % d
from-residue d from h = mod-add-mod from d h

-- where the residue of `from` is not above that of `to`, their difference leads there
pub gap-level : (d from to g : ℕ) → 0 < d → g ≡ to % d - from % d → from % d ≤ to % d → (from + g) % d ≡ to % d
gap-level d from to g some is le =
    let less : to % d < d = mod-lt to some in
    let sum : from % d + g ≡ to % d = omega (arith, is, le) in
    sym (from-residue d from g) ∙ ap (λ n. n % d) sum ∙ mod-eq_of_lt less

-- and nothing less does
pub gap-level_least : (d from to g h : ℕ) → 0 < d → g ≡ to % d - from % d → from % d ≤ to % d →
    (from + h) % d ≡ to % d → g ≤ h
gap-level_least d from to g h some is le there = by_order (cases_lt h g)
  where
    by_order : (h < g) ⊎ (g ≤ h) → g ≤ h
    by_order (inr fine) = fine
    by_order (inl below) =
        let less : to % d < d = mod-lt to some in
        let inside : from % d + h < d = omega (arith, below, is, le, less) in
        let same : from % d + h ≡ to % d = sym (mod-eq_of_lt inside) ∙ from-residue d from h ∙ there in
        absurd (omega (arith, same, below, is, le))

-- where it is above, it is the difference in the next round
pub gap-round : (d from to g : ℕ) → 0 < d → g ≡ to % d + (d - from % d) → (from + g) % d ≡ to % d
gap-round d from to g some is =
    let less : to % d < d = mod-lt to some in
    let first : from % d < d = mod-lt from some in
    let sum : from % d + g ≡ to % d + d = omega (arith, is, first) in
    sym (from-residue d from g) ∙ ap (λ n. n % d) sum ∙ add-mod_right (to % d) d ∙ mod-eq_of_lt less

-- and nothing less does
pub gap-round_least : (d from to g h : ℕ) → 0 < d → g ≡ to % d + (d - from % d) → to % d < from % d →
    (from + h) % d ≡ to % d → g ≤ h
gap-round_least d from to g h some is above there = by_order (cases_lt h g)
  where
    first : from % d < d
    first = mod-lt from some

    whole : (from % d + h) % d ≡ to % d
    whole = from-residue d from h ∙ there

    by_round : h < g → (from % d + h < d) ⊎ (d ≤ from % d + h) → ⊥
    by_round below (inl inside) =
        let same : from % d + h ≡ to % d = sym (mod-eq_of_lt inside) ∙ whole in
        omega (arith, same, above)
    by_round below (inr over) =
        let inside : from % d + h - d < d = omega (arith, below, is, above, first) in
        let same : from % d + h - d ≡ to % d = sym (mod-eq_of_lt inside) ∙ sym (mod-eq-sub-mod over) ∙ whole in
        omega (arith, same, below, is, first, over)

    by_order : (h < g) ⊎ (g ≤ h) → g ≤ h
    by_order (inr fine) = fine
    by_order (inl below) = absurd (by_round below (cases_lt (from % d + h) d))

-- ---- microseconds

-- a test that a microsecond of some passes
pub any-microsecond : (p : ℕ → Bool) (o n y : ℕ) → o ≤ y → y < o + n → p y ≡ true → list_any p (microseconds o n) ≡ true
any-microsecond p o zero y from below passes = absurd (omega (arith, from, below))
any-microsecond p o (suc n) y from below passes =
    by_order (λ less. any-microsecond p (suc o) n y less (omega (arith, below)) passes) (cases_lt o y)
  where
    by_order : (suc o ≤ y → list_any p (microseconds (suc o) n) ≡ true) → (o < y) ⊎ (y ≤ o) →
        list_any p (microseconds o (suc n)) ≡ true
    by_order rest (inl less) = or_right (p o) (list_any p (microseconds (suc o) n)) (rest less)
    by_order rest (inr not_less) =
        let same : y ≡ o = omega (arith, from, not_less) in
        or_left (p o) (list_any p (microseconds (suc o) n)) (ap p (sym same) ∙ passes)

-- a microsecond of some, that passes a test
pub record Microsecond (p : ℕ → Bool) (o n : ℕ) : Type 0 where
  pub y : ℕ
  pub from : o ≤ y
  pub below : y < o + n
  pub passes : p y ≡ true

-- where one passes, it is there
pub some-microsecond : (p : ℕ → Bool) (o n : ℕ) → list_any p (microseconds o n) ≡ true → Microsecond p o n
some-microsecond p o zero any = absurd (cc any)
some-microsecond p o (suc n) any =
    by_test (some-microsecond p (suc o) n) (or_cases (p o) (list_any p (microseconds (suc o) n)) any)
  where
    by_test : (list_any p (microseconds (suc o) n) ≡ true → Microsecond p (suc o) n) →
        (p o ≡ true) ⊎ (list_any p (microseconds (suc o) n) ≡ true) → Microsecond p o (suc n)
    by_test more (inl here) = record { y = o; from = omega arith; below = omega arith; passes = here }
    by_test more (inr later) =
        let rest = more later in
        record {
          y = rest.y;
          from = let h : suc o ≤ rest.y = rest.from in omega (arith, h);
          below = let h : rest.y < suc o + n = rest.below in omega (arith, h);
          passes = rest.passes;
        }

-- ---- meeting

-- windows that meet by the test meet
pub meet-meets : (d : ℕ) (v w : Window) → meet d v w ≡ true → Meets v w d
unfolding meet
meet-meets d v w met =
    let one = some-microsecond (λ y. has_congruent d y w) v.offset v.length met in
    let two = some-microsecond (λ z. one.y % d == z % d) w.offset w.length one.passes in
    record {
      y = one.y;
      z = two.y;
      y_from = one.from;
      y_below = one.below;
      z_from = two.from;
      z_below = two.below;
      same = eqb-true (one.y % d) (two.y % d) two.passes;
    }

-- and those that meet do so by the test
pub meets-meet : (d : ℕ) (v w : Window) → Meets v w d → meet d v w ≡ true
unfolding meet
meets-meet d v w m =
    any-microsecond (λ y. has_congruent d y w) v.offset v.length m.y m.y_from m.y_below
    (any-microsecond (λ z. m.y % d == z % d) w.offset w.length m.z m.z_from m.z_below
    (eq-eqb (m.y % d) (m.z % d) m.same))

-- where no offset is congruent, no microsecond is
no-congruent : (d y : ℕ) (w : Window) → ((h : ℕ) → (w.offset + h) % d ≡ y % d → ⊥) → has_congruent d y w ≡ false
no-congruent d y w none =
    false_from_ne_true (has_congruent d y w)
    (λ any. beyond (some-microsecond (λ z. y % d == z % d) w.offset w.length any))
  where
    beyond : Microsecond (λ z. y % d == z % d) w.offset w.length → ⊥
    beyond one =
        let from : w.offset ≤ one.y = one.from in
        let there : w.offset + (one.y - w.offset) ≡ one.y = omega (arith, from) in
        none (one.y - w.offset) (ap (λ n. n % d) there ∙ sym (eqb-true (y % d) (one.y % d) one.passes))

-- a microsecond is congruent where the gap to one ends in the window
congruent-gap : (d y g : ℕ) (w : Window) → (w.offset + g) % d ≡ y % d →
    ((h : ℕ) → (w.offset + h) % d ≡ y % d → g ≤ h) → nat_lt g w.length ≡ has_congruent d y w
congruent-gap d y g w there least = by_order (cases_lt g w.length)
  where
    beyond : w.length ≤ g → Microsecond (λ z. y % d == z % d) w.offset w.length → ⊥
    beyond far one =
        let from : w.offset ≤ one.y = one.from in
        let below : one.y < w.offset + w.length = one.below in
        let back : w.offset + (one.y - w.offset) ≡ one.y = omega (arith, from) in
        let more : g ≤ one.y - w.offset =
        least (one.y - w.offset) (ap (λ n. n % d) back ∙ sym (eqb-true (y % d) (one.y % d) one.passes)) in
        omega (arith, more, far, from, below)

    by_order : (g < w.length) ⊎ (w.length ≤ g) → nat_lt g w.length ≡ has_congruent d y w
    by_order (inl inside) =
        lt-ltb g w.length inside
        ∙ sym (any-microsecond (λ z. y % d == z % d) w.offset w.length (w.offset + g) (omega arith)
        (omega (arith, inside)) (eq-eqb (y % d) ((w.offset + g) % d) (sym there)))
    by_order (inr far) =
        le-ltb g w.length far
        ∙ sym (false_from_ne_true (has_congruent d y w)
        (λ any. beyond far (some-microsecond (λ z. y % d == z % d) w.offset w.length any)))

-- the same of equal numbers, by the gap that there is or not
pub no-gap : (d o y y' : ℕ) (w : Window) → o ≡ w.offset → y' ≡ y → IsGap d o y' None → false ≡ has_congruent d y w
no-gap d o y y' w e e' is =
    sym (no-congruent d y w (λ h there. is h (ap (λ n. (n + h) % d) e ∙ there ∙ ap (λ n. n % d) (sym e'))))

-- and so here
pub gap-found : (d o y y' g n : ℕ) (w : Window) → o ≡ w.offset → y' ≡ y → n ≡ w.length → IsGap d o y' (Some g) →
    nat_lt g n ≡ has_congruent d y w
gap-found d o y y' g n w e e' same is =
    ap (nat_lt g) same
    ∙ congruent-gap d y g w (ap (λ m. (m + g) % d) (sym e) ∙ is.0 ∙ ap (λ m. m % d) e')
    (λ h there. is.1 h (ap (λ m. (m + h) % d) e ∙ there ∙ ap (λ m. m % d) (sym e')))

-- what is added to both is taken off again
cancelled : (d x y b : ℕ) → (x + b) % d ≡ (y + b) % d → x % d ≡ y % d
cancelled zero x y b e =
    let plain : x + b ≡ y + b = sym (mod-zero (x + b)) ∙ e ∙ mod-zero (y + b) in
    ap (λ n. n % 0) (omega (arith, plain))
cancelled (suc e) x y b same =
    sym (rounds x) ∙ sym (mod-add-mod (x + b) (suc e) (b * e)) ∙ ap (λ n. (n + b * e) % suc e) same
    ∙ mod-add-mod (y + b) (suc e) (b * e) ∙ rounds y
  where
    rounds : (n : ℕ) → (n + b + b * e) % suc e ≡ n % suc e
    rounds n =
        let sum : n + b + b * e ≡ n + b * suc e = omega (arith, mul-suc b e) in
        ap (λ m. m % suc e) sum ∙ add-mul-mod_self_right n b (suc e)

-- one window begins in the other, modulo d
abbrev BeginsIn : ℕ → Window → Window → Type 0
BeginsIn d v w = has_congruent d v.offset w ≡ true

-- of windows that meet one begins in the other
meets-begins : (d : ℕ) (v w : Window) → Meets v w d → BeginsIn d w v ⊎ BeginsIn d v w
meets-begins d v w m = by_order (cases_lt (m.y - v.offset) (m.z - w.offset))
  where
    later : (o p y z : ℕ) → o ≤ y → p ≤ z → y - o ≤ z - p → y % d ≡ z % d → o % d ≡ (p + ((z - p) - (y - o))) % d
    later o p y z from from' le same =
        let left : o + (y - o) ≡ y = omega (arith, from) in
        let right : p + ((z - p) - (y - o)) + (y - o) ≡ z = omega (arith, from', le) in
        cancelled d o (p + ((z - p) - (y - o))) (y - o)
        (ap (λ n. n % d) left ∙ same ∙ sym (ap (λ n. n % d) right))

    by_order : (m.y - v.offset < m.z - w.offset) ⊎ (m.z - w.offset ≤ m.y - v.offset) → BeginsIn d w v ⊎ BeginsIn d v w
    by_order (inl less) =
        let z = w.offset + ((m.z - w.offset) - (m.y - v.offset)) in
        let below : m.z < w.offset + w.length = m.z_below in
        let from : w.offset ≤ m.z = m.z_from in
        inr
        (any-microsecond (λ n. v.offset % d == n % d) w.offset w.length z (omega arith)
        (omega (arith, below, from, less))
        (eq-eqb (v.offset % d) (z % d)
        (later v.offset w.offset m.y m.z m.y_from m.z_from (omega (arith, less)) m.same)))
    by_order (inr not_less) =
        let y = v.offset + ((m.y - v.offset) - (m.z - w.offset)) in
        let below : m.y < v.offset + v.length = m.y_below in
        let from : v.offset ≤ m.y = m.y_from in
        inl
        (any-microsecond (λ n. w.offset % d == n % d) v.offset v.length y (omega arith)
        (omega (arith, below, from, not_less))
        (eq-eqb (w.offset % d) (y % d)
        (later w.offset v.offset m.z m.y m.z_from m.y_from not_less (sym m.same))))

-- a window that begins in another, and is not empty, meets it
begins-meets : (d : ℕ) (v w : Window) → 0 < v.length → BeginsIn d v w → Meets v w d
begins-meets d v w some begins =
    let one = some-microsecond (λ z. v.offset % d == z % d) w.offset w.length begins in
    record {
      y = v.offset;
      z = one.y;
      y_from = omega arith;
      y_below = omega (arith, some);
      z_from = one.from;
      z_below = one.below;
      same = eqb-true (v.offset % d) (one.y % d) one.passes;
    }

-- and the other way
swapped-meets : (d : ℕ) (v w : Window) → Meets v w d → Meets w v d
swapped-meets d v w m = record {
  y = m.z;
  z = m.y;
  y_from = m.z_from;
  y_below = m.z_below;
  z_from = m.y_from;
  z_below = m.y_below;
  same = sym m.same;
}

-- a window without a microsecond meets none
pub empty-meets : (d : ℕ) (v w : Window) → (v.length ≡ 0) ⊎ (w.length ≡ 0) → meet d v w ≡ false
empty-meets d v w none = false_from_ne_true (meet d v w) (λ met. by_side (meet-meets d v w met) none)
  where
    by_side : Meets v w d → (v.length ≡ 0) ⊎ (w.length ≡ 0) → ⊥
    by_side m (inl e) =
        let from : v.offset ≤ m.y = m.y_from in
        let below : m.y < v.offset + v.length = m.y_below in
        omega (arith, from, below, e)
    by_side m (inr e) =
        let from : w.offset ≤ m.z = m.z_from in
        let below : m.z < w.offset + w.length = m.z_below in
        omega (arith, from, below, e)

-- windows that last meet where the second begins in the first
pub second-begins : (d : ℕ) (v w : Window) → 0 < w.length → has_congruent d w.offset v ≡ true → meet d v w ≡ true
second-begins d v w some begins = meets-meet d v w (swapped-meets d w v (begins-meets d w v some begins))

-- or else where the first begins in the second
pub first-begins : (d : ℕ) (v w : Window) (t : Bool) → 0 < v.length → has_congruent d w.offset v ≡ false →
    t ≡ has_congruent d v.offset w → t ≡ meet d v w
first-begins d v w true some none is = sym (meets-meet d v w (begins-meets d v w some (sym is)))
first-begins d v w false some none is =
    sym (false_from_ne_true (meet d v w) (λ met. by_side (meets-begins d v w (meet-meets d v w met))))
  where
    by_side : BeginsIn d w v ⊎ BeginsIn d v w → ⊥
    by_side (inl begins) = true≢false (sym begins ∙ none)
    by_side (inr begins) = true≢false (sym begins ∙ sym is)
