-- An offset stands inside a slot where it is no multiple of the slot's width.
use Rattle.std.proofs.Common.{◌≡◌, ℕ, zero, suc, ◌<◌, ◌≤◌, ◌+◌, ◌-◌, ◌*◌, ◌%◌, Bool, true, false, not, ◌&&◌, ◌||◌, ◌==◌, nat_lt, List, [], ◌∷◌, length, map, refl, sym, ap, ◌∙◌, inl, inr, arith}
use Rattle.std.proofs.lemmas.Bool.{cases_Bool, cases_order, lt-ltb, le-ltb, ltb-true, eq-eqb, ne_eqb}
use Rattle.std.proofs.lemmas.Nat.{mod-mul-add}
use Rattle.tdl_tree.specs.declared.activities.Slots.{Slots}
use Rattle.tdl_rules.specs.ModeRules.{cuts}
use Rattle.tdl_rules.specs.Times.{from, ranges}
use Rattle.tdl_slots.specs.Choices.{span_of}
use Rattle.tdl_slots.proofs.Lawful.{each_slot}

-- between two multiples no multiple stands
between : (k w t : ℕ) → k * w < t → t < k * w + w → not (t % w == 0) ≡ true
between k w t above below =
    let rest = t - k * w in
    let small : rest < w = omega (arith, above, below) in
    let whole : k * w + rest ≡ t = omega (arith, above) in
    let is : t % w ≡ rest = ap (λ (z : ℕ). z % w) (sym whole) ∙ mod-mul-add k w rest small in
    ap not (ne_eqb (t % w) 0 (λ e. omega (arith, above, is, e)))

-- a multiple is one
multiple : (k w t : ℕ) → 0 < w → t ≡ k * w → not (t % w == 0) ≡ false
multiple k w t wide e =
    let whole : t ≡ k * w + 0 = omega (arith, e) in
    ap not (eq-eqb (t % w) 0 (ap (λ (z : ℕ). z % w) whole ∙ mod-mul-add k w 0 wide))

-- in this slot or in those after it, where slots end at y and all at z
in_slots : (k w t y z : ℕ) → 0 < w → y ≡ k * w + w → y ≤ z →
    ((nat_lt (k * w) t && nat_lt t y) || (nat_lt y t && (nat_lt t z && not (t % w == 0))))
    ≡ (nat_lt (k * w) t && (nat_lt t z && not (t % w == 0)))
in_slots k w t y z wide end far =
    elim (cases_order t y) [
      | inl e ↦
          let b : nat_lt t y ≡ false = le-ltb t y (omega (arith, e)) in
          let c : nat_lt y t ≡ false = le-ltb y t (omega (arith, e)) in
          let a : nat_lt (k * w) t ≡ true = lt-ltb (k * w) t (omega (arith, e, end, wide)) in
          let here : suc k * w ≡ k * w + w = omega arith in
          let m : not (t % w == 0) ≡ false = multiple (suc k) w t wide (e ∙ end ∙ sym here) in
          elim (cases_Bool (nat_lt t z)) [
            | inl d ↦ rw (a, b, c, d, m) refl
            | inr d ↦ rw (a, b, c, d) refl
          ]
      | inr (inl below) ↦
          let b : nat_lt t y ≡ true = lt-ltb t y below in
          let c : nat_lt y t ≡ false = le-ltb y t (omega (arith, below)) in
          let d : nat_lt t z ≡ true = lt-ltb t z (omega (arith, below, far)) in
          elim (cases_Bool (nat_lt (k * w) t)) [
            | inl a ↦
                let m : not (t % w == 0) ≡ true = between k w t (ltb-true (k * w) t a) (omega (arith, below, end)) in
                rw (a, b, d, m) refl
            | inr a ↦ rw (a, c) refl
          ]
      | inr (inr above) ↦
          let a : nat_lt (k * w) t ≡ true = lt-ltb (k * w) t (omega (arith, above, end)) in
          let b : nat_lt t y ≡ false = le-ltb t y (omega (arith, above)) in
          let c : nat_lt y t ≡ true = lt-ltb y t above in
          rw (a, b, c) refl
    ]

-- no slot is left
in_none : (x t z : ℕ) (m : Bool) → z ≡ x → false ≡ (nat_lt x t && (nat_lt t z && m))
in_none x t z m e =
    elim (cases_Bool (nat_lt x t)) [
      | inl a ↦ let d : nat_lt t z ≡ false = le-ltb t z (omega (arith, e, ltb-true x t a)) in rw (a, d) refl
      | inr a ↦ rw a refl
    ]

-- inside one of n slots after slot k
inside_from : (w t k n : ℕ) → 0 < w →
    cuts (map (span_of w) (map (λ i. (i, i)) (from (suc k) n))) t
    ≡ (nat_lt (k * w) t && (nat_lt t ((k + n) * w) && not (t % w == 0)))
inside_from w t k zero wide =
    let e : (k + 0) * w ≡ k * w = omega arith in
    in_none (k * w) t ((k + 0) * w) (not (t % w == 0)) e
inside_from w t k (suc n) wide =
    let here : suc k - 1 ≡ k = omega arith in
    let end : suc k * w ≡ k * w + w = omega arith in
    let far : (k + suc n) * w ≡ k * w + w + n * w = omega arith in
    let after : (suc k + n) * w ≡ (k + suc n) * w = omega arith in
    let rest = inside_from w t (suc k) n wide ∙ ap (λ (z : ℕ). nat_lt (suc k * w) t && (nat_lt t z && not (t % w == 0))) after in
    rw here (ap (λ (z : Bool). (nat_lt (k * w) t && nat_lt t (suc k * w)) || z) rest
    ∙ in_slots k w t (suc k * w) ((k + suc n) * w) wide end (omega (arith, end, far)))

-- what is not above 0 is a multiple
after_start : (x t y : ℕ) (m : Bool) → x ≡ 0 → (t ≡ 0 → m ≡ false) → (nat_lt x t && (nat_lt t y && m)) ≡ (nat_lt t y && m)
after_start x t y m start first =
    elim (cases_order t 0) [
      | inl e ↦
          let a : nat_lt x t ≡ false = le-ltb x t (omega (arith, e, start)) in
          elim (cases_Bool (nat_lt t y)) [
            | inl b ↦ rw (a, b, first e) refl
            | inr b ↦ rw (a, b) refl
          ]
      | inr (inl below) ↦ absurd (omega (arith, below))
      | inr (inr above) ↦ let a : nat_lt x t ≡ true = lt-ltb x t (omega (arith, above, start)) in rw a refl
    ]

-- inside one of all slots
inside_all : (w t n : ℕ) → 0 < w → cuts (map (span_of w) (map (λ i. (i, i)) (from 1 n))) t ≡ (nat_lt t (n * w) && not (t % w == 0))
inside_all w t n wide =
    let start : 0 * w ≡ 0 = omega arith in
    let all : (0 + n) * w ≡ n * w = omega arith in
    let first : t ≡ 0 → not (t % w == 0) ≡ false = λ e. multiple 0 w t wide (e ∙ sym start) in
    inside_from w t 0 n wide ∙ after_start (0 * w) t ((0 + n) * w) (not (t % w == 0)) start first
    ∙ ap (λ (z : ℕ). nat_lt t z && not (t % w == 0)) all

-- a test that fails at its second part, before others
and_or_right : (a b c : Bool) → b ≡ false → ((a && b) || c) ≡ c
and_or_right true b c e = rw e refl
and_or_right false b c e = refl

-- nothing is inside slots without a width
inside_nothing : (t : ℕ) (rs : List (ℕ × ℕ)) → cuts (map (span_of 0) rs) t ≡ false
inside_nothing t [] = refl
inside_nothing t (r ∷ rs) =
    let end : r.1 * 0 ≡ 0 = omega arith in
    let past : nat_lt t (r.1 * 0) ≡ false = le-ltb t (r.1 * 0) (omega (arith, end)) in
    and_or_right (nat_lt ((r.0 - 1) * 0) t) (nat_lt t (r.1 * 0)) (cuts (map (span_of 0) rs) t) past ∙ inside_nothing t rs

-- where no range is written
inside_slots : (w t f : ℕ) (slots : List Slots) → length slots ≡ 0 → 0 < w →
    (nat_lt t (f * w) && not (t % w == 0)) ≡ cuts (map (span_of w) (ranges f slots)) t
inside_slots w t f slots none wide = sym (ap (λ (z : List (ℕ × ℕ)). cuts (map (span_of w) z) t) (each_slot f slots none) ∙ inside_all w t f wide)

-- before the end of the slots
pub inside_before : (w t f : ℕ) (slots : List Slots) → length slots ≡ 0 → 0 < w → t < f * w →
    not (t % w == 0) ≡ cuts (map (span_of w) (ranges f slots)) t
inside_before w t f slots none wide before =
    ap (λ (b : Bool). b && not (t % w == 0)) (sym (lt-ltb t (f * w) before)) ∙ inside_slots w t f slots none wide

-- from their end on
pub inside_after : (w t f : ℕ) (slots : List Slots) → length slots ≡ 0 → 0 < w → f * w ≤ t →
    false ≡ cuts (map (span_of w) (ranges f slots)) t
inside_after w t f slots none wide after =
    ap (λ (b : Bool). b && not (t % w == 0)) (sym (le-ltb t (f * w) after)) ∙ inside_slots w t f slots none wide

-- and where slots have no width
pub inside_none : (w t : ℕ) (rs : List (ℕ × ℕ)) → w ≡ 0 → false ≡ cuts (map (span_of w) rs) t
inside_none w t rs e = sym (ap (λ (z : ℕ). cuts (map (span_of z) rs) t) e ∙ inside_nothing t rs)
