-- The next offset of a mode.
use Rattle.std.proofs.Common.{◌≡◌, ℕ, zero, suc, ◌<◌, ◌≤◌, min, List, [], ◌∷◌, ◌++◌, map, Bool, true, false, ◌==◌, nat_lt, nat_le, Some, refl, ap, sym, ◌∙◌, subst, arith}
use Rattle.std.specs.Prelude.{slice_get, option_map, if◌then◌else◌}
use Rattle.std.specs.List.{list_any}
use Rattle.std.proofs.lemmas.Bool.{eqb-true, lt-ltb, ltb-true, leb-true, leb-false, or_left, or_right}
use Rattle.std.proofs.lemmas.List.Folds.{list_any-append}
use Rattle.std.proofs.lemmas.Option.{slice_get-map, same_Some}
use Rattle.std.proofs.Math.Nat.{min-eq_left, min-eq_right}
use Rattle.tdl_mode.specs.declared.program.Mode.{Mode}
use Rattle.tdl_mode.specs.declared.program.Invocation.{Invocation}
pub use Rattle.tdl_mode.specs.Offsets.{IsNext}
use Rattle.tdl_mode.specs.Offsets.{is_offset, offset_list, least_above, next_offset}
use Rattle.tdl_base.proofs.Tests.{eq_self}
use Rattle.tdl_base.proofs.Finding.{passing-any, any-passing}

-- ---- the least number of a list above another

-- the best after one more number of the list
abbrev better : ℕ → ℕ → ℕ → ℕ
better o p best = if nat_lt o p then min p best else best

-- what holds of the numbers of the list, and of the best at first, holds of the least
least_above-keeps : (P : ℕ → Type 0) (o : ℕ) (ps : List ℕ) (best : ℕ) → P best →
    ((n p : ℕ) → slice_get ps n ≡ Some p → P p) → P (least_above o ps best)
least_above-keeps P o [] best b each = b
least_above-keeps P o (p ∷ ps) best b each =
    least_above-keeps P o ps (better o p best) (by_test (nat_lt o p)) (λ n q at. each (suc n) q at)
  where
    lesser : (t : Bool) → nat_le p best ≡ t → P (min p best)
    lesser true e = subst P (sym (min-eq_left (leb-true p best e))) (each 0 p refl)
    lesser false e = let above = leb-false p best e in subst P (sym (min-eq_right (omega (arith, above)))) b

    by_test : (t : Bool) → P (if t then min p best else best)
    by_test true = lesser (nat_le p best) refl
    by_test false = b

-- the least is not above the best at first
least_above-within : (o : ℕ) (ps : List ℕ) (best : ℕ) → least_above o ps best ≤ best
least_above-within o [] best = omega arith
least_above-within o (p ∷ ps) best =
    let rest : least_above o ps (better o p best) ≤ better o p best = least_above-within o ps (better o p best) in
    at_most (least_above o ps (better o p best)) (better o p best) rest (by_test (nat_lt o p))
  where
    by_test : (t : Bool) → (if t then min p best else best) ≤ best
    by_test true = omega arith
    by_test false = omega arith

    at_most : (a b : ℕ) → a ≤ b → b ≤ best → a ≤ best
    at_most a b h k = omega (arith, h, k)

-- the least is not above any number of the list that is above o
least_above-each : (o : ℕ) (ps : List ℕ) (best n p : ℕ) → slice_get ps n ≡ Some p → o < p → least_above o ps best ≤ p
least_above-each o [] best n p at lt = absurd (cc at)
least_above-each o (q ∷ ps) best (suc n) p at lt = least_above-each o ps (better o q best) n p at lt
least_above-each o (q ∷ ps) best zero p at lt =
    let same : q ≡ p = same_Some q p at in
    let above : nat_lt o q ≡ true = ap (nat_lt o) same ∙ lt-ltb o p lt in
    let here : better o q best ≤ q = subst (λ t. (if t then min q best else best) ≤ q) (sym above) (omega arith) in
    at_most (least_above o ps (better o q best)) (better o q best) (least_above-within o ps (better o q best)) here same
  where
    at_most : (a b : ℕ) → a ≤ b → b ≤ q → q ≡ p → a ≤ p
    at_most a b h k e = omega (arith, h, k, e)

-- where the best at first is above a, so is the least
pub above_least : (a : ℕ) (ps : List ℕ) (best : ℕ) → a < best → a < least_above a ps best
above_least a [] best lt = lt
above_least a (p ∷ ps) best lt = above_least a ps (better a p best) (by_test (nat_lt a p) refl)
  where
    below : (b : ℕ) → a < p → a < b → a < min p b
    below b h k = omega (arith, h, k)

    by_test : (b : Bool) → nat_lt a p ≡ b → a < (if b then min p best else best)
    by_test true e = below best (ltb-true a p e) lt
    by_test false e = lt

-- ---- the offsets of a mode

module _ (mode : Mode) where
  -- a cycle begins at an offset
  pub zero_offset : is_offset mode 0 ≡ true
  zero_offset = refl

  -- it ends at one
  pub period_offset : is_offset mode mode.period.0 ≡ true
  period_offset = or_right (0 == mode.period.0) _ (or_left (mode.period.0 == mode.period.0) _ (eq_self mode.period.0))

  -- what stands in the list is an offset
  listed_offset : (n o : ℕ) → slice_get (offset_list mode) n ≡ Some o → is_offset mode o ≡ true
  listed_offset n o at = passing-any (λ p. p == o) (offset_list mode) n o at (eq_self o)

  -- an invocation ends at an offset
  pub end_offset : (n : ℕ) (i : Invocation) → slice_get mode.invocations n ≡ Some i → is_offset mode i.e.0 ≡ true
  end_offset n i at =
      list_any-append is (first ++ starts ++ ends ++ updates) switches
      ∙ or_left _ _ (list_any-append is (first ++ starts ++ ends) updates
      ∙ or_left _ _ (list_any-append is (first ++ starts) ends ∙ or_right (list_any is (first ++ starts)) _ here))
    where
      is : ℕ → Bool
      is p = p == i.e.0

      first : List ℕ
      first = 0 ∷ mode.period.0 ∷ []

      starts : List ℕ
      starts = map (λ j. j.s.0) mode.invocations

      ends : List ℕ
      ends = map (λ j. j.e.0) mode.invocations

      updates : List ℕ
      updates = map (λ u. u.at.0) mode.updates

      switches : List ℕ
      switches = map (λ w. w.at.0) mode.switches

      there : slice_get ends n ≡ Some i.e.0
      there =
          slice_get-map (λ (j : Invocation). j.e.0) mode.invocations n
          ∙ ap (option_map (λ (j : Invocation). j.e.0)) at

      here : list_any is ends ≡ true
      here = passing-any is ends n i.e.0 there (eq_self i.e.0)

  -- `next_offset` gives the next offset, below the period
  pub next_is : (o : ℕ) → o < mode.period.0 → IsNext mode (suc o) (next_offset mode o)
  next_is o below = record {
    at =
        least_above-keeps (λ n. is_offset mode n ≡ true) o (offset_list mode) mode.period.0
        period_offset listed_offset;
    from =
        let above : o < next_offset mode o = above_least o (offset_list mode) mode.period.0 below in
        omega (arith, above);
    least = least;
  }
    where
      at_most : (a b c : ℕ) → a ≤ b → b ≡ c → a ≤ c
      at_most a b c h e = omega (arith, h, e)

      least : (p : ℕ) → is_offset mode p ≡ true → suc o ≤ p → next_offset mode o ≤ p
      least p off le =
          let found = any-passing (λ q. q == p) (offset_list mode) off in
          let same : found.item ≡ p = eqb-true found.item p found.passes in
          at_most (next_offset mode o) found.item p
          (least_above-each o (offset_list mode) mode.period.0 found.place found.item found.at
          (omega (arith, le, same)))
          same
