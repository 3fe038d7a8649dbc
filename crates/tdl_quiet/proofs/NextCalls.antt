-- The next instant at which a module is called.
use Rattle.std.proofs.Common.{◌≡◌, ℕ, suc, ◌+◌, ◌-◌, ◌<◌, ◌≤◌, List, [], ◌∷◌, Bool, true, false, ◌||◌, ◌==◌, refl, ap, ap₂, sym, ◌∙◌, subst, arith}
use Rattle.std.specs.Prelude.{option_map, unwrap_or}
use Rattle.std.specs.List.{list_any}
use Rattle.std.proofs.lemmas.Bool.Decides.{nat_tests}
use Rattle.tdl_mode.specs.Offsets.{is_offset, offset_list, next_offset}
use Rattle.tdl_mode.specs.States.{ModuleState}
use Rattle.tdl_mode.specs.Laws.{AtNoOffset}
use Rattle.tdl_mode.proofs.NextOffsets.{IsNext, next_is}
use Rattle.tdl_quiet.specs.Standing.{Stands}
use Rattle.tdl_quiet.specs.Events.{is_called, next_of, IsNextCall}

-- an offset d after the base falls on base + d alone
any-moved : (base d : ℕ) (os : List ℕ) → list_any (λ o. base + o == base + d) os ≡ list_any (λ o. o == d) os
any-moved base d [] = refl
any-moved base d (o ∷ os) = ap₂ (λ b rest. b || rest) (moved base o d) (any-moved base d os)
  where
    moved : (base o d : ℕ) → (base + o == base + d) ≡ (o == d)
    moved base o d = grind (arith, nat_tests)

-- a module m that stands at x
module _ (x : ℕ) (m : ModuleState) (s : Stands x m) where
  -- it is called where its mode has an offset
  called-offset : (d : ℕ) → is_called (m.base + d) m ≡ is_offset s.mode d
  called-offset d =
      ap (λ o. list_any (λ p. m.base + p == m.base + d) (unwrap_or (option_map offset_list o) [])) s.now
      ∙ any-moved m.base d (offset_list s.mode)

  -- the same at an instant from its base on
  called-at : (y : ℕ) → m.base ≤ y → is_called y m ≡ is_offset s.mode (y - m.base)
  called-at y from =
      let e : y ≡ m.base + (y - m.base) = omega (arith, from) in
      ap (λ z. is_called z m) e ∙ called-offset (y - m.base)

  -- its next offset
  next : ℕ
  next = next_offset s.mode (x - m.base)

  -- so it is
  next-is : IsNext s.mode (suc (x - m.base)) next
  unfolding next
  next-is = let b = s.begun in let w = s.within in next_is s.mode (x - m.base) (omega (arith, b, w))

  -- where that falls
  next_of-is : next_of m x ≡ m.base + next
  unfolding next
  next_of-is = ap (λ o. unwrap_or (option_map (λ mode. m.base + next_offset mode (x - m.base)) o) (suc x)) s.now

  -- the next call comes later
  pub next_of-above : x < next_of m x
  next_of-above =
      let b = s.begun in let from = next-is.from in
      subst (λ n. x < n) (sym next_of-is) (omega (arith, b, from))

  -- up to it there is no offset
  pub no_offset : (y : ℕ) → x < y → y < next_of m x → is_offset s.mode (y - m.base) ≡ false
  no_offset y above below = by_test (is_offset s.mode (y - m.base)) refl
    where
      by_test : (t : Bool) → is_offset s.mode (y - m.base) ≡ t → is_offset s.mode (y - m.base) ≡ false
      by_test false e = e
      by_test true e =
          let b = s.begun in
          let least : next ≤ y - m.base = next-is.least (y - m.base) e (omega (arith, above, b)) in
          let lt : y < m.base + next = subst (λ n. y < n) next_of-is below in
          absurd (omega (arith, least, lt, b, above))

  -- there the module is at no offset of its mode
  pub between : (y : ℕ) → x < y → y < next_of m x → AtNoOffset y m
  between y above below = record {
    mode = s.mode;
    now = s.now;
    offset = y - m.base;
    at = let b = s.begun in omega (arith, above, b);
    none = no_offset y above below;
  }

  -- the next call is the first instant after x at which the module is called
  pub next_call : IsNextCall m x (next_of m x)
  next_call = record {
    called = ap (λ n. is_called n m) next_of-is ∙ called-offset next ∙ next-is.at;
    above = next_of-above;
    none = λ y above below.
        let b = s.begun in called-at y (omega (arith, above, b)) ∙ no_offset y above below;
  }
