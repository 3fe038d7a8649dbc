-- The earliest fault of a list depends on its members alone.
use Rattle.std.proofs.Common.{◌≡◌, ◌<◌, List, [], ◌∷◌, ◌++◌, Option, Some, None, Contains, false, inl, inr, subst, refl, sym, ap, arith}
use Rattle.std.proofs.lemmas.List.Elements.{All-contains, All-contains_itself, All-weaker, Contains-append_left, Contains-append_right, Contains-append_cases}
use Rattle.tdl_rules.specs.declared.fault.Fault.{Fault}
use Rattle.tdl_rules.specs.Earliest.{is_before, earliest, IsFirst}
use Rattle.tdl_rules.proofs.Firsts.{earliest-first, earliest-none, first-earliest}

-- each member of one list is one of the other
abbrev Within : List Fault → List Fault → Type 0
Within fs gs = (f : Fault) → Contains fs f → Contains gs f

-- nothing is within nothing alone
within_none : (gs : List Fault) → Within gs [] → gs ≡ []
within_none [] all = refl
within_none (g ∷ gs) all =
    let here : Contains {X = Fault} [] g = all g (0, omega arith, refl) in
    let inside : here.0 < 0 = here.1 in
    absurd (omega (arith, inside))

-- the first of a list is the first of each with the same members
first_within : (f : Fault) (fs gs : List Fault) → Within fs gs → Within gs fs → IsFirst f fs → IsFirst f gs
first_within f fs gs there back first =
    record {
      within = there f first.within;
      least =
          All-weaker (Contains gs) (λ g. is_before g f ≡ false)
          (λ g c. All-contains (λ h. is_before h f ≡ false) fs g first.least (back g c)) gs (All-contains_itself gs);
    }

-- by what the earliest of one list is
by_found : (fs gs : List Fault) (found : Option Fault) → Within fs gs → Within gs fs → earliest None fs ≡ found →
    found ≡ earliest None gs
unfolding earliest
by_found fs gs None there back e =
    let none : fs ≡ [] = earliest-none fs e in
    let gone : gs ≡ [] = within_none gs (λ f c. subst (λ (z : List Fault). Contains z f) none (back f c)) in
    sym (ap (earliest None) gone)
by_found fs gs (Some f) there back e =
    sym (first-earliest gs f (first_within f fs gs there back (earliest-first fs f e)))

-- lists with the same members have the same earliest
pub earliest-members : (fs gs : List Fault) → Within fs gs → Within gs fs → earliest None fs ≡ earliest None gs
earliest-members fs gs there back = by_found fs gs (earliest None fs) there back refl

-- what is in two lists, one after the other, is in them the other way round
within-swap : (xs ys : List Fault) → Within (xs ++ ys) (ys ++ xs)
within-swap xs ys f c =
    elim (Contains-append_cases xs ys f c) [
      | inl x ↦ Contains-append_right ys xs f x
      | inr y ↦ Contains-append_left ys xs f y
    ]

-- so the order of two lists makes no difference
pub earliest-swap : (xs ys : List Fault) → earliest None (xs ++ ys) ≡ earliest None (ys ++ xs)
earliest-swap xs ys = earliest-members (xs ++ ys) (ys ++ xs) (within-swap xs ys) (within-swap ys xs)
