-- The earliest fault of a list is in it, and none comes before it.
use Rattle.std.proofs.Common.{◌≡◌, ℕ, zero, suc, length, subst, ◌<◌, ◌≤◌, Bool, true, false, ◌&&◌, ◌||◌, ◌==◌, nat_lt, if◌then◌else◌, List, [], ◌∷◌, ◌++◌, Option, Some, None, All, Contains, ◌⊎◌, inl, inr, refl, sym, ap, ◌∙◌, arith}
use Rattle.std.proofs.lemmas.Bool.{cases_Bool}
use Rattle.std.proofs.lemmas.List.Elements.{All-from_recursion, recursion_from_All}
use Rattle.std.proofs.lemmas.Bool.Decides.{nat_tests}
use Rattle.tdl_lines.specs.declared.fault.Fault.{Fault}
use Rattle.tdl_lines.specs.Faults.{is_before, earlier, earliest, IsFirst}

-- no fault comes before itself
not_before-self : (f : Fault) → is_before f f ≡ false
not_before-self f = grind (arith, nat_tests)

-- where g does not come before f, nor h before g, h does not come before f
not_before-trans : (f g h : Fault) → is_before g f ≡ false → is_before h g ≡ false → is_before h f ≡ false
not_before-trans f g h first second = grind (arith, nat_tests)

-- of two faults one at most comes before the other
before-once : (f g : Fault) → is_before g f ≡ true → is_before f g ≡ false
before-once f g before = grind (arith, nat_tests)

-- faults neither of which comes before the other have one line and one rule
same-order : (f g : Fault) → is_before f g ≡ false → is_before g f ≡ false → (f.line ≡ g.line) × (f.rule ≡ g.rule)
same-order f g one other = (grind (arith, nat_tests), grind (arith, nat_tests))

-- the head, or what is among the others, is among all
among : (f g : Fault) (fs : List Fault) → (f ≡ g) ⊎ Contains fs f → Contains (g ∷ fs) f
among f g fs (inl same) = (zero, omega arith, sym same)
among f g fs (inr c) =
    let place : ℕ = suc c.0 in
    let within : place < length (g ∷ fs) = omega (arith, c.1) in
    (place, within, c.2)

-- f is b or in the list, and neither b nor anything in the list comes before it
record IsLeast (b f : Fault) (fs : List Fault) : Type 0 where
  within : (f ≡ b) ⊎ Contains fs f
  not_b : is_before b f ≡ false
  least : All (λ g. is_before g f ≡ false) fs

-- one more fault that does not come before f
one_more : (f g : Fault) (fs : List Fault) → is_before g f ≡ false → All (λ h. is_before h f ≡ false) fs →
    All (λ h. is_before h f ≡ false) (g ∷ fs)
one_more f g fs not_g all =
    All-from_recursion (λ h. is_before h f ≡ false) (g ∷ fs)
    (not_g, recursion_from_All (λ h. is_before h f ≡ false) fs all)

-- the earliest of b and a list
least_of : (fs : List Fault) (b f : Fault) → earliest (Some b) fs ≡ Some f → IsLeast b f fs
unfolding earliest
least_of [] b f e =
    let same : b ≡ f = cc in
    record {
      within = inl (sym same);
      not_b = subst (λ (z : Fault). is_before b z ≡ false) same (not_before-self b);
      least = All-from_recursion (λ g. is_before g f ≡ false) [] tt;
    }
least_of (g ∷ gs) b f e =
    elim (cases_Bool (is_before g b)) [
      | inl before ↦
          let rest : earliest (Some g) gs ≡ Some f =
          ap (λ (z : Bool). earliest (Some (if z then g else b)) gs) (sym before) ∙ e in
          let l = least_of gs g f rest in
          record {
            within = inr (among f g gs l.within);
            not_b = not_before-trans f g b l.not_b (before-once b g before);
            least = one_more f g gs l.not_b l.least;
          }
      | inr not ↦
          let rest : earliest (Some b) gs ≡ Some f =
          ap (λ (z : Bool). earliest (Some (if z then g else b)) gs) (sym not) ∙ e in
          let l = least_of gs b f rest in
          record {
            within = elim l.within [ inl same ↦ inl same | inr c ↦ inr (among f g gs (inr c)) ];
            not_b = l.not_b;
            least = one_more f g gs (not_before-trans f b g l.not_b not) l.least;
          }
    ]

-- the earliest of a list is its first
pub first_is : (fs : List Fault) (f : Fault) → earliest None fs ≡ Some f → IsFirst f fs
unfolding earliest
first_is [] f e = absurd cc
first_is (g ∷ gs) f e =
    let l = least_of gs g f e in
    record { within = among f g gs l.within; least = one_more f g gs l.not_b l.least }

-- a fault that is noted stays
some_stays : (fs : List Fault) (b : Fault) → earliest (Some b) fs ≡ None → ⊥
unfolding earliest
some_stays [] b e = absurd cc
some_stays (g ∷ gs) b e = some_stays gs _ e

-- a list that has no earliest is empty
pub none_is : (fs : List Fault) → earliest None fs ≡ None → fs ≡ []
unfolding earliest
none_is [] e = refl
none_is (g ∷ gs) e = absurd (some_stays gs g e)

-- two firsts of one list are one fault
pub first_is_one : (fs : List Fault) (f g : Fault) → IsFirst f fs → IsFirst g fs → f ≡ g
first_is_one fs f g one other =
    let not_f : is_before f g ≡ false =
    subst (λ (z : Fault). is_before z g ≡ false) one.within.2 (other.least one.within.0 f one.within.1) in
    let not_g : is_before g f ≡ false =
    subst (λ (z : Fault). is_before z f ≡ false) other.within.2 (one.least other.within.0 g other.within.1) in
    let same = same-order f g not_f not_g in
    λ i. record { line = same.0 i; rule = same.1 i }

-- the earliest of two lists, one after the other
pub earliest-append : (best : Option Fault) (fs gs : List Fault) →
    earliest best (fs ++ gs) ≡ earliest (earliest best fs) gs
unfolding earliest
earliest-append best [] gs = refl
earliest-append best (f ∷ fs) gs = earliest-append (earlier best f) fs gs
