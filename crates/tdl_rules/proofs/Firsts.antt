-- The earliest of a list of faults is its first, and there is one first at most.
use Rattle.std.proofs.Common.{◌≡◌, ℕ, suc, length, subst, ◌<◌, Bool, false, if◌then◌else◌, List, [], ◌∷◌, ◌++◌, Option, Some, None, All, Contains, ◌⊎◌, inl, inr, refl, sym, ap, ◌∙◌, arith}
use Rattle.std.proofs.lemmas.Bool.{cases_Bool}
use Rattle.std.proofs.lemmas.List.Elements.{All-contains, All-from_recursion, recursion_from_All}
use Rattle.tdl_rules.specs.declared.fault.Fault.{Fault}
use Rattle.tdl_rules.specs.Earliest.{is_before, earlier, earliest, IsFirst}
use Rattle.tdl_rules.proofs.Order.{is_before-self, is_before-trans, is_before-asym, is_before-same}

-- ---- the earliest is the first

-- f is the head of a list or within its rest
pub contained : (f g : Fault) (gs : List Fault) → (f ≡ g) ⊎ Contains gs f → Contains (g ∷ gs) f
contained f g gs w =
    elim w [
      | inl e ↦ (0, omega arith, sym e)
      | inr c ↦
          let k : ℕ = suc c.0 in
          let inside : k < length (g ∷ gs) = omega (arith, c.1) in
          (k, inside, c.2)
    ]

-- f is b or in the list, and neither b nor anything in the list comes before it
record IsLeast (b f : Fault) (fs : List Fault) : Type 0 where
  within : (f ≡ b) ⊎ Contains fs f
  not_b : is_before b f ≡ false
  least : All (λ g. is_before g f ≡ false) fs

-- what does not come before f, in front of a list of such
one_more : (f g : Fault) (gs : List Fault) → is_before g f ≡ false → All (λ h. is_before h f ≡ false) gs →
    All (λ h. is_before h f ≡ false) (g ∷ gs)
one_more f g gs p all =
    All-from_recursion (λ h. is_before h f ≡ false) (g ∷ gs) (p, recursion_from_All (λ h. is_before h f ≡ false) gs all)

-- the earliest of a fault and a list is the least of them
earliest-least : (fs : List Fault) (b f : Fault) → earliest (Some b) fs ≡ Some f → IsLeast b f fs
unfolding earliest
earliest-least [] b f e =
    let same : b ≡ f = cc in
    record {
      within = inl (sym same);
      not_b = subst (λ (z : Fault). is_before b z ≡ false) same (is_before-self b);
      least = All-from_recursion (λ g. is_before g f ≡ false) [] tt;
    }
earliest-least (g ∷ gs) b f e =
    elim (cases_Bool (is_before g b)) [
      | inl t ↦
          let h : earliest (Some g) gs ≡ Some f =
          ap (λ (z : Bool). earliest (Some (if z then g else b)) gs) (sym t) ∙ e in
          let l = earliest-least gs g f h in
          record {
            within = inr (contained f g gs l.within);
            not_b = is_before-trans f g b l.not_b (is_before-asym b g t);
            least = one_more f g gs l.not_b l.least;
          }
      | inr n ↦
          let h : earliest (Some b) gs ≡ Some f =
          ap (λ (z : Bool). earliest (Some (if z then g else b)) gs) (sym n) ∙ e in
          let l = earliest-least gs b f h in
          record {
            within = elim l.within [ inl same ↦ inl same | inr c ↦ inr (contained f g gs (inr c)) ];
            not_b = l.not_b;
            least = one_more f g gs (is_before-trans f b g l.not_b n) l.least;
          }
    ]

-- the earliest of a list is its first
pub earliest-first : (fs : List Fault) (f : Fault) → earliest None fs ≡ Some f → IsFirst f fs
unfolding earliest
earliest-first [] f e = absurd cc
earliest-first (g ∷ gs) f e =
    let l = earliest-least gs g f e in
    record { within = contained f g gs l.within; least = one_more f g gs l.not_b l.least }

-- ---- no earliest

-- once there is a fault, there is an earliest
earliest-some : (fs : List Fault) (b : Fault) → earliest (Some b) fs ≡ None → ⊥
unfolding earliest
earliest-some [] b e = absurd cc
earliest-some (g ∷ gs) b e = earliest-some gs _ e

-- there is no earliest of no faults alone
pub earliest-none : (fs : List Fault) → earliest None fs ≡ None → fs ≡ []
unfolding earliest
earliest-none [] e = refl
earliest-none (g ∷ gs) e = absurd (earliest-some gs g e)

-- nor is there one of no faults
pub earliest-nil : (fs : List Fault) → fs ≡ [] → earliest None fs ≡ None
unfolding earliest
earliest-nil fs e = ap (earliest None) e

-- ---- one first at most

-- two firsts of one list are one fault
pub first-same : (f g : Fault) (fs : List Fault) → IsFirst f fs → IsFirst g fs → f ≡ g
first-same f g fs p q =
    is_before-same f g
    (All-contains (λ h. is_before h g ≡ false) fs f q.least p.within)
    (All-contains (λ h. is_before h f ≡ false) fs g p.least q.within)

-- no fault is within none
not_in_none : (f : Fault) (fs : List Fault) → fs ≡ [] → Contains fs f → ⊥
not_in_none f fs e c =
    let here : Contains {X = Fault} [] f = subst (λ gs. Contains gs f) e c in
    let inside : here.0 < 0 = here.1 in
    omega (arith, inside)

-- the first of a list, by what its earliest is
is_earliest : (f : Fault) (fs : List Fault) (found : Option Fault) →
    earliest None fs ≡ found → IsFirst f fs → found ≡ Some f
is_earliest f fs None e first = absurd (not_in_none f fs (earliest-none fs e) first.within)
is_earliest f fs (Some g) e first = ap (λ h. Some h) (first-same g f fs (earliest-first fs g e) first)

-- the first of a list is its earliest
pub first-earliest : (fs : List Fault) (f : Fault) → IsFirst f fs → earliest None fs ≡ Some f
first-earliest fs f first = is_earliest f fs (earliest None fs) refl first

-- ---- two lists

-- the earliest of two lists, one after the other
pub earliest-append : (best : Option Fault) (fs gs : List Fault) →
    earliest best (fs ++ gs) ≡ earliest (earliest best fs) gs
unfolding earliest
earliest-append best [] gs = refl
earliest-append best (f ∷ fs) gs = earliest-append (earlier best f) fs gs
