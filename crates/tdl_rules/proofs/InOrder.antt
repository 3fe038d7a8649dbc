-- The faults in ascending order begin with the first.
use Rattle.std.proofs.Common.{◌≡◌, Bool, true, false, if◌then◌else◌, List, [], ◌∷◌, Option, Some, None, refl, sym, ap, ◌∙◌}
use Rattle.std.proofs.lemmas.Bool.{false≢true}
use Rattle.tdl_base.specs.Lists.{first_of}
use Rattle.tdl_rules.specs.declared.fault.Fault.{Fault}
use Rattle.tdl_rules.specs.Earliest.{is_before, earliest, placed, in_order}
use Rattle.tdl_rules.proofs.Order.{is_before-trans, is_before-asym, is_before-same, is_before-chain}

-- the earlier of a fault and one that may be there
abbrev front : Fault → Option Fault → Fault
front f None = f
front f (Some g) = if is_before g f then g else f

-- the tests of a fault that is placed before another, by what they say
front_of_two : (f g : Fault) (gs : List Fault) (before after : Bool) → is_before f g ≡ before → is_before g f ≡ after →
    first_of (if before then f ∷ g ∷ gs else (if after then g ∷ placed f gs else g ∷ gs)) ≡
    Some (if after then g else f)
front_of_two f g gs true true x y = absurd (false≢true (sym (is_before-asym g f x) ∙ y))
front_of_two f g gs true false x y = refl
front_of_two f g gs false true x y = refl
front_of_two f g gs false false x y = ap (λ h. Some h) (sym (is_before-same f g x y))

-- a fault that is placed comes first, or what came first does
first_of-placed : (f : Fault) (fs : List Fault) → first_of (placed f fs) ≡ Some (front f (first_of fs))
first_of-placed f [] = refl
first_of-placed f (g ∷ gs) = front_of_two f g gs (is_before f g) (is_before g f) refl refl

-- ---- of three faults

-- the earliest of b, f and g, by the tests of f against b and of g against f
earliest_of_three : (b f g : Fault) (x y : Bool) → is_before f b ≡ x → is_before g f ≡ y →
    front (if x then f else b) (Some g) ≡ front b (Some (if y then g else f))
earliest_of_three b f g true true x y =
    ap (λ (t : Bool). if t then g else f) y ∙ sym (ap (λ (t : Bool). if t then g else b) (is_before-chain b f g x y))
earliest_of_three b f g true false x y =
    ap (λ (t : Bool). if t then g else f) y ∙ sym (ap (λ (t : Bool). if t then f else b) x)
earliest_of_three b f g false true x y = refl
earliest_of_three b f g false false x y =
    ap (λ (t : Bool). if t then g else b) (is_before-trans b f g x y) ∙ sym (ap (λ (t : Bool). if t then f else b) x)

-- so also where the third may be absent
front-front : (b f : Fault) (o : Option Fault) → front (if is_before f b then f else b) o ≡ front b (Some (front f o))
front-front b f None = refl
front-front b f (Some g) = earliest_of_three b f g (is_before f b) (is_before g f) refl refl

-- ---- of a list

-- the earliest of a fault and a list is the fault, or what the list in order begins with
earliest-in_order : (fs : List Fault) (b : Fault) → earliest (Some b) fs ≡ Some (front b (first_of (in_order fs)))
unfolding earliest
earliest-in_order [] b = refl
earliest-in_order (f ∷ fs) b =
    earliest-in_order fs (if is_before f b then f else b) ∙
    ap (λ h. Some h) (front-front b f (first_of (in_order fs))) ∙
    ap (λ (o : Option Fault). Some (front b o)) (sym (first_of-placed f (in_order fs)))

-- a list in ascending order begins with its earliest
pub first_of-in_order : (fs : List Fault) → first_of (in_order fs) ≡ earliest None fs
unfolding earliest
first_of-in_order [] = refl
first_of-in_order (f ∷ fs) = first_of-placed f (in_order fs) ∙ sym (earliest-in_order fs f)
