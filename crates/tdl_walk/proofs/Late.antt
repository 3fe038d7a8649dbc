-- Faults that come too late to be the first.
use Rattle.std.proofs.Common.{◌≡◌, ◌∙◌, Bool, true, false, not, List, [], ◌∷◌, Option, Some, None, All, ap, refl, if◌then◌else◌}
use Rattle.std.proofs.lemmas.List.Elements.{All-from_recursion, recursion_from_All}
use Rattle.tdl_rules.specs.declared.fault.Fault.{Fault}
use Rattle.tdl_rules.specs.Earliest.{is_before, earliest}
use Rattle.tdl_rules.proofs.Order.{is_before-trans}
use Rattle.tdl_walk.specs.Past.{is_past}

-- what does not come before f, which does not come before b, leaves b the earliest
late : (b f : Fault) (later : List Fault) → is_before f b ≡ false → All (λ g. is_before g f ≡ false) later →
    earliest (Some b) later ≡ Some b
unfolding earliest
late b f [] e all = refl
late b f (g ∷ gs) e all =
    let parts = recursion_from_All (λ (h : Fault). is_before h f ≡ false) (g ∷ gs) all in
    let rest : All (λ (h : Fault). is_before h f ≡ false) gs = All-from_recursion (λ (h : Fault). is_before h f ≡ false) gs parts.1 in
    let not_before : is_before g b ≡ false = is_before-trans b f g e parts.0 in
    ap (λ (t : Bool). earliest (Some (if t then g else b)) gs) not_before ∙ late b f gs e rest

-- so it is after a fault that is past
pub past_all : (best : Option Fault) (f : Fault) (later : List Fault) → is_past best f ≡ true →
    All (λ g. is_before g f ≡ false) later → earliest best later ≡ best
past_all None f later e all = absurd (cc e)
past_all (Some b) f later e all = late b f later (by_test (is_before f b) e) all
  where
    by_test : (t : Bool) → not t ≡ true → t ≡ false
    by_test false e = refl
    by_test true e = absurd (cc e)
