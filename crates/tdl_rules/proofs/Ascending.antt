-- The faults in order are the same faults, and each comes before all later ones.
use Rattle.std.proofs.Common.{◌≡◌, zero, suc, Bool, true, false, if◌then◌else◌, List, [], ◌∷◌, All, AllPairs, Contains, ◌⊎◌, inl, inr, refl, sym, ◌∙◌, arith}
use Rattle.std.proofs.lemmas.List.Elements.{All-cons, All-head, All-tail, All-nil}
use Rattle.std.proofs.lemmas.List.Kept.{AllPairs-cons}
use Rattle.tdl_rules.specs.declared.fault.Fault.{Fault}
use Rattle.tdl_rules.specs.Earliest.{is_before, placed, in_order}
use Rattle.tdl_rules.proofs.Order.{is_before-same, is_before-chain}
use Rattle.tdl_rules.proofs.Firsts.{contained}

-- ---- the same faults

-- what is in a list is its head or in its rest
parted : (g f : Fault) (fs : List Fault) → Contains (f ∷ fs) g → (g ≡ f) ⊎ Contains fs g
parted g f fs (zero, inside, e) = inl (sym e)
parted g f fs (suc k, inside, e) = inr (k, omega (arith, inside), e)

-- f is there after it is placed before or after h, or where h is f, and so is what was there, by the two tests
kept_by_tests : (g f h : Fault) (hs : List Fault) → ((g ≡ f) ⊎ Contains hs g → Contains (placed f hs) g) →
    (x y : Bool) → is_before f h ≡ x → is_before h f ≡ y → (g ≡ f) ⊎ Contains (h ∷ hs) g →
    Contains (if x then f ∷ h ∷ hs else (if y then h ∷ placed f hs else h ∷ hs)) g
kept_by_tests g f h hs later true y p q w = contained g f (h ∷ hs) w
kept_by_tests g f h hs later false true p q w =
    contained g h (placed f hs)
    (elim w [
      | inl e ↦ inr (later (inl e))
      | inr c ↦ elim (parted g h hs c) [ inl e ↦ inl e | inr rest ↦ inr (later (inr rest)) ]
    ])
kept_by_tests g f h hs later false false p q w =
    elim w [ inl e ↦ contained g h hs (inl (e ∙ is_before-same f h p q)) | inr c ↦ c ]

-- f is there after it is placed, and so is what was there
Contains-placed : (g f : Fault) (fs : List Fault) → (g ≡ f) ⊎ Contains fs g → Contains (placed f fs) g
Contains-placed g f [] w = contained g f [] w
Contains-placed g f (h ∷ hs) w =
    kept_by_tests g f h hs (Contains-placed g f hs) (is_before f h) (is_before h f) refl refl w

-- nothing else is there, by the two tests
none_by_tests : (g f h : Fault) (hs : List Fault) → (Contains (placed f hs) g → (g ≡ f) ⊎ Contains hs g) →
    (x y : Bool) → Contains (if x then f ∷ h ∷ hs else (if y then h ∷ placed f hs else h ∷ hs)) g →
    (g ≡ f) ⊎ Contains (h ∷ hs) g
none_by_tests g f h hs later true y c = parted g f (h ∷ hs) c
none_by_tests g f h hs later false true c =
    elim (parted g h (placed f hs) c) [
      | inl e ↦ inr (contained g h hs (inl e))
      | inr rest ↦ elim (later rest) [ inl e ↦ inl e | inr d ↦ inr (contained g h hs (inr d)) ]
    ]
none_by_tests g f h hs later false false c = inr c

-- nothing else is there
placed-contains : (g f : Fault) (fs : List Fault) → Contains (placed f fs) g → (g ≡ f) ⊎ Contains fs g
placed-contains g f [] c = parted g f [] c
placed-contains g f (h ∷ hs) c = none_by_tests g f h hs (placed-contains g f hs) (is_before f h) (is_before h f) c

-- what is in a list is in it in order
pub Contains-in_order : (fs : List Fault) (g : Fault) → Contains fs g → Contains (in_order fs) g
Contains-in_order [] g c = c
Contains-in_order (f ∷ fs) g c =
    Contains-placed g f (in_order fs)
    (elim (parted g f fs c) [ inl e ↦ inl e | inr rest ↦ inr (Contains-in_order fs g rest) ])

-- what is in a list in order is in it
pub in_order-contains : (fs : List Fault) (g : Fault) → Contains (in_order fs) g → Contains fs g
in_order-contains [] g c = c
in_order-contains (f ∷ fs) g c =
    contained g f fs
    (elim (placed-contains g f (in_order fs) c) [ inl e ↦ inl e | inr rest ↦ inr (in_order-contains fs g rest) ])

-- ---- each before all later ones

-- one fault comes before another
abbrev Before : Fault → Fault → Type 0
Before f g = is_before f g ≡ true

-- what comes before f and all of a list comes before all of them with f placed, by the two tests
before_by_tests : (g f h : Fault) (hs : List Fault) →
    Before g f → All (Before g) (h ∷ hs) → All (Before g) (placed f hs) →
    (x y : Bool) → All (Before g) (if x then f ∷ h ∷ hs else (if y then h ∷ placed f hs else h ∷ hs))
before_by_tests g f h hs first all later true y = All-cons (Before g) f (h ∷ hs) first all
before_by_tests g f h hs first all later false true =
    All-cons (Before g) h (placed f hs) (All-head (Before g) h hs all) later
before_by_tests g f h hs first all later false false = all

-- what comes before f and all of a list comes before all of them with f placed
All-placed : (g f : Fault) (fs : List Fault) → Before g f → All (Before g) fs → All (Before g) (placed f fs)
All-placed g f [] first all = All-cons (Before g) f [] first all
All-placed g f (h ∷ hs) first all =
    before_by_tests g f h hs first all (All-placed g f hs first (All-tail (Before g) h hs all))
    (is_before f h) (is_before h f)

-- what comes before the head of an ascending list comes before all of it
before_all : (f h : Fault) (hs : List Fault) → Before f h → All (Before h) hs → All (Before f) (h ∷ hs)
before_all f h hs first all =
    All-cons (Before f) h hs first (λ k d inside. is_before-chain _ h f (all k d inside) first)

-- the parts of an ascending list
head_before : (h : Fault) (hs : List Fault) → AllPairs Before (h ∷ hs) → All (Before h) hs
head_before h hs pairs k d inside = pairs 0 (suc k) d (omega arith) (omega (arith, inside))

-- and its rest
rest_ascends : (h : Fault) (hs : List Fault) → AllPairs Before (h ∷ hs) → AllPairs Before hs
rest_ascends h hs pairs i j d below inside = pairs (suc i) (suc j) d (omega (arith, below)) (omega (arith, inside))

-- an ascending list stays so where f is placed, by the two tests
ascends_by_tests : (f h : Fault) (hs : List Fault) → AllPairs Before (h ∷ hs) → AllPairs Before (placed f hs) →
    (x y : Bool) → is_before f h ≡ x → is_before h f ≡ y →
    AllPairs Before (if x then f ∷ h ∷ hs else (if y then h ∷ placed f hs else h ∷ hs))
ascends_by_tests f h hs pairs later true y p q =
    AllPairs-cons Before f (h ∷ hs) (before_all f h hs p (head_before h hs pairs)) pairs
ascends_by_tests f h hs pairs later false true p q =
    AllPairs-cons Before h (placed f hs) (All-placed h f hs q (head_before h hs pairs)) later
ascends_by_tests f h hs pairs later false false p q = pairs

-- an ascending list stays so where f is placed
AllPairs-placed : (f : Fault) (fs : List Fault) → AllPairs Before fs → AllPairs Before (placed f fs)
AllPairs-placed f [] pairs = AllPairs-cons Before f [] (All-nil (Before f)) pairs
AllPairs-placed f (h ∷ hs) pairs =
    ascends_by_tests f h hs pairs (AllPairs-placed f hs (rest_ascends h hs pairs))
    (is_before f h) (is_before h f) refl refl

-- a list in order ascends
pub AllPairs-in_order : (fs : List Fault) → AllPairs Before (in_order fs)
AllPairs-in_order [] = λ i j d below inside. absurd (omega (arith, inside))
AllPairs-in_order (f ∷ fs) = AllPairs-placed f (in_order fs) (AllPairs-in_order fs)
