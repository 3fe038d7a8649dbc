-- Updates of one actuator, and of two.
use Rattle.std.proofs.Common.{◌≡◌, ℕ, zero, suc, ◌<◌, ◌≤◌, ◌+◌, ◌-◌, ◌*◌, Bool, false, ◌&&◌, ◌==◌, List, [], ◌∷◌, ◌++◌, map, All, Option, None, Some, refl, sym, ap, subst, ◌∙◌, arith}
use Rattle.std.specs.List.{list_any}
use Rattle.std.proofs.lemmas.Bool.{and_right, eq-eqb, ne_eqb}
use Rattle.std.proofs.lemmas.Nat.{mul-le}
use Rattle.std.proofs.lemmas.List.Elements.{recursion_from_All}
use Rattle.std.proofs.Math.Nat.{suc-mul, mul-zero}
use Rattle.tdl_base.specs.declared.kinds.Kind.{Kind}
use Rattle.tdl_tree.specs.declared.activities.Act.{Act}
use Rattle.tdl_tree.specs.declared.expressions.ExprTree.{ExprTree}
use Rattle.tdl_tree.specs.declared.names.Id.{Id}
use Rattle.tdl_tree.specs.declared.activities.ActKind.TheVariants as what
use Rattle.tdl_rules.specs.ModeRules.{Updated, updated, same_update}
use Rattle.tdl_rules.specs.Naming.{Scope, as_actuator, meant, spot_of}
use Rattle.tdl_rules.specs.Parts.{broken, fault_if}
use Rattle.tdl_rules.specs.declared.fault.Fault.{Fault}
use Rattle.tdl_rules.specs.Earliest.{earliest}
use Rattle.tdl_rules.specs.Lists.{each, clashes_after}
use Rattle.tdl_rules.specs.Times.{from, times, IsOffset}
use Rattle.tdl_rules.proofs.Occurrences.{times-within}
use Rattle.tdl_slots.specs.Choices.{ends_of, offsets_in, ranges_in}
use Rattle.tdl_slots.specs.declared.chosen.Chosen.{Chosen}
use Rattle.tdl_slots.proofs.Ascending.{AllAbove, Ascending, ascending}
use Rattle.tdl_occurs.specs.Invocations.{is_met, is_same, updates}
use Rattle.tdl_occurs.proofs.Repeated.{Apart, IsFree, HasAll, alike_itself, noted_once}
use Rattle.tdl_occurs.proofs.SameTask.{any-map, any-same, where_one}

-- ---- pairs of updates

-- the updates of two activities
two_actuators : (m n : ℕ) (left right : Id) (xs ys : List ℕ) →
    is_met same_update (updates m left xs) (updates n right ys) ≡ ((m == n) && is_met is_same xs ys)
two_actuators m n left right xs ys =
    let first : ℕ → Updated = λ t. record { actuator = m; name = left; time = t } in
    let second : ℕ → Updated = λ t. record { actuator = n; name = right; time = t } in
    any-map (λ (v : Updated). list_any (λ (u : Updated). same_update u v) (map first xs)) second ys
    ∙ any-same (λ (y : ℕ). list_any (λ (u : Updated). same_update u (second y)) (map first xs))
    (λ (y : ℕ). list_any (λ (x : ℕ). (m == n) && is_same x y) xs) ys
    (λ y. any-map (λ (u : Updated). same_update u (second y)) first xs)
    ∙ where_one is_same (m == n) xs ys

-- of one actuator
pub same_actuator : (k m n : ℕ) (left right : Id) (xs ys : List ℕ) → k ≡ m → k ≡ n →
    is_met is_same xs ys ≡ is_met same_update (updates m left xs) (updates n right ys)
same_actuator k m n left right xs ys here there =
    sym (two_actuators m n left right xs ys
    ∙ ap (λ (b : Bool). b && is_met is_same xs ys) (eq-eqb m n (sym here ∙ there)))

-- of two
pub other_actuator : (k m n : ℕ) (left right : Id) (xs ys : List ℕ) → k ≡ m → (k ≡ n → ⊥) →
    false ≡ is_met same_update (updates m left xs) (updates n right ys)
other_actuator k m n left right xs ys here differ =
    sym (two_actuators m n left right xs ys
    ∙ ap (λ (b : Bool). b && is_met is_same xs ys) (ne_eqb m n (λ e. differ (here ∙ e))))

-- ---- what an activity updates

-- where its actuator is there
pub updated-there : (scope : Scope) (period : ℕ) (a : Act) (actuator : Id) (value : ExprTree) (n : ℕ) (kind : Kind) →
    a.what ≡ what.Update actuator value → as_actuator (meant scope.tree actuator.text) ≡ Some (n, kind) →
    updated scope period a a.what ≡ updates n actuator (times period a)
updated-there scope period a actuator value n kind is there = rw (is, there) refl

-- and where it is not
pub updated-lost : (scope : Scope) (period : ℕ) (a : Act) (actuator : Id) (value : ExprTree) →
    a.what ≡ what.Update actuator value → as_actuator (meant scope.tree actuator.text) ≡ None →
    updated scope period a a.what ≡ []
updated-lost scope period a actuator value is lost = rw (is, lost) refl

-- ---- offsets that rise

-- all numbers are above t
abbrev AllPast : ℕ → List ℕ → Type 0
AllPast t [] = Unit {0}
AllPast t (s ∷ ss) = (t < s) × AllPast t ss

-- each number is above those before it
abbrev Rising : List ℕ → Type 0
Rising [] = Unit {0}
Rising (t ∷ ts) = AllPast t ts × Rising ts

-- one list after another
past-append : (t : ℕ) (xs ys : List ℕ) → AllPast t xs → AllPast t ys → AllPast t (xs ++ ys)
past-append t [] ys here there = there
past-append t (x ∷ xs) ys here there = (here.0, past-append t xs ys here.1 there)

-- n slots from k on end after t
slots_past : (width k n t : ℕ) → t < k * width → AllPast t (map (λ i. i * width) (from k n))
slots_past width k zero t less = tt
slots_past width k (suc n) t less =
    let next : suc k * width ≡ k * width + width = suc-mul k width in
    (less, slots_past width (suc k) n t (omega (arith, less, next)))

-- so do the slots of ranges above slot k
ranges_past : (width k t : ℕ) (rs : List (ℕ × ℕ)) → 0 < width → t ≤ k * width → AllAbove k rs →
    AllPast t (each (ends_of width) rs)
ranges_past width k t [] some less above = tt
ranges_past width k t (r ∷ rs) some less above =
    let next : suc k * width ≡ k * width + width = suc-mul k width in
    let later : suc k * width ≤ r.0 * width = mul-le (suc k) width r.0 width (omega (arith, above.0)) (omega arith) in
    past-append t (ends_of width r) (each (ends_of width) rs)
    (slots_past width r.0 (suc r.1 - r.0) t (omega (arith, some, less, next, later)))
    (ranges_past width k t rs some less above.1)

-- n slots from k on, up to slot b, and then numbers above the end of b
range_rises : (width k n b : ℕ) (ys : List ℕ) → 0 < width → ((i : ℕ) → i < n → k + i ≤ b) →
    ((t : ℕ) → t ≤ b * width → AllPast t ys) → Rising ys → Rising (map (λ i. i * width) (from k n) ++ ys)
range_rises width k zero b ys some within past up = up
range_rises width k (suc n) b ys some within past up =
    let next : suc k * width ≡ k * width + width = suc-mul k width in
    let first : k + 0 ≤ b = within 0 (omega arith) in
    let end : k * width ≤ b * width = mul-le k width b width (omega (arith, first)) (omega arith) in (
      past-append (k * width) (map (λ i. i * width) (from (suc k) n)) ys
          (slots_past width (suc k) n (k * width) (omega (arith, some, next))) (past (k * width) end),
      range_rises width (suc k) n b ys some
          (λ i less. let h : k + suc i ≤ b = within (suc i) (omega (arith, less)) in omega (arith, h)) past up,
    )

-- the offsets of ranges that ascend rise
offsets_rise : (width : ℕ) (rs : List (ℕ × ℕ)) → 0 < width → Ascending rs → Rising (each (ends_of width) rs)
offsets_rise width [] some up = tt
offsets_rise width (r ∷ rs) some up =
    range_rises width r.0 (suc r.1 - r.0) r.1 (each (ends_of width) rs) some (λ i less. omega (arith, less))
    (λ t less. ranges_past width r.1 t rs some less up.0) (offsets_rise width rs some up.1)

-- ---- one activity

-- numbers that rise are no updates at one offset
later_free : (n t : ℕ) (name : Id) (ss : List ℕ) → AllPast t ss →
    IsFree same_update (record { actuator = n; name = name; time = t }) (updates n name ss)
later_free n t name [] past = tt
later_free n t name (s ∷ ss) past =
    (and_right (n == n) (t == s) (ne_eqb t s (λ e. omega (arith, e, past.0))), later_free n t name ss past.1)

rising_apart : (n : ℕ) (name : Id) (ts : List ℕ) → Rising ts → Apart same_update (updates n name ts)
rising_apart n name [] up = tt
rising_apart n name (t ∷ ts) up = (later_free n t name ts up.0, rising_apart n name ts up.1)

-- where slots have no width, all offsets are 0
abbrev AllZero : List ℕ → Type 0
AllZero [] = Unit {0}
AllZero (t ∷ ts) = (t ≡ 0) × AllZero ts

zero-append : (xs ys : List ℕ) → AllZero xs → AllZero ys → AllZero (xs ++ ys)
zero-append [] ys here there = there
zero-append (x ∷ xs) ys here there = (here.0, zero-append xs ys here.1 there)

slots_zero : (k n : ℕ) → AllZero (map (λ i. i * 0) (from k n))
slots_zero k zero = tt
slots_zero k (suc n) = (mul-zero k, slots_zero (suc k) n)

ranges_zero : (rs : List (ℕ × ℕ)) → AllZero (each (ends_of 0) rs)
ranges_zero [] = tt
ranges_zero (r ∷ rs) = zero-append (ends_of 0 r) (each (ends_of 0) rs) (slots_zero r.0 (suc r.1 - r.0)) (ranges_zero rs)

-- so there are none that is above 0
zero_rises : (ts : List ℕ) → AllZero ts → All (λ t. 1 ≤ t) ts → Rising ts
zero_rises [] none some = tt
zero_rises (t ∷ ts) none some = absurd (omega (arith, none.0, (recursion_from_All (λ (t : ℕ). 1 ≤ t) (t ∷ ts) some).0))

-- the offsets that an activity chooses rise
chosen_rise : (width : ℕ) (rs : List (ℕ × ℕ)) → Ascending rs → All (λ t. 1 ≤ t) (each (ends_of width) rs) →
    Rising (each (ends_of width) rs)
chosen_rise zero rs up some = zero_rises (each (ends_of 0) rs) (ranges_zero rs) some
chosen_rise (suc w) rs up some = offsets_rise (suc w) rs (omega arith) up

-- the updates of an activity are apart
apart : (period n : ℕ) (name : Id) (a : Act) (chosen : Chosen) → offsets_in chosen ≡ times period a →
    Apart same_update (updates n name (offsets_in chosen))
apart period n name a chosen offsets =
    let within : All (IsOffset period) (offsets_in chosen) =
    subst (λ (ts : List ℕ). All (IsOffset period) ts) (sym offsets) (times-within period a) in
    rising_apart n name (offsets_in chosen)
    (chosen_rise chosen.width (ranges_in chosen) (ascending chosen) (λ k d inside. (within k d inside).0))

-- and have one fault
one_fault : (file n : ℕ) (name : Id) (ts : List ℕ) →
    HasAll (λ (u : Updated). broken 14 file (spot_of u.name)) (broken 14 file (spot_of name)) (updates n name ts)
one_fault file n name [] = tt
one_fault file n name (t ∷ ts) = (refl, one_fault file n name ts)

-- the faults of an activity whose actuator is there
pub activity_fault : (scope : Scope) (period : ℕ) (before : List Updated) (a : Act) (actuator : Id) (value : ExprTree) (n : ℕ)
    (kind : Kind) (chosen : Chosen) (best : Option Fault) → a.what ≡ what.Update actuator value →
    as_actuator (meant scope.tree actuator.text) ≡ Some (n, kind) → offsets_in chosen ≡ times period a →
    earliest best (map (λ (u : Updated). broken 14 scope.file (spot_of u.name))
    (clashes_after same_update before (updated scope period a a.what)))
    ≡ earliest best (fault_if (is_met same_update before (updates n actuator (offsets_in chosen)))
    (broken 14 scope.file (spot_of actuator)))
activity_fault scope period before a actuator value n kind chosen best is there offsets =
    let at : Updated → Fault = λ u. broken 14 scope.file (spot_of u.name) in
    let items = updates n actuator (offsets_in chosen) in
    let same : updated scope period a a.what ≡ items =
    updated-there scope period a actuator value n kind is there ∙ ap (updates n actuator) (sym offsets) in
    ap (λ (z : List Updated). earliest best (map at (clashes_after same_update before z))) same
    ∙ noted_once same_update at (broken 14 scope.file (spot_of actuator)) before before items best
    (alike_itself same_update before items) (apart period n actuator a chosen offsets)
    (one_fault scope.file n actuator (offsets_in chosen))
