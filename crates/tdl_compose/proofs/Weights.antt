-- The activities of a mode of sources that break no rule are at most as many as the occurrences of a program may be.
use Rattle.std.proofs.Common.{◌≡◌, ℕ, zero, suc, ◌+◌, ◌-◌, ◌*◌, ◌/◌, ◌%◌, ◌≤◌, List, [], ◌∷◌, ◌++◌, map, Bool, true, false, Option, Some, None, length, refl, ap, sym, ◌∙◌, subst, arith}
use Rattle.std.specs.Prelude.{slice_get, if◌then◌else◌, ◌&&◌, ◌==◌, nat_lt, nat_le, is_none}
use Rattle.std.proofs.lemmas.Bool.{and_parts, leb-true, ltb-false}
use Rattle.std.proofs.lemmas.List.{length-append, length-map}
use Rattle.std.proofs.lemmas.Option.{same_Some}
use Rattle.tdl_base.specs.declared.limits.TheConstants.{FREQUENCY}
use Rattle.tdl_tree.specs.declared.activities.Act.{Act}
use Rattle.tdl_tree.specs.declared.activities.ActKind.{ActKind}
use Rattle.tdl_tree.specs.declared.activities.ActKind.TheVariants as act
use Rattle.tdl_tree.specs.declared.activities.Slots.{Slots}
use Rattle.tdl_rules.specs.declared.fault.Fault.{Fault}
use Rattle.tdl_rules.specs.Lists.{each}
use Rattle.tdl_rules.specs.Times.{in_ten_seconds, divides, bad_range, last_of, occurs, from, ranges, let_of, lets, slot_ends, times}
use Rattle.tdl_rules.specs.BoundRules.{count_of, passes}
use Rattle.tdl_slots.proofs.Lawful.{good_first, tested}

-- ---- each activity occurs

-- a list that begins with a range of slots
record HasRange (rs : List (ℕ × ℕ)) : Type 0 where
  range : ℕ × ℕ
  rest : List (ℕ × ℕ)
  is : rs ≡ range ∷ rest
  order : range.0 ≤ range.1

-- lawful numbers choose a range
has_range : (f : ℕ) (slots : List Slots) → 1 ≤ f → bad_range f 0 slots ≡ None → HasRange (ranges f slots)
has_range zero [] some none = absurd (omega (arith, some))
has_range (suc f) [] some none =
    record { range = (1, 1); rest = map (λ i. (i, i)) (from 2 f); is = refl; order = omega arith }
has_range f (x ∷ more) some none = record {
  range = (x.first.value, last_of x);
  rest = map (λ (r : Slots). (r.first.value, last_of r)) more;
  is = refl;
  order = (tested f 0 x (good_first f 0 x more none).0).order;
}

-- so there is a logical execution time
some_let : (period : ℕ) (activity : Act) → occurs period activity ≡ true →
    HasRange (ranges activity.freq.value activity.slots) → 1 ≤ length (lets period activity)
some_let period activity here r =
    subst (λ n. 1 ≤ n) (sym (ap (λ t. length (if t then map (let_of activity.freq.value period)
    (ranges activity.freq.value activity.slots) else [])) here
    ∙ ap (λ rs. length (map (let_of activity.freq.value period) rs)) r.is)) (omega arith)

-- the first of some numbers
some_from : (k n : ℕ) → 1 ≤ n → 1 ≤ length (from k n)
some_from k zero some = some
some_from k (suc n) some = omega arith

-- and an offset
some_time : (period : ℕ) (activity : Act) → occurs period activity ≡ true →
    HasRange (ranges activity.freq.value activity.slots) → 1 ≤ length (times period activity)
some_time period activity here r =
    let ends = slot_ends activity.freq.value period in
    let order : r.range.0 ≤ r.range.1 = r.order in
    let slots : 1 ≤ length (from r.range.0 (suc r.range.1 - r.range.0)) =
    some_from r.range.0 (suc r.range.1 - r.range.0) (omega (arith, order)) in
    let as_many : length (ends r.range) ≡ length (from r.range.0 (suc r.range.1 - r.range.0)) =
    length-map (from r.range.0 (suc r.range.1 - r.range.0)) (λ i. i * period / activity.freq.value) in
    let parts : length (ends r.range ++ each ends r.rest) ≡ length (ends r.range) + length (each ends r.rest) =
    length-append (ends r.range) (each ends r.rest) in
    let some : 1 ≤ length (ends r.range ++ each ends r.rest) = omega (arith, slots, as_many, parts) in
    subst (λ n. 1 ≤ n) (sym (
    ap (λ t. length (if t then each ends (ranges activity.freq.value activity.slots) else [])) here
    ∙ ap (λ rs. length (each ends rs)) r.is)) some

-- what is absent is None
none-is : {A : Type 0} (o : Option A) → is_none o ≡ true → o ≡ None
none-is None e = refl
none-is (Some x) e = absurd (cc e)

-- so an activity of lawful numbers is counted at least once
pub counted_once : (period : ℕ) (activity : Act) (what : ActKind) → occurs period activity ≡ true →
    1 ≤ count_of period activity what
counted_once period activity what here =
    let p = and_parts (in_ten_seconds period && divides activity.freq.value period)
    (is_none (bad_range activity.freq.value 0 activity.slots)) here in
    let q = and_parts (in_ten_seconds period) (divides activity.freq.value period) p.0 in
    let d = and_parts (nat_le 1 activity.freq.value && nat_le activity.freq.value FREQUENCY)
    (period % activity.freq.value == 0) q.1 in
    let some = leb-true 1 activity.freq.value
    (and_parts (nat_le 1 activity.freq.value) (nat_le activity.freq.value FREQUENCY) d.0).0 in
    by_what what (has_range activity.freq.value activity.slots some
    (none-is (bad_range activity.freq.value 0 activity.slots) p.1))
  where
    by_what : (what : ActKind) → HasRange (ranges activity.freq.value activity.slots) →
        1 ≤ count_of period activity what
    by_what (act.Task task args) r = some_let period activity here r
    by_what (act.Update actuator value) r = some_time period activity here r
    by_what (act.Switch target) r = some_time period activity here r

-- ---- their sum

-- the sum of the numbers
abbrev pub weight : List (Fault × ℕ) → ℕ
weight [] = 0
weight (first ∷ more) = first.1 + weight more

-- where they pass no limit, their sum is within it
pub within_limit : (n : ℕ) (list : List (Fault × ℕ)) → passes n list ≡ [] → weight list ≤ n
within_limit n [] none = omega arith
within_limit n (first ∷ more) none = by_test (within_limit (n - first.1) more) (nat_lt n first.1) refl none
  where
    by_test : (passes (n - first.1) more ≡ [] → weight more ≤ n - first.1) → (t : Bool) → nat_lt n first.1 ≡ t →
        (if t then first.0 ∷ [] else passes (n - first.1) more) ≡ [] → first.1 + weight more ≤ n
    by_test kept true e none = absurd (cc none)
    by_test kept false e none =
        let rest : weight more ≤ n - first.1 = kept none in
        let low : first.1 ≤ n = ltb-false n first.1 e in
        omega (arith, rest, low)

-- the sum over two lists
weight-append : (xs ys : List (Fault × ℕ)) → weight (xs ++ ys) ≡ weight xs + weight ys
weight-append [] ys = omega arith
weight-append (x ∷ xs) ys =
    let rest : weight (xs ++ ys) ≡ weight xs + weight ys = weight-append xs ys in omega (arith, rest)

-- what is made of one item weighs no more than what is made of all
pub weight-at : {A : Type 0} (f : A → List (Fault × ℕ)) (xs : List A) (k : ℕ) (x : A) → slice_get xs k ≡ Some x →
    weight (f x) ≤ weight (each f xs)
weight-at f [] k x at = absurd (cc at)
weight-at f (y ∷ ys) zero x at =
    let parts : weight (f y ++ each f ys) ≡ weight (f y) + weight (each f ys) = weight-append (f y) (each f ys) in
    subst (λ z. weight (f z) ≤ weight (f y ++ each f ys)) (same_Some y x at) (omega (arith, parts))
weight-at f (y ∷ ys) (suc k) x at =
    let parts : weight (f y ++ each f ys) ≡ weight (f y) + weight (each f ys) = weight-append (f y) (each f ys) in
    let rest : weight (f x) ≤ weight (each f ys) = weight-at f ys k x at in
    omega (arith, parts, rest)

-- items that each weigh something are no more than their weight
pub no_more : {A : Type 0} (f : A → Fault × ℕ) (xs : List A) →
    ((n : ℕ) (x : A) → slice_get xs n ≡ Some x → 1 ≤ (f x).1) → length xs ≤ weight (map f xs)
no_more f [] some = omega arith
no_more f (x ∷ xs) some =
    let first : 1 ≤ (f x).1 = some 0 x refl in
    let rest : length xs ≤ weight (map f xs) = no_more f xs (λ n y at. some (suc n) y at) in
    omega (arith, first, rest)
