-- How many items of a list pass a test, and how many items joined lists have.
use Rattle.std.proofs.Common.{◌≡◌, ℕ, zero, suc, ◌+◌, ◌<◌, ◌≤◌, List, [], ◌∷◌, ◌++◌, map, filter, length, Bool, true, false, ◌&&◌, Some, refl, ap, ◌∙◌, arith}
use Rattle.std.specs.Prelude.{slice_get, if◌then◌else◌, flat_map, find}
use Rattle.std.proofs.lemmas.List.{length-append}
use Rattle.std.proofs.lemmas.Option.{same_Some, slice_get_within}
use Rattle.tdl_base.proofs.Finding.{Passing}
use Rattle.tdl_base.proofs.ListPlaces.{in-filter}
use Rattle.tdl_verify.proofs.Covered.{unit}

-- the first item counts where it passes
pub length-filter-cons : {A : Type 0} (q : A → Bool) (a : A) (rest : List A) →
    length (filter q (a ∷ rest)) ≡ unit (q a) + length (filter q rest)
length-filter-cons q a rest = by_test (q a)
  where
    by_test : (b : Bool) → length (if b then a ∷ filter q rest else filter q rest) ≡ unit b + length (filter q rest)
    by_test true = omega arith
    by_test false = omega arith

-- to filter, to map and to filter again keeps as many items as one filter by both tests
pub length-filter-map-filter : {A B : Type 0} (r : A → Bool) (g : A → B) (q : B → Bool) (xs : List A) →
    length (filter q (map g (filter r xs))) ≡ length (filter (λ a. r a && q (g a)) xs)
length-filter-map-filter r g q [] = refl
length-filter-map-filter r g q (x ∷ xs) = by_test (length-filter-map-filter r g q xs) (r x)
  where
    by_test : length (filter q (map g (filter r xs))) ≡ length (filter (λ a. r a && q (g a)) xs) → (b : Bool) →
        length (filter q (map g (if b then x ∷ filter r xs else filter r xs)))
        ≡ length (if b && q (g x) then x ∷ filter (λ a. r a && q (g a)) xs else filter (λ a. r a && q (g a)) xs)
    by_test rest true = by_second (q (g x))
      where
        by_second : (c : Bool) →
            length (if c then g x ∷ filter q (map g (filter r xs)) else filter q (map g (filter r xs)))
            ≡ length (if c then x ∷ filter (λ a. r a && q (g a)) xs else filter (λ a. r a && q (g a)) xs)
        by_second true = ap suc rest
        by_second false = rest
    by_test rest false = rest

-- nothing is left where no item passes
pub filter-none : {A : Type 0} (q : A → Bool) (xs : List A) →
    ((n : ℕ) (a : A) → slice_get xs n ≡ Some a → q a ≡ true → ⊥) → filter q xs ≡ []
filter-none q [] none = refl
filter-none q (x ∷ xs) none = by_test (filter-none q xs (λ n a at. none (suc n) a at)) (q x) refl
  where
    by_test : filter q xs ≡ [] → (b : Bool) → q x ≡ b → (if b then x ∷ filter q xs else filter q xs) ≡ []
    by_test rest true e = absurd (none 0 x refl e)
    by_test rest false e = rest

-- the count is not 0 where the item of a place passes
pub filter-some : {A : Type 0} (q : A → Bool) (xs : List A) (n : ℕ) (a : A) → slice_get xs n ≡ Some a → q a ≡ true →
    0 < length (filter q xs)
filter-some q xs n a at e =
    let i = in-filter q xs n a at e in
    let within = slice_get_within (filter q xs) i.place a i.at in
    omega (arith, within)

-- some item passes where the count is not 0
pub some-passes : {A : Type 0} (q : A → Bool) (xs : List A) → 0 < length (filter q xs) → Passing q xs
some-passes q [] lt = absurd (omega (arith, lt))
some-passes q (x ∷ xs) lt = by_test (some-passes q xs) (q x) refl lt
  where
    by_test : (0 < length (filter q xs) → Passing q xs) → (b : Bool) → q x ≡ b →
        0 < length (if b then x ∷ filter q xs else filter q xs) → Passing q (x ∷ xs)
    by_test rest true e lt = record { place = 0; item = x; at = refl; passes = e }
    by_test rest false e lt =
        let r = rest lt in
        record { place = suc r.place; item = r.item; at = r.at; passes = r.passes }

-- at most one item passes where no two do
pub one-passes : {A : Type 0} (q : A → Bool) (xs : List A) →
    ((i j : ℕ) (a b : A) → i < j → slice_get xs i ≡ Some a → slice_get xs j ≡ Some b → q a ≡ true → q b ≡ true → ⊥) →
    length (filter q xs) ≤ 1
one-passes q [] two = omega arith
one-passes q (x ∷ xs) two =
    by_test (one-passes q xs (λ i j a b lt ai bj e f. two (suc i) (suc j) a b (omega (arith, lt)) ai bj e f)) (q x) refl
  where
    by_test : length (filter q xs) ≤ 1 → (b : Bool) → q x ≡ b → length (if b then x ∷ filter q xs else filter q xs) ≤ 1
    by_test rest true e =
        let none = ap length (filter-none q xs (λ n a at f. two 0 (suc n) x a (omega arith) refl at e f)) in
        omega (arith, none)
    by_test rest false e = rest

-- the only item that passes is the one that is found
pub find-only : {A : Type 0} (q : A → Bool) (xs : List A) → length (filter q xs) ≡ 1 → (n : ℕ) (a : A) →
    slice_get xs n ≡ Some a → q a ≡ true → find q xs ≡ Some a
find-only q [] one n a at e = absurd (cc at)
find-only q (x ∷ xs) one zero a at e =
    ap (λ b. if b then Some x else find q xs) (ap q (same_Some x a at) ∙ e) ∙ at
find-only q (x ∷ xs) one (suc n) a at e = by_test (find-only q xs) (q x) refl
  where
    by_test : (length (filter q xs) ≡ 1 → (n : ℕ) (a : _) → slice_get xs n ≡ Some a → q a ≡ true → find q xs ≡ Some a) →
        (b : Bool) → q x ≡ b → (if b then Some x else find q xs) ≡ Some a
    by_test rest true t =
        let c = length-filter-cons q x xs in
        let more = filter-some q xs n a at e in
        let here : unit (q x) ≡ 1 = ap unit t in
        absurd (omega (arith, c, more, here, one))
    by_test rest false t =
        let c = length-filter-cons q x xs in
        let here : unit (q x) ≡ 0 = ap unit t in
        rest (omega (arith, c, here, one)) n a at e

-- joined lists are empty where each of them is
pub none-flat : {A B : Type 0} (f : A → List B) (xs : List A) →
    ((n : ℕ) (a : A) → slice_get xs n ≡ Some a → 0 < length (f a) → ⊥) → length (flat_map f xs) ≡ 0
none-flat f [] none = refl
none-flat f (x ∷ xs) none =
    let rest = none-flat f xs (λ n a at lt. none (suc n) a at lt) in
    let here = not_above (length (f x)) (none 0 x refl) in
    let sum = length-append (f x) (flat_map f xs) in
    omega (arith, rest, here, sum)
  where
    not_above : (n : ℕ) → (0 < n → ⊥) → n ≡ 0
    not_above zero h = refl
    not_above (suc n) h = absurd (h (omega arith))

-- joined lists have at most one item where each has at most one and no two have any
pub one-flat : {A B : Type 0} (f : A → List B) (xs : List A) →
    ((n : ℕ) (a : A) → slice_get xs n ≡ Some a → length (f a) ≤ 1) →
    ((i j : ℕ) (a b : A) → i < j → slice_get xs i ≡ Some a → slice_get xs j ≡ Some b →
    0 < length (f a) → 0 < length (f b) → ⊥) →
    length (flat_map f xs) ≤ 1
one-flat f [] each two = omega arith
one-flat f (x ∷ xs) each two =
    by_count (one-flat f xs (λ n a at. each (suc n) a at)
    (λ i j a b lt ai bj e g. two (suc i) (suc j) a b (omega (arith, lt)) ai bj e g)) (length (f x)) refl
  where
    sum : length (f x ++ flat_map f xs) ≡ length (f x) + length (flat_map f xs)
    sum = length-append (f x) (flat_map f xs)

    by_count : length (flat_map f xs) ≤ 1 → (n : ℕ) → length (f x) ≡ n → length (f x ++ flat_map f xs) ≤ 1
    by_count rest zero e = omega (arith, e, sum, rest)
    by_count rest (suc n) e =
        let here = each 0 x refl in
        let none = none-flat f xs (λ n a at lt. two 0 (suc n) x a (omega arith) refl at (omega (arith, e)) lt) in
        omega (arith, here, none, sum)
