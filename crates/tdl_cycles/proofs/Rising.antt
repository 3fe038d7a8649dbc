-- Lists of numbers that rise, and what is among them.
use Rattle.std.proofs.Common.{◌≡◌, ◌⊎◌, inl, inr, ℕ, suc, ◌<◌, ◌≤◌, List, [], ◌∷◌, Bool, true, false, ◌||◌, ◌==◌, if◌then◌else◌, nat_lt, refl, ap, ap₂, sym, ◌∙◌, subst, arith}
use Rattle.std.specs.List.{list_any}
use Rattle.std.proofs.lemmas.Bool.{cases_lt, eqb-true, true≢false, ltb-true, ltb-false, or_parts, or_from, ne_eqb}
use Rattle.tdl_base.specs.Lists.{inserted}
use Rattle.tdl_base.proofs.Tests.{eq_self}
use Rattle.tdl_mode.specs.Offsets.{ascending}

-- the first number is at least so much, and each further one above the one before
abbrev pub Rises : ℕ → List ℕ → Type 0
Rises least [] = Unit {0}
Rises least (o ∷ os) = (least ≤ o) × Rises (suc o) os

-- o is among the numbers
abbrev pub has : ℕ → List ℕ → Bool
has o os = list_any (λ p. p == o) os

-- ---- lists that rise, of the same numbers

-- what is below all is not among them
below-none : (least o : ℕ) (os : List ℕ) → Rises least os → o < least → has o os ≡ false
below-none least o [] rises below = refl
below-none least o (p ∷ os) rises below =
    or_from (p == o) (has o os) (ne_eqb p o (λ e. omega (arith, e, rises.0, below)))
    (below-none (suc p) o os rises.1 (omega (arith, rises.0, below)))

-- after one first number, the numbers are the same too
same_rest : (x : ℕ) (xs ys : List ℕ) → Rises (suc x) xs → Rises (suc x) ys →
    ((o : ℕ) → has o (x ∷ xs) ≡ has o (x ∷ ys)) → (o : ℕ) → has o xs ≡ has o ys
same_rest x xs ys left right same o = by_test (x == o) refl
  where
    by_test : (t : Bool) → (x == o) ≡ t → has o xs ≡ has o ys
    by_test true e =
        let here : x ≡ o = eqb-true x o e in
        below-none (suc x) o xs left (omega (arith, here)) ∙ sym (below-none (suc x) o ys right (omega (arith, here)))
    by_test false e =
        sym (ap (λ t. t || has o xs) e) ∙ same o ∙ ap (λ t. t || has o ys) e

-- the first number is among the numbers
has-first : (x : ℕ) (xs : List ℕ) → has x (x ∷ xs) ≡ true
has-first x xs = ap (λ t. t || has x xs) (eq_self x)

-- it cannot be below those of a list that rises and has it
first_not_below : (x y : ℕ) (xs ys : List ℕ) → Rises (suc y) ys → has x (x ∷ xs) ≡ has x (y ∷ ys) → x < y → ⊥
first_not_below x y xs ys rises same below =
    true≢false (sym (has-first x xs) ∙ same ∙ below-none y x (y ∷ ys) (omega arith, rises) below)

-- two lists that rise and have the same numbers are one
pub same_rising : (l m : ℕ) (xs ys : List ℕ) → Rises l xs → Rises m ys → ((o : ℕ) → has o xs ≡ has o ys) → xs ≡ ys
same_rising l m [] [] left right same = refl
same_rising l m [] (y ∷ ys) left right same = absurd (true≢false (sym (same y ∙ has-first y ys)))
same_rising l m (x ∷ xs) [] left right same = absurd (true≢false (sym (has-first x xs) ∙ same x))
same_rising l m (x ∷ xs) (y ∷ ys) left right same =
    by_order (same_rising (suc x) (suc x) xs ys left.1) (cases_lt x y) (cases_lt y x)
  where
    by_first : (Rises (suc x) ys → ((o : ℕ) → has o xs ≡ has o ys) → xs ≡ ys) → x ≡ y → x ∷ xs ≡ y ∷ ys
    by_first rest e =
        let rises : Rises (suc x) ys = subst (λ z. Rises (suc z) ys) (sym e) right.1 in
        ap₂ (λ z zs. z ∷ zs) e
        (rest rises (same_rest x xs ys left.1 rises (λ o. same o ∙ ap (λ z. has o (z ∷ ys)) (sym e))))

    by_order : (Rises (suc x) ys → ((o : ℕ) → has o xs ≡ has o ys) → xs ≡ ys) →
        (x < y) ⊎ (y ≤ x) → (y < x) ⊎ (x ≤ y) → x ∷ xs ≡ y ∷ ys
    by_order rest (inl less) h = absurd (first_not_below x y xs ys right.1 (same x) less)
    by_order rest (inr le) (inl less) = absurd (first_not_below y x ys xs left.1 (sym (same y)) less)
    by_order rest (inr le) (inr ge) = by_first rest (omega (arith, le, ge))

-- ---- the ascending list of numbers

-- what is among the numbers after one is put in its place
inserted-has : (x o : ℕ) (ys : List ℕ) → has o (inserted nat_lt x ys) ≡ ((x == o) || has o ys)
inserted-has x o [] = refl
inserted-has x o (y ∷ ys) = by_test (inserted-has x o ys) (nat_lt x y)
  where
    swapped : (a b c : Bool) → (a || (b || c)) ≡ (b || (a || c))
    swapped true true c = refl
    swapped true false c = refl
    swapped false b c = refl

    by_test : has o (inserted nat_lt x ys) ≡ ((x == o) || has o ys) → (t : Bool) →
        has o (if t then x ∷ y ∷ ys else y ∷ inserted nat_lt x ys) ≡ ((x == o) || ((y == o) || has o ys))
    by_test rest true = refl
    by_test rest false = ap (λ t. (y == o) || t) rest ∙ swapped (y == o) (x == o) (has o ys)

-- a number that is not among numbers that rise is put in its place among them
inserted-rises : (least x : ℕ) (ys : List ℕ) → least ≤ x → Rises least ys → has x ys ≡ false →
    Rises least (inserted nat_lt x ys)
inserted-rises least x [] le rises none = (le, tt)
inserted-rises least x (y ∷ ys) le rises none =
    by_test (λ above. inserted-rises (suc y) x ys above rises.1 parts.1) (nat_lt x y) refl
  where
    parts : ((y == x) ≡ false) × (has x ys ≡ false)
    parts = or_parts (y == x) (has x ys) none

    differ : y ≡ x → ⊥
    differ e = true≢false (sym (eq_self y) ∙ ap (λ z. y == z) e ∙ parts.0)

    above : y ≤ x → (y ≡ x → ⊥) → suc y ≤ x
    above h k = omega (arith, h, k)

    by_test : (suc y ≤ x → Rises (suc y) (inserted nat_lt x ys)) → (t : Bool) → nat_lt x y ≡ t →
        Rises least (if t then x ∷ y ∷ ys else y ∷ inserted nat_lt x ys)
    by_test rest true e = (le, (ltb-true x y e, rises.1))
    by_test rest false e = (rises.0, rest (above (ltb-false x y e) differ))

-- the ascending list has the numbers of the list
ascending-has : (o : ℕ) (os : List ℕ) → has o (ascending os) ≡ has o os
ascending-has o [] = refl
ascending-has o (x ∷ os) = by_test (ascending-has o os) (has x os) refl
  where
    again : (t : Bool) → (x == o) ≡ t → has x os ≡ true → has o os ≡ (t || has o os)
    again true e found = ap (λ z. has z os) (sym (eqb-true x o e)) ∙ found
    again false e found = refl

    by_test : has o (ascending os) ≡ has o os → (t : Bool) → has x os ≡ t →
        has o (if t then ascending os else inserted nat_lt x (ascending os)) ≡ ((x == o) || has o os)
    by_test rest true e = rest ∙ again (x == o) refl e
    by_test rest false e = inserted-has x o (ascending os) ∙ ap (λ t. (x == o) || t) rest

-- and it rises
ascending-rises : (os : List ℕ) → Rises 0 (ascending os)
ascending-rises [] = tt
ascending-rises (x ∷ os) = by_test (ascending-rises os) (has x os) refl
  where
    by_test : Rises 0 (ascending os) → (t : Bool) → has x os ≡ t →
        Rises 0 (if t then ascending os else inserted nat_lt x (ascending os))
    by_test rest true e = rest
    by_test rest false e = inserted-rises 0 x (ascending os) (omega arith) rest (ascending-has x os ∙ e)

-- so what rises and has the numbers of a list is its ascending list
pub is_ascending : (xs os : List ℕ) → Rises 0 xs → ((o : ℕ) → has o xs ≡ has o os) → xs ≡ ascending os
is_ascending xs os rises same =
    same_rising 0 0 xs (ascending os) rises (ascending-rises os) (λ o. same o ∙ sym (ascending-has o os))
