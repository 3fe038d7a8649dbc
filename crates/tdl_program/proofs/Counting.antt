-- The numbers of items among those that pass a test.
use Rattle.std.proofs.Common.{◌≡◌, ℕ, zero, suc, ◌<◌, List, [], ◌∷◌, ◌++◌, Bool, true, false, Some, refl, ap, sym, ◌∙◌, subst, arith, filter, length, take}
use Rattle.std.specs.Prelude.{slice_get, if◌then◌else◌}
use Rattle.std.proofs.lemmas.Option.{same_Some}
use Rattle.tdl_rules.specs.Lists.{each}
use Rattle.tdl_program.specs.Ordinals.{ordinal}

-- one is made of an item that passes, and none of another
abbrev pub IsSingle : {A B : Type 0} → (A → Bool) → (A → List B) → Type 0
IsSingle passes parts = (x : _) → length (parts x) ≡ (if passes x then 1 else 0)

-- what is made of item k stands at its ordinal
pub each-ordinal : {A B : Type 0} (passes : A → Bool) (parts : A → List B) → IsSingle passes parts →
    (xs : List A) (k : ℕ) (x : A) (b : B) → slice_get xs k ≡ Some x → parts x ≡ b ∷ [] →
    slice_get (each parts xs) (ordinal passes xs k) ≡ Some b
each-ordinal passes parts single [] k x b at is = absurd (cc at)
each-ordinal passes parts single (y ∷ ys) zero x b at is =
    ap (λ ps. slice_get (ps ++ each parts ys) 0) (ap parts (same_Some y x at) ∙ is)
each-ordinal passes parts single (y ∷ ys) (suc k) x b at is =
    by_test (each-ordinal passes parts single ys k x b at is) (passes y) (parts y) (single y)
  where
    by_test : slice_get (each parts ys) (ordinal passes ys k) ≡ Some b → (t : Bool) (ps : List _) →
        length ps ≡ (if t then 1 else 0) →
        slice_get (ps ++ each parts ys) (length (if t then y ∷ filter passes (take k ys) else filter passes (take k ys)))
        ≡ Some b
    by_test rest true [] e = absurd (omega (arith, e))
    by_test rest true (p ∷ []) e = rest
    by_test rest true (p ∷ q ∷ ps) e = absurd (omega (arith, e))
    by_test rest false [] e = rest
    by_test rest false (p ∷ ps) e = absurd (omega (arith, e))

-- the item of which one alone is made, that at this place
pub record OrdinalOf {A B : Type 0} (passes : A → Bool) (parts : A → List B) (xs : List A) (n : ℕ) (b : B) : Type 0 where
  pub place : ℕ
  pub item : A
  pub at : slice_get xs place ≡ Some item
  pub own : parts item ≡ b ∷ []
  pub is : ordinal passes xs place ≡ n

-- one item more in front, which passes
later-true : {A B : Type 0} (passes : A → Bool) (parts : A → List B) (y : A) (ys : List A) (n : ℕ) (b : B) →
    passes y ≡ true → OrdinalOf passes parts ys n b → OrdinalOf passes parts (y ∷ ys) (suc n) b
later-true passes parts y ys n b e r = record {
  place = suc r.place;
  item = r.item;
  at = r.at;
  own = r.own;
  is = ap (λ t. length (if t then y ∷ filter passes (take r.place ys) else filter passes (take r.place ys))) e
      ∙ ap (λ m. suc m) r.is;
}

-- one item more in front, which does not pass
later-false : {A B : Type 0} (passes : A → Bool) (parts : A → List B) (y : A) (ys : List A) (n : ℕ) (b : B) →
    passes y ≡ false → OrdinalOf passes parts ys n b → OrdinalOf passes parts (y ∷ ys) n b
later-false passes parts y ys n b e r = record {
  place = suc r.place;
  item = r.item;
  at = r.at;
  own = r.own;
  is = ap (λ t. length (if t then y ∷ filter passes (take r.place ys) else filter passes (take r.place ys))) e ∙ r.is;
}

-- what stands at a place is made of one item, of which it is the ordinal
pub each-place : {A B : Type 0} (passes : A → Bool) (parts : A → List B) → IsSingle passes parts →
    (xs : List A) (n : ℕ) (b : B) → slice_get (each parts xs) n ≡ Some b → OrdinalOf passes parts xs n b
each-place passes parts single [] n b at = absurd (cc at)
each-place passes parts single (y ∷ ys) n b at =
    by_test (each-place passes parts single ys) (passes y) refl (parts y) refl (single y) n at
  where
    by_test : ((n : ℕ) (b : _) → slice_get (each parts ys) n ≡ Some b → OrdinalOf passes parts ys n b) →
        (t : Bool) → passes y ≡ t → (ps : List _) → parts y ≡ ps → length ps ≡ (if t then 1 else 0) →
        (n : ℕ) → slice_get (ps ++ each parts ys) n ≡ Some b → OrdinalOf passes parts (y ∷ ys) n b
    by_test rest true e [] own l n at = absurd (omega (arith, l))
    by_test rest true e (p ∷ []) own l zero at =
        record { place = 0; item = y; at = refl; own = own ∙ ap (λ q. q ∷ []) (same_Some p b at); is = refl }
    by_test rest true e (p ∷ []) own l (suc n) at = later-true passes parts y ys n b e (rest n b at)
    by_test rest true e (p ∷ q ∷ ps) own l n at = absurd (omega (arith, l))
    by_test rest false e [] own l n at = later-false passes parts y ys n b e (rest n b at)
    by_test rest false e (p ∷ ps) own l n at = absurd (omega (arith, l))

-- two items that pass and have one ordinal stand at one place
pub ordinal-same : {A : Type 0} (passes : A → Bool) (xs : List A) (j k : ℕ) (x y : A) →
    slice_get xs j ≡ Some x → passes x ≡ true → slice_get xs k ≡ Some y → passes y ≡ true →
    ordinal passes xs j ≡ ordinal passes xs k → j ≡ k
ordinal-same passes [] j k x y at px at' py e = absurd (cc at)
ordinal-same passes (z ∷ zs) zero zero x y at px at' py e = refl
ordinal-same passes (z ∷ zs) zero (suc k) x y at px at' py e =
    absurd (by_test (passes z) (ap passes (same_Some z x at) ∙ px) e)
  where
    by_test : (t : Bool) → t ≡ true →
        0 ≡ length (if t then z ∷ filter passes (take k zs) else filter passes (take k zs)) → ⊥
    by_test true p e = omega (arith, e)
    by_test false p e = cc p
ordinal-same passes (z ∷ zs) (suc j) zero x y at px at' py e =
    absurd (by_test (passes z) (ap passes (same_Some z y at') ∙ py) e)
  where
    by_test : (t : Bool) → t ≡ true →
        length (if t then z ∷ filter passes (take j zs) else filter passes (take j zs)) ≡ 0 → ⊥
    by_test true p e = omega (arith, e)
    by_test false p e = cc p
ordinal-same passes (z ∷ zs) (suc j) (suc k) x y at px at' py e =
    ap (λ n. suc n) (ordinal-same passes zs j k x y at px at' py (by_test (passes z) e))
  where
    by_test : (t : Bool) → length (if t then z ∷ filter passes (take j zs) else filter passes (take j zs))
        ≡ length (if t then z ∷ filter passes (take k zs) else filter passes (take k zs)) →
        ordinal passes zs j ≡ ordinal passes zs k
    by_test true e = omega (arith, e)
    by_test false e = e

-- the ordinal of an item that passes is below the number of those
pub ordinal_within : {A : Type 0} (passes : A → Bool) (xs : List A) (k : ℕ) (x : A) →
    slice_get xs k ≡ Some x → passes x ≡ true → ordinal passes xs k < length (filter passes xs)
ordinal_within passes [] k x at p = absurd (cc at)
ordinal_within passes (y ∷ ys) zero x at p =
    subst (λ t. 0 < length (if t then y ∷ filter passes ys else filter passes ys))
    (sym (ap passes (same_Some y x at) ∙ p)) (omega arith)
ordinal_within passes (y ∷ ys) (suc k) x at p = by_test (ordinal_within passes ys k x at p) (passes y)
  where
    by_test : ordinal passes ys k < length (filter passes ys) → (t : Bool) →
        length (if t then y ∷ filter passes (take k ys) else filter passes (take k ys))
        < length (if t then y ∷ filter passes ys else filter passes ys)
    by_test rest true = omega (arith, rest)
    by_test rest false = rest
