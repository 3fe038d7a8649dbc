-- What is among lists that are mapped, numbered and joined, and the first item that passes a test.
use Rattle.std.proofs.Common.{◌≡◌, ℕ, zero, suc, ◌+◌, List, [], ◌∷◌, map, Bool, true, false, ◌||◌, Some, None, refl, ap, ap₂, sym, ◌∙◌, arith}
use Rattle.std.specs.Prelude.{slice_get, unwrap_or, if◌then◌else◌, find, flat_map}
use Rattle.std.specs.List.{list_any}
use Rattle.std.proofs.lemmas.List.Folds.{list_any-append}
use Rattle.tdl_base.specs.Lists.{joined, numbered}
use Rattle.std.proofs.lemmas.Bool.{or_left, or_right}

-- what is made of an item that passes the one test passes the other
pub any-map : {A B : Type 0} (q : A → Bool) (p : B → Bool) (f : A → B) → ((a : A) → q a ≡ true → p (f a) ≡ true) →
    (xs : List A) → list_any q xs ≡ true → list_any p (map f xs) ≡ true
any-map q p f passes [] h = absurd (cc h)
any-map q p f passes (x ∷ xs) h = by_test (any-map q p f passes xs) (q x) refl
  where
    by_test : (list_any q xs ≡ true → list_any p (map f xs) ≡ true) → (t : Bool) → q x ≡ t →
        (p (f x) || list_any p (map f xs)) ≡ true
    by_test rest true e = or_left (p (f x)) _ (passes x e)
    by_test rest false e = or_right (p (f x)) _ (rest (sym (ap (λ t. t || list_any q xs) e) ∙ h))

-- what is made of the item of a number is among what is made of all
pub any-numbered : {A B : Type 0} (p : B → Bool) (f : ℕ → A → B) (n k : ℕ) (xs : List A) (x : A) →
    slice_get xs k ≡ Some x → p (f (n + k) x) ≡ true → list_any p (numbered n f xs) ≡ true
any-numbered p f n k [] x at h = absurd (cc at)
any-numbered p f n zero (y ∷ ys) x at h =
    let first : n + 0 ≡ n = omega arith in
    or_left (p (f n y)) _ (ap₂ (λ i z. p (f i z)) (sym first) (ap (λ o. unwrap_or o y) at) ∙ h)
any-numbered p f n (suc k) (y ∷ ys) x at h =
    let next : suc n + k ≡ n + suc k = omega arith in
    or_right (p (f n y)) _ (any-numbered p f (suc n) k ys x at (ap (λ i. p (f i x)) next ∙ h))

-- what is among the list made of the item of a number is among the joined lists
pub any-joined : {A B : Type 0} (p : B → Bool) (f : ℕ → A → List B) (n k : ℕ) (xs : List A) (x : A) →
    slice_get xs k ≡ Some x → list_any p (f (n + k) x) ≡ true → list_any p (joined (numbered n f xs)) ≡ true
any-joined p f n k [] x at h = absurd (cc at)
any-joined p f n zero (y ∷ ys) x at h =
    let first : n + 0 ≡ n = omega arith in
    list_any-append p (f n y) (joined (numbered (suc n) f ys))
    ∙ or_left (list_any p (f n y)) _
    (ap₂ (λ i z. list_any p (f i z)) (sym first) (ap (λ o. unwrap_or o y) at) ∙ h)
any-joined p f n (suc k) (y ∷ ys) x at h =
    let next : suc n + k ≡ n + suc k = omega arith in
    list_any-append p (f n y) (joined (numbered (suc n) f ys))
    ∙ or_right (list_any p (f n y)) _ (any-joined p f (suc n) k ys x at (ap (λ i. list_any p (f i x)) next ∙ h))

-- what is among the lists of all items that pass is among the joined lists, where some item passes
pub any-flat_map : {A B : Type 0} (q : A → Bool) (p : B → Bool) (f : A → List B) →
    ((a : A) → q a ≡ true → list_any p (f a) ≡ true) → (xs : List A) → list_any q xs ≡ true →
    list_any p (flat_map f xs) ≡ true
any-flat_map q p f passes [] h = absurd (cc h)
any-flat_map q p f passes (x ∷ xs) h =
    list_any-append p (f x) (flat_map f xs) ∙ by_test (any-flat_map q p f passes xs) (q x) refl
  where
    by_test : (list_any q xs ≡ true → list_any p (flat_map f xs) ≡ true) → (t : Bool) → q x ≡ t →
        (list_any p (f x) || list_any p (flat_map f xs)) ≡ true
    by_test rest true e = or_left (list_any p (f x)) _ (passes x e)
    by_test rest false e = or_right (list_any p (f x)) _ (rest (sym (ap (λ t. t || list_any q xs) e) ∙ h))

-- the first item that passes, and where it stands
pub record Found {A : Type 0} (p : A → Bool) (xs : List A) : Type 0 where
  pub item : A
  pub place : ℕ
  pub at : slice_get xs place ≡ Some item
  pub is : find p xs ≡ Some item
  pub passes : p item ≡ true

-- where some item passes, the first one is found
pub any-found : {A : Type 0} (p : A → Bool) (xs : List A) → list_any p xs ≡ true → Found p xs
any-found p [] h = absurd (cc h)
any-found p (x ∷ xs) h = by_test (any-found p xs) (p x) refl
  where
    by_test : (list_any p xs ≡ true → Found p xs) → (t : Bool) → p x ≡ t → Found p (x ∷ xs)
    by_test rest true e = record {
      item = x;
      place = 0;
      at = refl;
      is = ap (λ t. if t then Some x else find p xs) e;
      passes = e;
    }
    by_test rest false e =
        let more = rest (sym (ap (λ t. t || list_any p xs) e) ∙ h) in
        record {
          item = more.item;
          place = suc more.place;
          at = more.at;
          is = ap (λ t. if t then Some x else find p xs) e ∙ more.is;
          passes = more.passes;
        }

-- where no item passes, none is found
pub find-none : {A : Type 0} (p : A → Bool) (xs : List A) → ((n : ℕ) (x : A) → slice_get xs n ≡ Some x → p x ≡ false) →
    find p xs ≡ None
find-none p [] none = refl
find-none p (x ∷ xs) none =
    ap (λ t. if t then Some x else find p xs) (none 0 x refl) ∙ find-none p xs (λ n y at. none (suc n) y at)
