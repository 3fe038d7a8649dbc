-- Things that were found by their names.
use Rattle.std.proofs.Common.{◌≡◌, ℕ, suc, ◌+◌, Bool, true, false, nat_le, List, [], ◌∷◌, Some, None, find, slice_get, refl, sym, ap, ◌∙◌, arith}
use Rattle.tdl_scenario.specs.Looked.{first_from}

-- a thing that is found stands at a place
pub record IsAt {A : Type 0} (xs : List A) (x : A) : Type 0 where
  pub place : ℕ
  pub is : slice_get xs place ≡ Some x

-- the place of a thing that passes
pub find_at : {A : Type 0} (p : A → Bool) (xs : List A) (x : A) → find p xs ≡ Some x → IsAt xs x
find_at p [] x e = absurd cc
find_at p (y ∷ ys) x e = by_test (p y) refl (find_at p ys x)
  where
    by_test : (b : Bool) → p y ≡ b → (find p ys ≡ Some x → IsAt ys x) → IsAt (y ∷ ys) x
    by_test true t more = record { place = 0; is = sym (rw t refl) ∙ e }
    by_test false t more =
        let rest = more (sym (rw t refl) ∙ e) in
        record { place = suc rest.place; is = rest.is }

-- what is found at a number, and f of it
pub record IsFound {A B : Type 0} (f : A → B) (k : ℕ) (xs : List A) (found : ℕ × B) : Type 0 where
  pub thing : A
  pub place : ℕ
  pub number : found.0 ≡ k + place
  pub is : slice_get xs place ≡ Some thing
  pub gives : found.1 ≡ f thing

-- the first thing that passes
pub first_at : {A B : Type 0} (p : A → Bool) (f : A → B) (xs : List A) (k : ℕ) (found : ℕ × B) →
    first_from p f k xs ≡ Some found → IsFound f k xs found
first_at p f [] k found e = absurd cc
first_at p f (x ∷ xs) k found e = by_test (p x) refl (nat_le k 65535) refl (first_at p f xs (k + 1) found)
  where
    by_test : (b : Bool) → p x ≡ b → (c : Bool) → nat_le k 65535 ≡ c →
        (first_from p f (k + 1) xs ≡ Some found → IsFound f (k + 1) xs found) → IsFound f k (x ∷ xs) found
    by_test true t true fits more =
        let same : Some (k, f x) ≡ Some found = sym (rw (t, fits) refl) ∙ e in
        let pair : (k, f x) ≡ found = cc in
        record {
          thing = x;
          place = 0;
          number = let n : found.0 ≡ k = sym (ap (λ (q : ℕ × _). q.0) pair) in omega (arith, n);
          is = refl;
          gives = sym (ap (λ (q : ℕ × _). q.1) pair);
        }
    by_test true t false fits more = let none : None ≡ Some found = sym (rw (t, fits) refl) ∙ e in absurd cc
    by_test false t c fits more =
        let rest = more (sym (rw t refl) ∙ e) in
        record {
          thing = rest.thing;
          place = suc rest.place;
          number = let n : found.0 ≡ k + 1 + rest.place = rest.number in omega (arith, n);
          is = rest.is;
          gives = rest.gives;
        }
