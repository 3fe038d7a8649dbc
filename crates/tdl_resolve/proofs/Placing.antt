-- Lists that are made item by item, by place.
use Rattle.std.proofs.Common.{◌≡◌, ℕ, zero, suc, ◌<◌, ◌≤◌, List, [], ◌∷◌, ◌++◌, map, take, Some, None, Bool, true, false, length, filter, refl, ap, sym, arith}
use Rattle.std.specs.Prelude.{slice_get, if◌then◌else◌}
use Rattle.std.proofs.lemmas.Option.{same_Some}

-- where no item stands the list is over
pub none_past : {A : Type 0} (n : ℕ) (xs : List A) → slice_get xs n ≡ None → length xs ≤ n
none_past n [] e = omega arith
none_past zero (x ∷ xs) e = absurd (cc e)
none_past (suc n) (x ∷ xs) e =
    let rest : length xs ≤ n = none_past n xs e in omega (arith, rest)

-- one item more at the end of those that are noted
pub noted_more : {A : Type 0} (xs : List A) (f : ℕ → A) (i : ℕ) → length xs ≡ i →
    ((k : ℕ) → k < i → slice_get xs k ≡ Some (f k)) → (k : ℕ) → k < suc i → slice_get (xs ++ f i ∷ []) k ≡ Some (f k)
noted_more [] f zero e at zero lt = refl
noted_more [] f zero e at (suc k) lt = absurd (omega (arith, lt))
noted_more [] f (suc i) e at k lt = absurd (omega (arith, e))
noted_more (x ∷ xs) f zero e at k lt = absurd (omega (arith, e))
noted_more (x ∷ xs) f (suc i) e at zero lt = at 0 (omega arith)
noted_more (x ∷ xs) f (suc i) e at (suc k) lt =
    noted_more xs (λ n. f (suc n)) i (omega (arith, e)) (λ n below. at (suc n) (omega (arith, below))) k (omega (arith, lt))

-- one item more of those that f gives
pub map_more : {A B : Type 0} (f : A → B) (xs : List A) (k : ℕ) (x : A) → slice_get xs k ≡ Some x →
    map f (take k xs) ++ f x ∷ [] ≡ map f (take (suc k) xs)
map_more f [] k x at = absurd (cc at)
map_more f (y ∷ ys) zero x at = ap (λ z. f z ∷ []) (sym (same_Some y x at))
map_more f (y ∷ ys) (suc k) x at = ap (λ zs. f y ∷ zs) (map_more f ys k x at)

-- as many pass among the first as among all, or fewer
pub first_fewer : {A : Type 0} (passes : A → Bool) (xs : List A) (k : ℕ) →
    length (filter passes (take k xs)) ≤ length (filter passes xs)
first_fewer passes [] zero = omega arith
first_fewer passes [] (suc k) = omega arith
first_fewer passes (x ∷ xs) zero = omega arith
first_fewer passes (x ∷ xs) (suc k) = by_test (first_fewer passes xs k) (passes x)
  where
    by_test : length (filter passes (take k xs)) ≤ length (filter passes xs) → (t : Bool) → length (if t then x ∷ filter passes (take k xs) else filter passes (take k xs))
        ≤ length (if t then x ∷ filter passes xs else filter passes xs)
    by_test rest true = omega (arith, rest)
    by_test rest false = rest
