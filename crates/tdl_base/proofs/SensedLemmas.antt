-- What is read of sensed numbers after they are made and after one of them is set.
use Rattle.std.proofs.Common.{◌≡◌, ◌≢◌, ℕ, zero, suc, ◌<◌, List, [], ◌∷◌, length, get_or, set, replicate, ℤ, pos, refl, sym, ap, ◌∙◌, inl, inr, ⊎_elim, arith, get_or-set_same, get_or-set_other, length-set}
use Rattle.std.specs.Prelude.{◌⊎◌}
use Rattle.std.proofs.Math.ListN.{get_or-map}
use Rattle.std.proofs.lemmas.List.{length-replicate}
use Rattle.tdl_base.specs.Sensed.{all_zero, numbers_of, HasSensor, sensed_at, with_sensed}

-- at first a module has so many zeros
numbers_of-all_zero : (counts : List ℕ) (m : ℕ) → numbers_of (all_zero counts) m ≡ replicate (get_or counts m 0) (pos 0)
numbers_of-all_zero counts m = get_or-map (λ n. replicate n (pos 0)) counts m 0

-- a list of zeros reads 0 at each place
get_or-zeros : (n i : ℕ) → get_or (replicate n (pos 0)) i (pos 0) ≡ pos 0
get_or-zeros zero i = refl
get_or-zeros (suc n) zero = refl
get_or-zeros (suc n) (suc i) = get_or-zeros n i

-- at first each sensor reads 0
pub sensed_at-all_zero : (counts : List ℕ) (m i : ℕ) → sensed_at (all_zero counts) m i ≡ pos 0
sensed_at-all_zero counts m i =
    ap (λ (xs : List ℤ). get_or xs i (pos 0)) (numbers_of-all_zero counts m) ∙ get_or-zeros (get_or counts m 0) i

-- at first a module has as many sensors as `counts` says
pub length-all_zero : (counts : List ℕ) (m : ℕ) → length (numbers_of (all_zero counts) m) ≡ get_or counts m 0
length-all_zero counts m = ap length (numbers_of-all_zero counts m) ∙ length-replicate (get_or counts m 0) (pos 0)

-- a module with a sensor is one of the list
within : (sensed : List (List ℤ)) (m i : ℕ) → HasSensor sensed m i → m < length sensed
within [] m i h = absurd (omega arith)
within (x ∷ xs) zero i h = omega arith
within (x ∷ xs) (suc m) i h = omega (arith, within xs m i h)

-- the numbers of a module after a change of one module's: the new ones, or as before
numbers_of-change : (sensed : List (List ℤ)) (m n : ℕ) (x : List ℤ) →
    ((n ≡ m) × (numbers_of (set sensed m x) n ≡ x)) ⊎ (numbers_of (set sensed m x) n ≡ numbers_of sensed n)
numbers_of-change [] m n x = inr refl
numbers_of-change (y ∷ ys) zero zero x = inl (refl, refl)
numbers_of-change (y ∷ ys) zero (suc n) x = inr refl
numbers_of-change (y ∷ ys) (suc m) zero x = inr refl
numbers_of-change (y ∷ ys) (suc m) (suc n) x =
    ⊎_elim (λ p. inl (ap suc p.0, p.1)) (λ e. inr e) (numbers_of-change ys m n x)

-- a sensor that is set reads what it was set to
pub sensed_at-with_sensed : (sensed : List (List ℤ)) (m i : ℕ) (v : ℤ) → HasSensor sensed m i →
    sensed_at (with_sensed sensed m i v) m i ≡ v
sensed_at-with_sensed sensed m i v h =
    ap (λ (xs : List ℤ). get_or xs i (pos 0))
    (get_or-set_same sensed m (set (numbers_of sensed m) i v) [] (within sensed m i h))
    ∙ get_or-set_same (numbers_of sensed m) i v (pos 0) h

-- every other sensor reads what it read before
pub sensed_at-with_sensed_other : (sensed : List (List ℤ)) (m i n j : ℕ) (v : ℤ) → (n ≢ m) ⊎ (j ≢ i) →
    sensed_at (with_sensed sensed m i v) n j ≡ sensed_at sensed n j
sensed_at-with_sensed_other sensed m i n j v (inl other) =
    ap (λ (xs : List ℤ). get_or xs j (pos 0)) (get_or-set_other sensed m n (set (numbers_of sensed m) i v) [] other)
sensed_at-with_sensed_other sensed m i n j v (inr other) =
    ⊎_elim
    (λ p. ap (λ (xs : List ℤ). get_or xs j (pos 0)) p.1 ∙ get_or-set_other (numbers_of sensed m) i j v (pos 0) other
    ∙ ap (λ k. sensed_at sensed k j) (sym p.0))
    (λ e. ap (λ (xs : List ℤ). get_or xs j (pos 0)) e)
    (numbers_of-change sensed m n (set (numbers_of sensed m) i v))

-- a module has as many sensors as before
pub length-with_sensed : (sensed : List (List ℤ)) (m i n : ℕ) (v : ℤ) →
    length (numbers_of (with_sensed sensed m i v) n) ≡ length (numbers_of sensed n)
length-with_sensed sensed m i n v =
    ⊎_elim
    (λ p. ap length p.1 ∙ length-set (numbers_of sensed m) i v ∙ ap (λ k. length (numbers_of sensed k)) (sym p.0))
    (λ e. ap length e)
    (numbers_of-change sensed m n (set (numbers_of sensed m) i v))
