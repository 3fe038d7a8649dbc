-- Counts that are cut off at a number, and add up as if they were not.
use Rattle.std.proofs.Common.{◌≡◌, ℕ, zero, suc, ◌≤◌, ◌+◌, ◌*◌, min, inl, inr, sym, ap, ◌∙◌, arith}
use Rattle.std.proofs.lemmas.Bool.{cases_lt}
use Rattle.std.proofs.lemmas.Nat.{mul-le}
use Rattle.std.proofs.Math.Nat.{zero-mul}

-- one more
pub capped-one : (t n : ℕ) → min (1 + min t n) n ≡ min (1 + t + 0) n
capped-one t n = omega arith

-- two and one more
pub capped-two : (a b n : ℕ) → min (1 + min a n + min b n) n ≡ min (1 + a + b) n
capped-two a b n = omega arith

-- a number is cut off at what it is not below
cut : (x n : ℕ) → n ≤ x → min x n ≡ n
cut x n le = omega (arith, le)

-- once is no more than once and k times
once : (k t n : ℕ) → n ≤ t → n ≤ suc k * t
once k t n le = omega (arith, mul-le 1 n (suc k) t (omega arith) le)

-- so many times
capped-times : (k t n : ℕ) → min (k * min t n) n ≡ min (k * t) n
capped-times zero t n = ap (λ (x : ℕ). min x n) (zero-mul (min t n) ∙ sym (zero-mul t))
capped-times (suc k) t n =
    elim (cases_lt t n) [
      | inl small ↦
          let e : min t n ≡ t = omega (arith, small) in
          ap (λ (x : ℕ). min (suc k * x) n) e
      | inr great ↦
          let e : min t n ≡ n = omega (arith, great) in
          ap (λ (x : ℕ). min (suc k * x) n) e
          ∙ cut (suc k * n) n (once k n n (omega arith)) ∙ sym (cut (suc k * t) n (once k t n great))
    ]

-- so many times, cut off before too, and one more
pub capped-turns : (k t n m : ℕ) → n ≤ m → min (1 + min (min (k * min t n) m) n) n ≡ min (1 + k * t) n
capped-turns k t n m below =
    let less : min (min (k * min t n) m) n ≡ min (k * min t n) n = omega (arith, below) in
    let one : min (1 + min (k * t) n) n ≡ min (1 + k * t) n = omega arith in
    ap (λ (x : ℕ). min (1 + x) n) (less ∙ capped-times k t n) ∙ one
