-- The test of two numbers, of one number with itself.
use Rattle.std.proofs.Common.{◌≡◌, ℕ, true, ◌==◌, refl}
use Rattle.std.proofs.lemmas.Bool.{eq-eqb}

-- a number passes the test for itself
pub eq_self : (n : ℕ) → (n == n) ≡ true
eq_self n = eq-eqb n n refl
