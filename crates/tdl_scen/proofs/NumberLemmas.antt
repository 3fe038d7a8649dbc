-- What the reading of numbers needs of powers of ten.
use Rattle.std.proofs.Common.{ℕ, ◌<◌, ◌≤◌, ◌^◌, arith}
use Rattle.std.proofs.Math.Nat.{pow-le-pow_right}

-- a number of fewer than 19 digits takes one more in 64 bits
pub room : (value at count : ℕ) → value < 10 ^ at → at < count → count ≤ 19 → value < 10 ^ 18
room value at count below within few =
    let at_most : at ≤ 18 = omega arith in
    let positive : 0 < 10 = omega arith in
    omega (arith, pow-le-pow_right positive at_most)
