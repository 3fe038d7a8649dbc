-- How far lines and columns go.
use Rattle.std.proofs.Common.{ℕ, ◌+◌, ◌≤◌, ◌==◌, List, length, reverse, arith}
use Rattle.std.proofs.lemmas.List.{length-reverse}
use Rattle.std.proofs.lemmas.List.Sums.{prefix_len-le-length, count_by-le-length}
use Rattle.tdl_scan.specs.Pieces.{is_no_end}
use Rattle.tdl_scan.specs.Places.{line_after, col_after}

-- the line is at most one more than the bytes
pub line_most : (xs : List ℕ) → line_after xs ≤ length xs + 1
line_most xs = omega (arith, count_by-le-length (λ d. d == 10) xs)

-- and so is the column
pub col_most : (xs : List ℕ) → col_after xs ≤ length xs + 1
col_most xs = omega (arith, prefix_len-le-length is_no_end (reverse xs), length-reverse xs)
