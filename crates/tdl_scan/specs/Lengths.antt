-- The length of what stands at the front of the bytes.
use Rattle.std.specs.Prelude.{◌≡◌, ℕ, ◌≤◌, nat_le, Bool, ◌&&◌, List, ◌++◌, length, take, drop, Option, Some, None}
use Rattle.tdl_scan.specs.Lexemes.{is_sign}
use Rattle.tdl_scan.specs.Pieces.{IsFirst, IsPiece, IsStuck}

-- the length of the longest lexeme at the front of the bytes, if it is a token's text
abbrev pub IsTokenLength : Option ℕ → List ℕ → Type 0
IsTokenLength None bytes = (t rest : List ℕ) → bytes ≡ t ++ rest → ¬ IsFirst t rest
IsTokenLength (Some n) bytes = (n ≤ length bytes) × IsFirst (take n bytes) (drop n bytes)

-- the length of the piece at the front of the bytes, if there is one
abbrev pub IsPieceLength : Option ℕ → List ℕ → Type 0
IsPieceLength None bytes = IsStuck bytes
IsPieceLength (Some n) bytes = (n ≤ length bytes) × IsPiece (take n bytes) (drop n bytes)

-- the first n bytes are there and are a sign
abbrev pub begins_sign : ℕ → List ℕ → Bool
begins_sign n bytes = nat_le n (length bytes) && is_sign (take n bytes)
