-- Line files: how bytes are cut into lines and words, which lines are skipped, and what a number is.
use Rattle.std.specs.Prelude.{ℕ, ◌+◌, ◌-◌, ◌*◌, Bool, true, ◌==◌, nat_eq, nat_le, ◌&&◌, ◌||◌, if◌then◌else◌, ℤ, pos, neg_ℤ, List, [], ◌∷◌, ◌++◌, length, fold, codes, Option, Some, None, option_map}
use Rattle.std.specs.List.{list_all, starts_with}
use Rattle.std.specs.Char.{is_ascii_digit}

-- a piece before other pieces; an empty piece is none
abbrev pub with_piece : List ℕ → List (List ℕ) → List (List ℕ)
with_piece [] pieces = pieces
with_piece (b ∷ bs) pieces = (b ∷ bs) ∷ pieces

-- what stands before an LF, without the one CR right before that LF
abbrev pub without_cr : List ℕ → List ℕ
without_cr [] = []
without_cr (b ∷ []) = if b == 13 then [] else b ∷ []
without_cr (b ∷ c ∷ cs) = b ∷ without_cr (c ∷ cs)

-- the lines where `front` is what has been read of the first: an LF ends a line, and the last may lack it
abbrev pub lines_from : List ℕ → List ℕ → List (List ℕ)
lines_from front [] = with_piece front []
lines_from front (b ∷ bs) =
    if b == 10 then without_cr front ∷ lines_from [] bs else lines_from (front ++ b ∷ []) bs

-- the lines of a file: a final LF begins no new line
abbrev pub lines_of : List ℕ → List (List ℕ)
lines_of bytes = lines_from [] bytes

-- a space or a tab
abbrev pub is_space_or_tab : ℕ → Bool
is_space_or_tab b = b == 32 || b == 9

-- the words where `front` is what has been read of the first: blanks stand between them
abbrev pub words_from : List ℕ → List ℕ → List (List ℕ)
words_from front [] = with_piece front []
words_from front (b ∷ bs) =
    if is_space_or_tab b then with_piece front (words_from [] bs) else words_from (front ++ b ∷ []) bs

-- the words of a line
abbrev pub words_of : List ℕ → List (List ℕ)
words_of line = words_from [] line

-- a line of these words is skipped: there is none, or the first begins with `#`
abbrev pub is_skipped : List (List ℕ) → Bool
is_skipped [] = true
is_skipped (word ∷ words) = starts_with nat_eq word (codes "#")

-- a tab, or one of the codes from 32 to 126
abbrev pub is_text_byte : ℕ → Bool
is_text_byte b = b == 9 || (nat_le 32 b && nat_le b 126)

-- a line that is not skipped has these bytes alone
abbrev pub is_text : List ℕ → Bool
is_text line = list_all is_text_byte line

-- the number that decimal digits write, the first of them the highest
abbrev pub value_of_digits : List ℕ → ℕ
value_of_digits digits = fold (λ n digit. 10 * n + (digit - 48)) 0 digits

-- one to nineteen decimal digits
abbrev pub is_decimal : List ℕ → Bool
is_decimal word = nat_le 1 (length word) && nat_le (length word) 19 && list_all is_ascii_digit word

-- the number that a word is, if it is one
abbrev pub number_of : List ℕ → Option ℕ
number_of word = if is_decimal word then Some (value_of_digits word) else None

-- the signed number that a word is, if it is one: a number, before which one `-` may stand
abbrev pub signed_of : List ℕ → Option ℤ
signed_of [] = None
signed_of (b ∷ bs) =
    if b == 45 then option_map (λ n. neg_ℤ (pos n)) (number_of bs) else option_map (λ n. pos n) (number_of (b ∷ bs))
