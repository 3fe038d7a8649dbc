-- Worked examples of the lines and words of line files.
use Rattle.std.proofs.Common.{◌≡◌, ℕ, List, [], ◌∷◌, ◌++◌, codes, Some, None, refl}
use Rattle.tdl_lines.specs.SaidLines.{NumberedLine, said_lines, words_said, number_after}
use Rattle.tdl_lines.specs.DottedWords.{parts_of, pair_in, triple_in}

-- a line by its number and its bytes
abbrev line : ℕ → List ℕ → NumberedLine
line n text = record { number = n; text = text }

-- four lines of which a comment after a tab and a blank one are skipped; the last has no LF
abbrev file : List ℕ
file = codes "bus 20 2" ++ 13 ∷ 10 ∷ 9 ∷ codes "# no line" ++ 10 ∷ 32 ∷ 10 ∷ codes "node n1"

-- the lines keep their numbers, and the CR before the LF is gone
pub numbers : said_lines file ≡ line 1 (codes "bus 20 2") ∷ line 4 (codes "node n1") ∷ []
numbers = refl

-- a fault without a line has the number 5
pub after : number_after file ≡ 5
after = refl

-- a final LF begins no line, and an empty file has none
pub final : number_after (codes "bus 20 2" ++ 10 ∷ []) ≡ 2
final = refl

pub empty : number_after [] ≡ 1
empty = refl

-- a line with a byte that is no text has no words
pub no_text : words_said (codes "node n1 " ++ 128 ∷ []) ≡ []
no_text = refl

-- one dot makes a pair, also where a part is empty; two dots make a triple
pub pair : pair_in (parts_of (codes "P.s")) ≡ Some (codes "P", codes "s")
pair = refl

pub empty_parts : pair_in (parts_of (codes ".")) ≡ Some ([], [])
empty_parts = refl

pub no_pair : pair_in (parts_of (codes "P.inc.o")) ≡ None
no_pair = refl

pub triple : triple_in (parts_of (codes "P.inc.o")) ≡ Some (codes "P", codes "inc", codes "o")
triple = refl
