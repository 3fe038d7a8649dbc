-- What a line file says: its lines that are not skipped, with their numbers and their words.
use Rattle.std.specs.Prelude.{ℕ, ◌+◌, List, [], ◌∷◌, length, map, if◌then◌else◌}
use Rattle.tdl_scen.specs.Lines.{lines_of, words_of, is_skipped, is_text}
use Rattle.tdl_lines.specs.declared.said.Said.{Said}

-- a line of a file: its number, from 1, and its bytes
pub record NumberedLine : Type 0 where
  pub number : ℕ
  pub text : List ℕ

-- those of these lines that are not skipped; the first line has the number n
abbrev pub said_from : ℕ → List (List ℕ) → List NumberedLine
said_from n [] = []
said_from n (line ∷ lines) =
    if is_skipped (words_of line) then said_from (n + 1) lines
    else record { number = n; text = line } ∷ said_from (n + 1) lines

-- the lines of a file that are not skipped
abbrev pub said_lines : List ℕ → List NumberedLine
said_lines bytes = said_from 1 (lines_of bytes)

-- the words of a line; none where a byte is no text, so that the line has no form
abbrev pub words_said : List ℕ → List (List ℕ)
words_said line = if is_text line then words_of line else []

-- what the lines of a file say, where f tells what words say
abbrev pub statements : {X : Type 0} → (List (List ℕ) → X) → List ℕ → List (Said X)
statements f bytes =
    map (λ (line : NumberedLine). record { line = line.number; what = f (words_said line.text) }) (said_lines bytes)

-- the line number of a fault that has no line
abbrev pub number_after : List ℕ → ℕ
number_after bytes = length (lines_of bytes) + 1
