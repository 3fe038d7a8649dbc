-- Texts that begin with a letter or a digit.
use Rattle.std.proofs.Common.{◌≡◌, ℕ, ◌-◌, true, List, [], ◌∷◌, length, take, drop, get_or, refl}
use Rattle.std.specs.List.{list_all}
use Rattle.std.proofs.lemmas.List.{take_rest}
use Rattle.tdl_base.specs.Letters.{is_digit, is_letter, is_name_byte, is_word}
use Rattle.tdl_scan.specs.Lexemes.{is_number}

-- a word that begins with a letter is one by its other bytes
pub word_after : (t : List ℕ) → is_letter (get_or t 0 0) ≡ true →
    list_all is_name_byte (take (length t - 1) (drop 1 t)) ≡ is_word t
word_after [] letter = absurd cc
word_after (c ∷ cs) letter = rw (letter, take_rest (c ∷ cs) 1) refl

-- a number that begins with a digit is one by its other bytes
pub number_after : (t : List ℕ) → is_digit (get_or t 0 0) ≡ true →
    list_all is_digit (take (length t - 1) (drop 1 t)) ≡ is_number t
number_after [] digit = absurd cc
number_after (c ∷ cs) digit = rw (digit, take_rest (c ∷ cs) 1) refl
