-- A word by its first byte and the others.
use Rattle.std.proofs.Common.{◌≡◌, ℕ, ◌-◌, true, List, [], ◌∷◌, length, take, drop, get_or, refl}
use Rattle.std.specs.List.{list_all}
use Rattle.std.proofs.lemmas.List.{take_rest}
use Rattle.tdl_base.specs.Letters.{is_letter, is_name_byte, is_word}

-- a word that begins with a letter is one by its other bytes
pub word_after : (t : List ℕ) → is_letter (get_or t 0 0) ≡ true →
    list_all is_name_byte (take (length t - 1) (drop 1 t)) ≡ is_word t
word_after [] letter = absurd cc
word_after (c ∷ cs) letter = rw (letter, take_rest (c ∷ cs) 1) refl
