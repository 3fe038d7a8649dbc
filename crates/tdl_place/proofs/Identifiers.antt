-- An identifier is text.
use Rattle.std.proofs.Common.{◌≡◌, ◌<◌, ℕ, true, nat_le, List, [], ◌∷◌, length, refl, arith, IsUtf8, IsAscii, Result, Ok, Err, IsOk, MatchResult}
use Rattle.std.specs.List.{list_all}
use Rattle.std.proofs.lemmas.Bool.{and_parts}
use Rattle.std.proofs.lemmas.Bool.Decides.{nat_tests}
use Rattle.std.proofs.lemmas.Str.{IsUtf8-from_ascii}
use Rattle.std.proofs.lemmas.Str.Ascii.{IsAscii-cons}
use Rattle.tdl_base.specs.Letters.{is_letter, is_name_byte, is_word}
use Rattle.tdl_scan.specs.Lexemes.{is_identifier}

-- a letter is ASCII
letter_ascii : (c : ℕ) → is_letter c ≡ true → c < 128
letter_ascii c h = grind (arith, nat_tests)

-- an identifier byte is ASCII
byte_ascii : (c : ℕ) → is_name_byte c ≡ true → c < 128
byte_ascii c h = grind (arith, nat_tests)

-- identifier bytes are ASCII
name_ascii : (bytes : List ℕ) → list_all is_name_byte bytes ≡ true → IsAscii bytes
name_ascii [] h = λ i. omega arith
name_ascii (c ∷ cs) h =
    let parts = and_parts (is_name_byte c) (list_all is_name_byte cs) h in
    IsAscii-cons c cs (byte_ascii c parts.0) (name_ascii cs parts.1)

-- a word is ASCII
word_ascii : (name : List ℕ) → is_word name ≡ true → IsAscii name
word_ascii [] h = λ i. omega arith
word_ascii (c ∷ cs) h =
    let parts = and_parts (is_letter c) (list_all is_name_byte cs) h in
    IsAscii-cons c cs (letter_ascii c parts.0) (name_ascii cs parts.1)

-- an identifier is text
pub identifier_utf8 : (name : List ℕ) → is_identifier name ≡ true → IsUtf8 name
identifier_utf8 name h =
    IsUtf8-from_ascii name (word_ascii name (and_parts (is_word name) (nat_le (length name) 64) h).0)

-- decoding text succeeds
pub decoded : {T E : Type 0} (P : T → Type 0) (Q : E → Type 0) (r : Result T E) (t : List ℕ) → IsUtf8 t →
    MatchResult r P (λ e. ¬ (IsUtf8 t) × Q e) → IsOk r
decoded P Q (Ok x) t text h = refl
decoded P Q (Err e) t text h = absurd (h.0 text)
