-- The texts of tokens are UTF-8.
use Rattle.std.proofs.Common.{◌≡◌, ℕ, ◌<◌, Bool, true, nat_le, nat_lt, List, [], ◌∷◌, length, IsUtf8, IsAscii, Result, Ok, Err, IsOk, MatchResult, refl, arith}
use Rattle.std.specs.List.{list_all}
use Rattle.std.proofs.lemmas.Bool.{and_parts, and_from}
use Rattle.std.proofs.lemmas.Bool.Decides.{nat_tests}
use Rattle.std.proofs.lemmas.Str.{IsUtf8-from_ascii}
use Rattle.std.proofs.lemmas.Str.Ascii.{IsAscii-cons}
use Rattle.tdl_base.specs.Letters.{is_letter, is_digit, is_name_byte, is_word}
use Rattle.tdl_scan.specs.declared.token.TokenKind.{TokenKind}
use Rattle.tdl_scan.specs.declared.token.TokenKind.TheVariants.{Id, Number, Sign}
use Rattle.tdl_scan.specs.Lexemes.{signs, is_sign, is_number, IsOfKind}
use Rattle.tdl_scan.proofs.Lexemes.{among}

-- a byte of ASCII
abbrev is_ascii : ℕ → Bool
is_ascii c = nat_lt c 128

below : (c : ℕ) → is_ascii c ≡ true → c < 128
below c h = grind (arith, nat_tests)

name_is_ascii : (c : ℕ) → is_name_byte c ≡ true → is_ascii c ≡ true
name_is_ascii c h = grind (arith, nat_tests)

letter_is_ascii : (c : ℕ) → is_letter c ≡ true → is_ascii c ≡ true
letter_is_ascii c h = grind (arith, nat_tests)

digit_is_ascii : (c : ℕ) → is_digit c ≡ true → is_ascii c ≡ true
digit_is_ascii c h = grind (arith, nat_tests)

-- bytes that pass a narrower test pass the wider
all_wider : (p q : ℕ → Bool) → ((c : ℕ) → p c ≡ true → q c ≡ true) → (bytes : List ℕ) →
    list_all p bytes ≡ true → list_all q bytes ≡ true
all_wider p q wider [] h = refl
all_wider p q wider (c ∷ cs) h =
    let parts = and_parts (p c) (list_all p cs) h in
    and_from (q c) (list_all q cs) (wider c parts.0) (all_wider p q wider cs parts.1)

all_ascii : (bytes : List ℕ) → list_all is_ascii bytes ≡ true → IsAscii bytes
all_ascii [] h = λ i. omega arith
all_ascii (c ∷ cs) h =
    let parts = and_parts (is_ascii c) (list_all is_ascii cs) h in
    IsAscii-cons c cs (below c parts.0) (all_ascii cs parts.1)

word_is_ascii : (text : List ℕ) → is_word text ≡ true → list_all is_ascii text ≡ true
word_is_ascii [] h = refl
word_is_ascii (c ∷ cs) h =
    let parts = and_parts (is_letter c) (list_all is_name_byte cs) h in
    and_from (is_ascii c) (list_all is_ascii cs) (letter_is_ascii c parts.0)
    (all_wider is_name_byte is_ascii name_is_ascii cs parts.1)

number_is_ascii : (text : List ℕ) → is_number text ≡ true → list_all is_ascii text ≡ true
number_is_ascii [] h = refl
number_is_ascii (c ∷ cs) h =
    let parts = and_parts (is_digit c) (list_all is_digit cs) h in
    and_from (is_ascii c) (list_all is_ascii cs) (digit_is_ascii c parts.0)
    (all_wider is_digit is_ascii digit_is_ascii cs parts.1)

kind_is_ascii : (kind : TokenKind) (text : List ℕ) → IsOfKind kind text → list_all is_ascii text ≡ true
unfolding is_sign
kind_is_ascii Id text h = word_is_ascii text (and_parts (is_word text) (nat_le (length text) 64) h).0
kind_is_ascii Number text h = number_is_ascii text h
kind_is_ascii Sign text h = among (list_all is_ascii) signs text refl h

-- the text of a token is UTF-8
pub kind_utf8 : (kind : TokenKind) (text : List ℕ) → IsOfKind kind text → IsUtf8 text
kind_utf8 kind text h = IsUtf8-from_ascii text (all_ascii text (kind_is_ascii kind text h))

-- decoding UTF-8 succeeds
pub decoded : {T E : Type 0} (P : T → Type 0) (Q : E → Type 0) (r : Result T E) (text : List ℕ) → IsUtf8 text →
    MatchResult r P (λ e. ¬ (IsUtf8 text) × Q e) → IsOk r
decoded P Q (Ok x) text utf8 h = refl
decoded P Q (Err e) text utf8 h = absurd (h.0 utf8)
