-- The texts that tokens have.
use Rattle.std.specs.Prelude.{ℕ, Bool, false, ◌&&◌, ◌||◌, nat_le, ◌==◌, List, [], ◌∷◌, length, IsTrue, codes, bytes_eq, Option, Some, None, if◌then◌else◌}
use Rattle.std.specs.List.{list_all, list_any}
use Rattle.tdl_base.specs.Letters.{is_digit, is_word}
use Rattle.tdl_scan.specs.declared.token.TokenKind.{TokenKind}
use Rattle.tdl_scan.specs.declared.token.TokenKind.TheVariants.{Id, Number, Sign}

-- a blank: a space, a tab, a carriage return or a line feed
abbrev pub is_blank : ℕ → Bool
is_blank c = c == 32 || c == 9 || c == 13 || c == 10

-- an identifier: a word of at most 64 bytes
abbrev pub is_identifier : List ℕ → Bool
is_identifier t = is_word t && nat_le (length t) 64

-- a number: one digit or more
abbrev pub is_number : List ℕ → Bool
is_number [] = false
is_number (c ∷ cs) = is_digit c && list_all is_digit cs

-- the signs, those of one byte and those of two
abbrev pub signs : List (List ℕ)
signs =
    codes "{" ∷ codes "}" ∷ codes "(" ∷ codes ")" ∷ codes "[" ∷ codes "]" ∷ codes ";" ∷ codes "," ∷ codes "." ∷
    codes "-" ∷ codes "+" ∷ codes "*" ∷ codes "/" ∷ codes "%" ∷ codes "!" ∷ codes "<" ∷ codes ">" ∷ codes "=" ∷
    codes ":=" ∷ codes "<=" ∷ codes ">=" ∷ codes "==" ∷ codes "!=" ∷ codes "&&" ∷ codes "||" ∷ []

-- t is one of the signs
unfoldable pub is_sign : List ℕ → Bool
is_sign t = list_any (λ sign. bytes_eq sign t) signs

-- a lexeme: a word, a number or a sign
abbrev pub is_lexeme : List ℕ → Bool
is_lexeme t = is_word t || is_number t || is_sign t

-- the text of a token: an identifier, a number or a sign; a word of more than 64 bytes is none
abbrev pub is_token : List ℕ → Bool
is_token t = is_identifier t || is_number t || is_sign t

-- the text is of this kind
abbrev pub IsOfKind : TokenKind → List ℕ → Type 0
IsOfKind Id text = IsTrue (is_identifier text)
IsOfKind Number text = IsTrue (is_number text)
IsOfKind Sign text = IsTrue (is_sign text)

-- the kind of token that has this text, if one has
abbrev pub kind_of : List ℕ → Option TokenKind
kind_of t = if is_identifier t then Some Id else if is_number t then Some Number else if is_sign t then Some Sign else None
