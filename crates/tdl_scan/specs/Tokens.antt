-- The tokens of a source, and its fault.
use Rattle.std.specs.Prelude.{◌≡◌, ◌≢◌, ℕ, ◌+◌, ◌<◌, ◌≤◌, List, [], ◌∷◌, ◌++◌, length, Option, Some, None}
use Rattle.std.specs.List.{slice_range}
use Rattle.tdl_base.specs.Lists.{joined}
use Rattle.tdl_scan.specs.declared.place.SourcePlace.{SourcePlace}
use Rattle.tdl_scan.specs.declared.token.Token.{Token}
use Rattle.tdl_scan.specs.declared.token.TokenKind.{TokenKind}
use Rattle.tdl_scan.specs.Lexemes.{kind_of, IsOfKind}
use Rattle.tdl_scan.specs.Pieces.{IsCut, IsStuck}
use Rattle.tdl_scan.specs.Places.{place_after}

-- the token of this kind and of n bytes that begins at byte `from`, at this place
abbrev pub token_at : SourcePlace → ℕ → ℕ → TokenKind → Token
token_at place from n kind = record { kind = kind; line = place.line; col = place.col; from = from; to = from + n }

-- the token of n bytes that stands at byte `from`, at this place, where it has a kind
abbrev pub token_list : SourcePlace → ℕ → ℕ → Option TokenKind → List Token
token_list place from n None = []
token_list place from n (Some kind) = token_at place from n kind ∷ []

-- the tokens among the pieces that stand after these bytes
abbrev pub tokens_after : List ℕ → List (List ℕ) → List Token
tokens_after front [] = []
tokens_after front (piece ∷ pieces) =
    token_list (place_after front) (length front) (length piece) (kind_of piece) ++ tokens_after (front ++ piece) pieces

-- the source is cut into pieces, and the tokens among these, with their places, are `tokens`
pub record IsTokensOf (tokens : List Token) (source : List ℕ) : Type 0 where
  pub pieces : List (List ℕ)
  pub whole : source ≡ joined pieces
  pub cut : IsCut pieces []
  pub among : tokens ≡ tokens_after [] pieces

-- a front of the source is cut into pieces, none begins what is left of it, and this is the place after the front
pub record IsTokenFault (source : List ℕ) (line col : ℕ) : Type 0 where
  pub pieces : List (List ℕ)
  pub left : List ℕ
  pub whole : source ≡ joined pieces ++ left
  pub cut : IsCut pieces left
  pub some_left : left ≢ []
  pub stuck : IsStuck left
  pub place : record { line = line; col = col } ≡ place_after (joined pieces)

-- the text of a token
abbrev pub text_of : List ℕ → Token → List ℕ
text_of source token = slice_range source token.from token.to

-- the token's text stands in the source, is not empty and is of the token's kind
pub record IsInSource (source : List ℕ) (token : Token) : Type 0 where
  pub some : token.from < token.to
  pub within : token.to ≤ length source
  pub kind : IsOfKind token.kind (text_of source token)

-- the tokens stand one after the other, from byte n on
abbrev pub IsInOrder : ℕ → List Token → Type 0
IsInOrder n [] = Unit {0}
IsInOrder n (token ∷ tokens) = (n ≤ token.from) × IsInOrder token.to tokens
