-- The pieces that a source is cut into.
use Rattle.std.specs.Prelude.{◌≡◌, ◌⊎◌, ℕ, Bool, false, ◌&&◌, not, ◌==◌, List, [], ◌∷◌, ◌++◌, IsTrue, IsFalse}
use Rattle.std.specs.List.{list_all}
use Rattle.tdl_base.specs.Lists.{joined}
use Rattle.tdl_scan.specs.Lexemes.{is_blank, is_token, is_lexeme}

-- the bytes begin with a blank
abbrev pub opens_blank : List ℕ → Bool
opens_blank [] = false
opens_blank (c ∷ cs) = is_blank c

-- not the line feed
abbrev pub is_no_end : ℕ → Bool
is_no_end c = not (c == 10)

-- the bytes begin with `//`
abbrev pub opens_comment : List ℕ → Bool
opens_comment [] = false
opens_comment (c ∷ []) = false
opens_comment (c ∷ d ∷ rest) = c == 47 && d == 47

-- no bytes, or a line feed first
abbrev pub IsEndOfLine : List ℕ → Type 0
IsEndOfLine [] = Unit {0}
IsEndOfLine (c ∷ rest) = c ≡ 10

-- t is one blank
abbrev pub IsBlank : List ℕ → Type 0
IsBlank [] = ⊥
IsBlank (c ∷ cs) = IsTrue (is_blank c) × (cs ≡ [])

-- t is the comment at the front of `t ++ rest`: from `//` up to the line's end
pub record IsComment (t rest : List ℕ) : Type 0 where
  pub opened : IsTrue (opens_comment t)
  pub one_line : IsTrue (list_all is_no_end t)
  pub ended : IsEndOfLine rest

-- t is a token's text at the front of `t ++ rest`: no longer lexeme begins there
pub record IsFirst (t rest : List ℕ) : Type 0 where
  pub token : IsTrue (is_token t)
  pub longest : (more after : List ℕ) → rest ≡ more ++ after → IsTrue (is_lexeme (t ++ more)) → more ≡ []

-- t is the token at the front of `t ++ rest`: `//` never begins one
pub record IsToken (t rest : List ℕ) : Type 0 where
  pub no_comment : IsFalse (opens_comment (t ++ rest))
  pub first : IsFirst t rest

-- t is the piece at the front of `t ++ rest`: a blank, a comment or a token
abbrev pub IsPiece : List ℕ → List ℕ → Type 0
IsPiece t rest = IsBlank t ⊎ (IsComment t rest ⊎ IsToken t rest)

-- each of the pieces is one in front of all that follows it, `rest` at last
abbrev pub IsCut : List (List ℕ) → List ℕ → Type 0
IsCut [] rest = Unit {0}
IsCut (piece ∷ pieces) rest = IsPiece piece (joined pieces ++ rest) × IsCut pieces rest

-- no piece begins the bytes
abbrev pub IsStuck : List ℕ → Type 0
IsStuck bytes = (t rest : List ℕ) → bytes ≡ t ++ rest → ¬ IsPiece t rest
