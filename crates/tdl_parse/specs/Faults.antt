-- Where the fault of a source's tokens is.
use Rattle.std.specs.Prelude.{◌≡◌, ℕ, List, [], ◌∷◌}
use Rattle.tdl_scan.specs.declared.place.SourcePlace.{SourcePlace}
use Rattle.tdl_scan.specs.declared.token.Token.{Token}
use Rattle.tdl_scan.specs.Places.{end_place}
use Rattle.tdl_tree.specs.declared.words.Word.{Word}
use Rattle.tdl_tree.specs.Faults.{IsSyntaxFault}
use Rattle.tdl_parse.specs.declared.fail.SyntaxError.{SyntaxError}
use Rattle.tdl_parse.specs.declared.fail.SyntaxError.TheVariants.{BadSyntax}
use Rattle.tdl_parse.specs.Words.{words_of}

-- the place of the first of the words, or the end of the source where there is none
abbrev pub place_of : List ℕ → List Word → SourcePlace
place_of source [] = end_place source
place_of source (word ∷ more) = record { line = word.line; col = word.col }

-- the first token out of place stands at this line and column; or the tokens end too early, and the source ends there
pub record IsFaultAt (source : List ℕ) (tokens : List Token) (line col : ℕ) : Type 0 where
  pub rest : List Word
  pub fault : IsSyntaxFault (words_of source tokens) rest
  pub place : record { line = line; col = col } ≡ place_of source rest

-- the error that tells a place
abbrev pub syntax_at : SourcePlace → SyntaxError
syntax_at place = BadSyntax place.line place.col
