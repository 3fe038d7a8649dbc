-- The words of a source, as the grammar sees its tokens.
use Rattle.std.specs.Prelude.{ℕ, List, map}
use Rattle.tdl_scan.specs.declared.token.Token.{Token}
use Rattle.tdl_scan.specs.Tokens.{text_of}
use Rattle.tdl_tree.specs.declared.words.Word.{Word}
use Rattle.tdl_tree.specs.Kinds.{kind_of}

-- the word that a token is
abbrev pub word_of : List ℕ → Token → Word
word_of source token = record {
  kind = kind_of (text_of source token);
  text = text_of source token;
  line = token.line;
  col = token.col;
}

-- the words that the tokens are
abbrev pub words_of : List ℕ → List Token → List Word
words_of source = map (word_of source)
