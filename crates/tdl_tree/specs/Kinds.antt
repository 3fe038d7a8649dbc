-- What a token is to the grammar.
use Rattle.std.specs.Prelude.{ℕ, Bool, List, [], ◌∷◌, codes, bytes_eq, if◌then◌else◌}
use Rattle.tdl_base.specs.Letters.{is_digit}
use denote.Enum.Bare.{sameb}
use Rattle.tdl_tree.specs.contracts.words.WordKind.{the_type}
use Rattle.tdl_tree.specs.declared.words.Word.{Word}
use Rattle.tdl_tree.specs.declared.words.WordKind.{WordKind}
use Rattle.tdl_tree.specs.declared.words.WordKind.TheVariants as k

-- the word is of the kind
abbrev pub is : WordKind → Word → Bool
is kind word = sameb the_type word.kind kind

-- the reserved words and the signs
abbrev pub table : List (List ℕ × WordKind)
table =
    (codes "module", k.Module) ∷
    (codes "import", k.Import) ∷
    (codes "public", k.Public) ∷
    (codes "const", k.Const) ∷
    (codes "sensor", k.Sensor) ∷
    (codes "actuator", k.Actuator) ∷
    (codes "task", k.Task) ∷
    (codes "input", k.Input) ∷
    (codes "output", k.Output) ∷
    (codes "local", k.Local) ∷
    (codes "if", k.If) ∷
    (codes "else", k.Else) ∷
    (codes "repeat", k.Repeat) ∷
    (codes "start", k.Start) ∷
    (codes "mode", k.Mode) ∷
    (codes "period", k.Period) ∷
    (codes "wcet", k.Wcet) ∷
    (codes "freq", k.Freq) ∷
    (codes "slots", k.Slots) ∷
    (codes "update", k.Update) ∷
    (codes "switch", k.Switch) ∷
    (codes "to", k.To) ∷
    (codes "true", k.True) ∷
    (codes "false", k.False) ∷
    (codes "uses", k.Uses) ∷
    (codes "boolean", k.Boolean) ∷
    (codes "byte", k.Byte) ∷
    (codes "short", k.Short) ∷
    (codes "int", k.Int) ∷
    (codes "long", k.Long) ∷
    (codes "{", k.LeftBrace) ∷
    (codes "}", k.RightBrace) ∷
    (codes "(", k.LeftParenthesis) ∷
    (codes ")", k.RightParenthesis) ∷
    (codes "[", k.LeftBracket) ∷
    (codes "]", k.RightBracket) ∷
    (codes ";", k.Semicolon) ∷
    (codes ",", k.Comma) ∷
    (codes ".", k.Dot) ∷
    (codes "-", k.Minus) ∷
    (codes "+", k.Plus) ∷
    (codes "*", k.Star) ∷
    (codes "/", k.Slash) ∷
    (codes "%", k.Percent) ∷
    (codes "!", k.Bang) ∷
    (codes "<", k.Less) ∷
    (codes ">", k.Greater) ∷
    (codes "=", k.Equals) ∷
    (codes ":=", k.Becomes) ∷
    (codes "<=", k.LessEqual) ∷
    (codes ">=", k.GreaterEqual) ∷
    (codes "==", k.EqualEqual) ∷
    (codes "!=", k.NotEqual) ∷
    (codes "&&", k.AndAnd) ∷
    (codes "||", k.OrOr) ∷ []

-- the kind that a list of texts gives to a text, else the other
abbrev pub kind_among : List (List ℕ × WordKind) → WordKind → List ℕ → WordKind
kind_among [] other text = other
kind_among (entry ∷ more) other text = if bytes_eq entry.0 text then entry.1 else kind_among more other text

-- the kind of a token that is no reserved word and no sign: a number begins with a digit
abbrev pub free_kind : List ℕ → WordKind
free_kind [] = k.Name
free_kind (c ∷ cs) = if is_digit c then k.Number else k.Name

-- the kind of a token's text
unfoldable pub kind_of : List ℕ → WordKind
kind_of text = kind_among table (free_kind text) text
