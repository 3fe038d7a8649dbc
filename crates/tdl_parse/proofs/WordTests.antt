-- Tests of words are compared kind by kind.
use Rattle.std.proofs.Common.{◌≡◌, ◌∙◌, Bool, true, not, List, [], ◌∷◌, sym}
use Rattle.tdl_grammar.specs.Goodness.{Apart, Within}
use Rattle.tdl_grammar.proofs.Tests.{Covers, all_true, implies, at_true, apart_by, within_by}
use Rattle.tdl_tree.specs.declared.words.Word.{Word}
use Rattle.tdl_tree.specs.declared.words.WordKind.{WordKind}
use Rattle.tdl_tree.specs.declared.words.WordKind.TheVariants as k

-- a word of a kind
abbrev pub word_of : WordKind → Word
word_of kind = record { kind = kind; text = []; line = 0; col = 0 }

-- a test at each kind
abbrev pub values : (WordKind → Bool) → List Bool
values f =
    f k.Module ∷ f k.Import ∷ f k.Public ∷ f k.Const ∷ f k.Sensor ∷ f k.Actuator ∷ f k.Task ∷ f k.Input ∷
    f k.Output ∷ f k.Local ∷ f k.If ∷ f k.Else ∷ f k.Repeat ∷ f k.Start ∷ f k.Mode ∷ f k.Period ∷ f k.Wcet ∷
    f k.Freq ∷ f k.Slots ∷ f k.Update ∷ f k.Switch ∷ f k.To ∷ f k.True ∷ f k.False ∷ f k.Uses ∷ f k.Boolean ∷
    f k.Byte ∷ f k.Short ∷ f k.Int ∷ f k.Long ∷ f k.LeftBrace ∷ f k.RightBrace ∷ f k.LeftParenthesis ∷
    f k.RightParenthesis ∷ f k.LeftBracket ∷ f k.RightBracket ∷ f k.Semicolon ∷ f k.Comma ∷ f k.Dot ∷
    f k.Minus ∷ f k.Plus ∷ f k.Star ∷ f k.Slash ∷ f k.Percent ∷ f k.Bang ∷ f k.Less ∷ f k.Greater ∷ f k.Equals ∷
    f k.Becomes ∷ f k.LessEqual ∷ f k.GreaterEqual ∷ f k.EqualEqual ∷ f k.NotEqual ∷ f k.AndAnd ∷ f k.OrOr ∷
    f k.Name ∷ f k.Number ∷ []

covers : Covers values
covers f e k.Module = at_true (values f) 0 e
covers f e k.Import = at_true (values f) 1 e
covers f e k.Public = at_true (values f) 2 e
covers f e k.Const = at_true (values f) 3 e
covers f e k.Sensor = at_true (values f) 4 e
covers f e k.Actuator = at_true (values f) 5 e
covers f e k.Task = at_true (values f) 6 e
covers f e k.Input = at_true (values f) 7 e
covers f e k.Output = at_true (values f) 8 e
covers f e k.Local = at_true (values f) 9 e
covers f e k.If = at_true (values f) 10 e
covers f e k.Else = at_true (values f) 11 e
covers f e k.Repeat = at_true (values f) 12 e
covers f e k.Start = at_true (values f) 13 e
covers f e k.Mode = at_true (values f) 14 e
covers f e k.Period = at_true (values f) 15 e
covers f e k.Wcet = at_true (values f) 16 e
covers f e k.Freq = at_true (values f) 17 e
covers f e k.Slots = at_true (values f) 18 e
covers f e k.Update = at_true (values f) 19 e
covers f e k.Switch = at_true (values f) 20 e
covers f e k.To = at_true (values f) 21 e
covers f e k.True = at_true (values f) 22 e
covers f e k.False = at_true (values f) 23 e
covers f e k.Uses = at_true (values f) 24 e
covers f e k.Boolean = at_true (values f) 25 e
covers f e k.Byte = at_true (values f) 26 e
covers f e k.Short = at_true (values f) 27 e
covers f e k.Int = at_true (values f) 28 e
covers f e k.Long = at_true (values f) 29 e
covers f e k.LeftBrace = at_true (values f) 30 e
covers f e k.RightBrace = at_true (values f) 31 e
covers f e k.LeftParenthesis = at_true (values f) 32 e
covers f e k.RightParenthesis = at_true (values f) 33 e
covers f e k.LeftBracket = at_true (values f) 34 e
covers f e k.RightBracket = at_true (values f) 35 e
covers f e k.Semicolon = at_true (values f) 36 e
covers f e k.Comma = at_true (values f) 37 e
covers f e k.Dot = at_true (values f) 38 e
covers f e k.Minus = at_true (values f) 39 e
covers f e k.Plus = at_true (values f) 40 e
covers f e k.Star = at_true (values f) 41 e
covers f e k.Slash = at_true (values f) 42 e
covers f e k.Percent = at_true (values f) 43 e
covers f e k.Bang = at_true (values f) 44 e
covers f e k.Less = at_true (values f) 45 e
covers f e k.Greater = at_true (values f) 46 e
covers f e k.Equals = at_true (values f) 47 e
covers f e k.Becomes = at_true (values f) 48 e
covers f e k.LessEqual = at_true (values f) 49 e
covers f e k.GreaterEqual = at_true (values f) 50 e
covers f e k.EqualEqual = at_true (values f) 51 e
covers f e k.NotEqual = at_true (values f) 52 e
covers f e k.AndAnd = at_true (values f) 53 e
covers f e k.OrOr = at_true (values f) 54 e
covers f e k.Name = at_true (values f) 55 e
covers f e k.Number = at_true (values f) 56 e

-- the test looks at the kind alone
abbrev pub ByKind : (Word → Bool) → Type 0
ByKind f = (word : Word) → f word ≡ f (word_of word.kind)

-- no word is in both, by computing
pub apart : (goes starts : Word → Bool) → ByKind goes → ByKind starts →
    all_true (values (λ j. implies (starts (word_of j)) (not (goes (word_of j))))) ≡ true → Apart goes starts
apart goes starts g s e word h =
    g word ∙ apart_by values covers (λ j. goes (word_of j)) (λ j. starts (word_of j)) e word.kind (sym (s word) ∙ h)

-- each word of the one is one of the other, by computing
pub within : (s s' : Word → Bool) → ByKind s → ByKind s' →
    all_true (values (λ j. implies (s (word_of j)) (s' (word_of j)))) ≡ true → Within s s'
within s s' b b' e word h =
    b' word ∙ within_by values covers (λ j. s (word_of j)) (λ j. s' (word_of j)) e word.kind (sym (b word) ∙ h)
