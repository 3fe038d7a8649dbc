-- Names, numbers, times, literals and kinds.
use Rattle.std.specs.Prelude.{ℕ, ◌+◌, ◌-◌, ◌*◌, ◌^◌, min, Bool, true, false, List, [], ◌∷◌, length, codes}
use Rattle.tdl_base.specs.declared.kinds.Kind.{Kind}
use Rattle.tdl_base.specs.declared.kinds.Kind.TheVariants as kinds
use Rattle.tdl_grammar.specs.Grammar.{one, both, made, either}
use Rattle.tdl_tree.specs.declared.words.Word.{Word}
use Rattle.tdl_tree.specs.declared.words.WordKind.TheVariants as k
use Rattle.tdl_tree.specs.declared.names.Id.{Id}
use Rattle.tdl_tree.specs.declared.names.Num.{Num}
use Rattle.tdl_tree.specs.declared.names.Lit.{Lit}
use Rattle.tdl_tree.specs.declared.names.LitValue.TheVariants as lit
use Rattle.tdl_tree.specs.declared.names.Time.{Time}
use Rattle.tdl_tree.specs.declared.names.Unit.{Unit}
use Rattle.tdl_tree.specs.declared.names.Unit.TheVariants as unit
use Rattle.tdl_tree.specs.Kinds.{is}
use Rattle.tdl_tree.specs.Words.{Text, says, is_named}

-- the value of digits: each, less the 48 of `0`, counts ten times for each digit after it
abbrev pub value_of_digits : List ℕ → ℕ
value_of_digits [] = 0
value_of_digits (c ∷ cs) = (c - 48) * 10 ^ length cs + value_of_digits cs

-- the name that a word is
abbrev pub id_of : Word → Id
id_of word = record { text = word.text; line = word.line; col = word.col }

-- the greatest number that is kept
abbrev pub greatest : ℕ
greatest = 2 ^ 64 - 1

-- the number that a word is, at most the greatest
abbrev pub num_of : Word → Num
num_of word = record { value = min (value_of_digits word.text) greatest; line = word.line; col = word.col }

-- id
abbrev pub id : Text Id
id = made id_of (one (is k.Name))

-- number
abbrev pub number : Text Num
number = made num_of (one (is k.Number))

-- "us" | "ms" | "s", which are names
abbrev pub unit_name : List ℕ → Unit → Text Unit
unit_name text a = made (λ _. a) (one (is_named text))

abbrev pub time_of : Num × Unit → Time
time_of x = record { number = x.0; unit = x.1 }

-- time = number ( "us" | "ms" | "s" )
abbrev pub time : Text Time
time =
    made time_of
    (both number
    (either (unit_name (codes "us") unit.Us)
    (either (unit_name (codes "ms") unit.Ms) (unit_name (codes "s") unit.S))))

-- the literal of a minus and a number
abbrev pub minus_of : Word × Num → Lit
minus_of x = record { line = x.0.line; col = x.0.col; value = lit.Number true x.1 }

-- the literal of a number
abbrev pub plain_of : Num → Lit
plain_of x = record { line = x.line; col = x.col; value = lit.Number false x }

-- the literal of a word that says a truth
abbrev pub truth_of : Bool → Word → Lit
truth_of b word = record { line = word.line; col = word.col; value = lit.Truth b }

-- literal = [ "-" ] number | "true" | "false"
abbrev pub literal : Text Lit
literal =
    either (made minus_of (both (one (is k.Minus)) number))
    (either (made plain_of number)
    (either (made (truth_of true) (one (is k.True))) (made (truth_of false) (one (is k.False)))))

-- kind = "boolean" | "byte" | "short" | "int" | "long"
abbrev pub kind : Text Kind
kind =
    either (says k.Boolean kinds.Boolean)
    (either (says k.Byte kinds.Byte)
    (either (says k.Short kinds.Short)
    (either (says k.Int kinds.Int) (says k.Long kinds.Long))))
