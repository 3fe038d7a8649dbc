-- The numbers that literals say.
use Rattle.std.specs.Prelude.{ℕ, ℤ, pos, neg_ℤ, Bool, true, false, Option, None, Some}
use Rattle.tdl_base.specs.declared.kinds.Kind.{Kind}
use Rattle.tdl_base.specs.Numbers.{wrapped, truth, narrowed}
use Rattle.tdl_tree.specs.declared.names.Lit.{Lit}
use Rattle.tdl_tree.specs.declared.names.LitValue.{LitValue}
use Rattle.tdl_tree.specs.declared.names.LitValue.TheVariants as lit

-- a number of the source as one of 64 bits
abbrev pub number_of : ℕ → ℤ
number_of n = wrapped (pos n)

-- a number of the source, with a minus before it or without
abbrev pub signed_number : Bool → ℕ → ℤ
signed_number false n = number_of n
signed_number true n = wrapped (neg_ℤ (number_of n))

-- the number that a literal says
abbrev pub literal_number : LitValue → ℤ
literal_number (lit.Truth b) = truth b
literal_number (lit.Number minus number) = signed_number minus number.value

-- a literal as a number of a kind
abbrev pub literal_of : Kind → Lit → ℤ
literal_of kind literal = narrowed kind (literal_number literal.value)

-- an initial literal as a number of a kind; 0 where there is none
abbrev pub initial_number : Kind → Option Lit → ℤ
initial_number kind None = pos 0
initial_number kind (Some literal) = literal_of kind literal
