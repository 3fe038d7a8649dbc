-- A small grammar with every word, and its parser: blocks of lists of sums.
use Rattle.std.specs.Prelude.{◌+◌, ◌*◌, ℕ, zero, suc, Bool, true, false, List, [], ◌∷◌, ◌++◌, Option}
use Rattle.tdl_base.specs.Lists.{joined}
use Rattle.tdl_grammar.specs.declared.signs.Sign.{Sign}
use Rattle.tdl_grammar.specs.declared.signs.Sign.TheVariants as sign
use Rattle.tdl_grammar.specs.Grammar as G
use Rattle.tdl_grammar.specs.Grammar.{Lang, second, some_depth, at_most, nowhere}
use Rattle.tdl_grammar.specs.Parsing as R
use Rattle.tdl_grammar.specs.Parsing.{P, by_length, capped, refuse}

abbrev pub is_number : Sign → Bool
is_number sign.One = true
is_number sign.Two = true
is_number _ = false

abbrev pub is_plus : Sign → Bool
is_plus sign.Plus = true
is_plus _ = false

abbrev pub is_comma : Sign → Bool
is_comma sign.Comma = true
is_comma _ = false

abbrev pub is_semicolon : Sign → Bool
is_semicolon sign.Semicolon = true
is_semicolon _ = false

abbrev pub is_open : Sign → Bool
is_open sign.Open = true
is_open _ = false

abbrev pub is_close : Sign → Bool
is_close sign.Close = true
is_close _ = false

abbrev pub is_begin : Sign → Bool
is_begin sign.Begin = true
is_begin _ = false

abbrev pub is_end : Sign → Bool
is_end sign.End = true
is_end _ = false

abbrev pub is_minus : Sign → Bool
is_minus sign.Minus = true
is_minus _ = false

abbrev pub number_of : Sign → ℕ
number_of sign.Two = 2
number_of _ = 1

abbrev pub inner : Sign × (ℕ × Sign) → ℕ
inner x = x.1.0

-- ten times the left operand and the right one, which tells how operands are joined
abbrev pub weighed : ℕ → Sign → ℕ → ℕ
weighed a t b = 10 * a + b

abbrev pub before_sign : List ℕ × Sign → List ℕ
before_sign x = x.0

abbrev pub in_block : Sign × (List (List ℕ) × Sign) → List ℕ
in_block x = joined x.1.0

abbrev pub in_text : Option Sign × List ℕ → List ℕ
in_text x = x.1

-- ---- the grammar

-- item = "(" sum ")" | number, and sum = item { "+" item }, nested at most n deep
abbrev pub sum : ℕ → Lang Sign ℕ
sum zero = G.chain is_plus weighed (G.made number_of (G.one is_number))
sum (suc n) = G.chain is_plus weighed
    (G.either (G.made inner (G.both (G.one is_open) (G.both (sum n) (G.one is_close)))) (G.made number_of
    (G.one is_number)))

-- list = E { "," E } ";"
abbrev pub list : Lang Sign ℕ → Lang Sign (List ℕ)
list E = G.made before_sign (G.both (G.separated is_comma E) (G.one is_semicolon))

-- block = "{" { block | list } "}", nested at most n deep
abbrev pub block : Lang Sign ℕ → ℕ → Lang Sign (List ℕ)
block E zero = nowhere
block E (suc n) = G.made in_block (G.both (G.one is_begin) (G.both (G.many (G.either (block E n) (list E)))
    (G.one is_end)))

-- text = [ "-" ] block
abbrev pub text : Lang Sign (List ℕ) → Lang Sign (List ℕ)
text B = G.made in_text (G.both (G.optional (G.one is_minus)) B)

-- any sum
abbrev pub Sum : Lang Sign ℕ
Sum = some_depth sum

-- a text without limits
abbrev pub Text : Lang Sign (List ℕ)
Text = text (some_depth (block Sum))

-- a text with sums of at most 5 tokens, and at most 2 blocks in each other
abbrev pub Limited : Lang Sign (List ℕ)
Limited = text (block (at_most 5 Sum) 2)

-- ---- its parser

abbrev pub read_number : P Sign ℕ
read_number = R.made number_of (R.one is_number)

abbrev pub read_sum : ℕ → P Sign ℕ
read_sum zero = R.chain is_plus weighed read_number
read_sum (suc n) = R.chain is_plus weighed
    (R.either is_open (R.made inner (R.both (R.one is_open) (R.both (read_sum n) (R.one is_close)))) read_number)

abbrev pub read_list : P Sign ℕ → P Sign (List ℕ)
read_list e = R.made before_sign (R.both (R.separated is_comma e) (R.one is_semicolon))

abbrev pub begins_item : Sign → Bool
begins_item sign.Begin = true
begins_item sign.Open = true
begins_item t = is_number t

abbrev pub read_block : P Sign ℕ → ℕ → P Sign (List ℕ)
read_block e zero = refuse
read_block e (suc n) = R.made in_block
    (R.both (R.one is_begin) (R.both (R.many begins_item (R.either is_begin (read_block e n) (read_list e)))
    (R.one is_end)))

abbrev pub read_text : P Sign (List ℕ) → P Sign (List ℕ)
read_text b = R.made in_text (R.both (R.maybe is_minus (R.one is_minus)) b)

-- the parser of texts without limits
abbrev pub read_free : P Sign (List ℕ)
read_free = read_text (by_length (read_block (by_length read_sum)))

-- the parser of texts with limits
abbrev pub read_limited : P Sign (List ℕ)
read_limited = read_text (read_block (capped 5 is_plus (read_sum 5)) 2)

-- ---- tokens

-- "-{1+(2+1);{2,1;}}"
abbrev pub nested : List Sign
nested = sign.Minus ∷ sign.Begin ∷ sign.One ∷ sign.Plus ∷ sign.Open ∷ sign.Two ∷ sign.Plus ∷ sign.One ∷ sign.Close ∷
    sign.Semicolon
    ∷ sign.Begin ∷ sign.Two ∷ sign.Comma ∷ sign.One ∷ sign.Semicolon ∷ sign.End ∷ sign.End ∷ []

-- a sum of three ones, and what stands after them
abbrev pub three_ones : List Sign → List Sign
three_ones after = sign.Begin ∷ sign.One ∷ sign.Plus ∷ sign.One ∷ sign.Plus ∷ sign.One ∷ after

-- blocks in two blocks, and what they have inside
abbrev pub two_blocks : List Sign → List Sign
two_blocks inside = sign.Begin ∷ sign.Begin ∷ inside ++ sign.End ∷ sign.End ∷ []
