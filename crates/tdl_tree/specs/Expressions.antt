-- Expressions.
use Rattle.std.specs.Prelude.{ℕ, zero, suc, Bool, true, false, ◌||◌, List, [], ◌∷◌, Option, None, Some}
use Rattle.tdl_base.specs.declared.arithmetic.UnOp.{UnOp}
use Rattle.tdl_base.specs.declared.arithmetic.UnOp.TheVariants.{Neg, Not}
use Rattle.tdl_base.specs.declared.arithmetic.BinOp.{BinOp}
use Rattle.tdl_base.specs.declared.arithmetic.BinOp.TheVariants as op
use Rattle.tdl_grammar.specs.Grammar.{one, both, made, either, optional, chain}
use Rattle.tdl_tree.specs.declared.words.Word.{Word}
use Rattle.tdl_tree.specs.declared.words.WordKind.{WordKind}
use Rattle.tdl_tree.specs.declared.words.WordKind.TheVariants as k
use Rattle.tdl_tree.specs.declared.names.Id.{Id}
use Rattle.tdl_tree.specs.declared.names.Num.{Num}
use Rattle.tdl_tree.specs.declared.expressions.ExprTree.{ExprTree}
use Rattle.tdl_tree.specs.declared.expressions.ExprNode.TheVariants as node
use Rattle.tdl_tree.specs.Kinds.{is}
use Rattle.tdl_tree.specs.Words.{Text, after, before}
use Rattle.tdl_tree.specs.Names.{id, number}

-- the operator of two operands that a sign writes
abbrev pub bin_of : WordKind → BinOp
bin_of k.Plus = op.Add
bin_of k.Minus = op.Sub
bin_of k.Star = op.Mul
bin_of k.Slash = op.Div
bin_of k.Percent = op.Rem
bin_of k.Less = op.Less
bin_of k.LessEqual = op.LessEq
bin_of k.Greater = op.Greater
bin_of k.GreaterEqual = op.GreaterEq
bin_of k.EqualEqual = op.Equal
bin_of k.NotEqual = op.NotEqual
bin_of k.AndAnd = op.And
bin_of _ = op.Or

-- the operator of one operand that a sign writes
abbrev pub un_of : WordKind → UnOp
un_of k.Minus = Neg
un_of _ = Not

-- ( "==" | "!=" | "<" | "<=" | ">" | ">=" )
unfoldable pub is_comparison : Word → Bool
is_comparison word =
    is k.EqualEqual word || is k.NotEqual word || is k.Less word || is k.LessEqual word || is k.Greater word ||
    is k.GreaterEqual word

-- ( "+" | "-" )
unfoldable pub is_sum_sign : Word → Bool
is_sum_sign word = is k.Plus word || is k.Minus word

-- ( "*" | "/" | "%" )
unfoldable pub is_product_sign : Word → Bool
is_product_sign word = is k.Star word || is k.Slash word || is k.Percent word

-- ( "-" | "!" )
unfoldable pub is_unary_sign : Word → Bool
is_unary_sign word = is k.Minus word || is k.Bang word

-- two operands with the sign between them, at the place of the left one
abbrev pub joins : ExprTree → Word → ExprTree → ExprTree
joins left sign right = record { line = left.line; col = left.col; node = node.Bin (bin_of sign.kind) left right }

-- an operand, and a comparison with another if one is written
abbrev pub compared : ExprTree × Option (Word × ExprTree) → ExprTree
compared (left, None) = left
compared (left, Some right) = joins left right.0 right.1

-- an operand with a sign before it
abbrev pub signed_of : Word × ExprTree → ExprTree
signed_of x = record { line = x.0.line; col = x.0.col; node = node.Un (un_of x.0.kind) x.1 }

-- an expression in parentheses, at the place of the opening one
abbrev pub inner_of : Word × ExprTree → ExprTree
inner_of x = record { line = x.0.line; col = x.0.col; node = x.1.node }

abbrev pub number_of : Num → ExprTree
number_of x = record { line = x.line; col = x.col; node = node.Number x }

abbrev pub truth_of : Bool → Word → ExprTree
truth_of b word = record { line = word.line; col = word.col; node = node.Truth b }

-- the parts after the first of a name
abbrev pub parts_after : Option (Id × Option Id) → List Id
parts_after None = []
parts_after (Some (second, None)) = second ∷ []
parts_after (Some (second, Some third)) = second ∷ third ∷ []

abbrev pub name_of : Id × Option (Id × Option Id) → ExprTree
name_of x = record { line = x.0.line; col = x.0.col; node = node.Name (x.0 ∷ parts_after x.1) }

-- prod = unary { ( "*" | "/" | "%" ) unary }
abbrev pub prod : Text ExprTree → Text ExprTree
prod unary = chain is_product_sign joins unary

-- sum = prod { ( "+" | "-" ) prod }
abbrev pub sum : Text ExprTree → Text ExprTree
sum unary = chain is_sum_sign joins (prod unary)

-- rel = sum [ ( "==" | "!=" | "<" | "<=" | ">" | ">=" ) sum ]
abbrev pub rel : Text ExprTree → Text ExprTree
rel unary = made compared (both (sum unary) (optional (both (one is_comparison) (sum unary))))

-- conj = rel { "&&" rel }
abbrev pub conj : Text ExprTree → Text ExprTree
conj unary = chain (is k.AndAnd) joins (rel unary)

-- expr = conj { "||" conj }, over the language of unary
abbrev pub expr_over : Text ExprTree → Text ExprTree
expr_over unary = chain (is k.OrOr) joins (conj unary)

-- name = id [ "." id [ "." id ] ]
abbrev pub name : Text ExprTree
name = made name_of (both id (optional (both (after k.Dot id) (optional (after k.Dot id)))))

-- prim = number | "true" | "false" | name, without parentheses
abbrev pub plain : Text ExprTree
plain =
    either (made number_of number)
    (either (made (truth_of true) (one (is k.True)))
    (either (made (truth_of false) (one (is k.False))) name))

-- unary = ( "-" | "!" ) unary | plain | "(" expr ")", with at most n of these inside one another
unfoldable pub unary : ℕ → Text ExprTree
unary zero = plain
unary (suc n) =
    either (made signed_of (both (one is_unary_sign) (unary n)))
    (either (made inner_of (both (one (is k.LeftParenthesis)) (before k.RightParenthesis (expr_over (unary n)))))
    plain)

-- expr, with signs and parentheses at most n deep inside one another
abbrev pub expr : ℕ → Text ExprTree
expr n = expr_over (unary n)
