-- The first word of a source that is out of place.
use Rattle.std.specs.Prelude.{◌≡◌, ℕ, zero, suc, Bool, true, false, List, [], ◌∷◌, ◌++◌}
use Rattle.tdl_base.specs.declared.limits.TheConstants.{EXPRESSION_TOKENS, NESTED_BLOCKS}
use Rattle.tdl_grammar.specs.Grammar.{some_depth}
use Rattle.tdl_grammar.specs.Counting.{counted, at_most_counted}
use Rattle.tdl_tree.specs.declared.words.Word.{Word}
use Rattle.tdl_tree.specs.declared.words.WordKind.TheVariants as k
use Rattle.tdl_tree.specs.declared.expressions.ExprTree.{ExprTree}
use Rattle.tdl_tree.specs.declared.statements.StmtTree.{StmtTree}
use Rattle.tdl_tree.specs.declared.declarations.Tree.{Tree}
use Rattle.tdl_tree.specs.Words.{Text, after, all_before}
use Rattle.tdl_tree.specs.Expressions.{expr}
use Rattle.tdl_tree.specs.Statements.{stmt, block}
use Rattle.tdl_tree.specs.Declarations.{source}
use Rattle.tdl_tree.specs.Sentences.{Sentence}

-- lines are counted from 1
abbrev pub is_line : ℕ → Bool
is_line zero = false
is_line (suc n) = true

-- words of a source are written, on some line; words of line 0 stand for whatever could still be written
abbrev pub is_written : Word → Bool
is_written word = is_line word.line

-- none of the words is written
abbrev pub Unwritten : List Word → Type 0
Unwritten words = counted is_written words ≡ 0

-- an outermost expression, with its limit for the words that are written
abbrev pub outermost_written : Text ExprTree
outermost_written = at_most_counted is_written EXPRESSION_TOKENS (some_depth expr)

-- block, with at most n inside one another that have words that are written
unfoldable pub block_written : ℕ → Text ExprTree → Text (List StmtTree)
block_written zero expr = at_most_counted is_written 0 (some_depth (λ m. block m expr))
block_written (suc n) expr = after k.LeftBrace (all_before k.RightBrace (stmt expr (block_written n expr)))

-- the words spell the tree, with the limits for the words that are written alone
abbrev pub Within : Text Tree
Within = source outermost_written (block_written NESTED_BLOCKS outermost_written)

-- no text within the limits begins with the words and goes on by what could still be written. So the 513th word of an
-- outermost expression is out of place, and the first of a block inside 16 others; what stands before is not for their
-- sake, since what could still be written has no limits
abbrev pub IsOutOfPlace : List Word → Word → Type 0
IsOutOfPlace front word =
    (tree : Tree) (more : List Word) → Unwritten more → Within tree (front ++ word ∷ more) → ⊥

-- `rest` begins with the first word out of place; or no word is, the words are no sentence, and it is empty
pub record IsSyntaxFault (words rest : List Word) : Type 0 where
  pub front : List Word
  pub parts : words ≡ front ++ rest
  -- each word before it is in place
  pub in_place : (before after : List Word) (word : Word) → front ≡ before ++ word ∷ after → ¬ IsOutOfPlace before word
  -- it is out of place
  pub out_of_place : (word : Word) (after : List Word) → rest ≡ word ∷ after → IsOutOfPlace front word
  -- or the source ends too early
  pub ended : rest ≡ [] → (tree : Tree) → ¬ Sentence tree words
