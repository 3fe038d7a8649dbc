-- Which words spell which source.
use Rattle.std.specs.Prelude.{ℕ}
use Rattle.tdl_base.specs.declared.limits.TheConstants.{EXPRESSION_TOKENS, NESTED_BLOCKS}
use Rattle.tdl_grammar.specs.Grammar.{at_most}
use Rattle.tdl_tree.specs.declared.declarations.Tree.{Tree}
use Rattle.tdl_tree.specs.Words.{Text}
use Rattle.tdl_tree.specs.Expressions.{expr}
use Rattle.tdl_tree.specs.Statements.{block}
use Rattle.tdl_tree.specs.Declarations.{source}

-- the words spell the tree, no outermost expression has too many of them, and not too many blocks stand in one another
abbrev pub Sentence : Text Tree
Sentence tree words =
    (n : ℕ) ×
    source (at_most EXPRESSION_TOKENS (expr n)) (block NESTED_BLOCKS (at_most EXPRESSION_TOKENS (expr n))) tree words

-- the words spell the tree, with expressions and blocks of any size
abbrev pub Unlimited : Text Tree
Unlimited tree words = (n : ℕ) × (m : ℕ) × source (expr n) (block m (expr n)) tree words
