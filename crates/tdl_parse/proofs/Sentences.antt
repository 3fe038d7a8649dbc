-- The parser with its limits reads exactly the sentences.
use Rattle.std.proofs.Common.{◌≡◌, ◌∙◌, arith, ℕ, suc, List, [], length, Ok, refl, sym, ap, subst}
use Rattle.std.proofs.lemmas.List.{append-nil}
use Rattle.tdl_base.specs.declared.limits.TheConstants.{EXPRESSION_TOKENS, NESTED_BLOCKS}
use Rattle.tdl_grammar.specs.Grammar.{at_most}
use Rattle.tdl_grammar.specs.Goodness.{Good, GrowsTo, never}
use Rattle.tdl_grammar.proofs.Outcomes.{given_is}
use Rattle.tdl_tree.specs.declared.words.Word.{Word}
use Rattle.tdl_tree.specs.declared.words.WordKind.TheVariants as k
use Rattle.tdl_tree.specs.declared.declarations.Tree.{Tree}
use Rattle.tdl_tree.specs.declared.expressions.ExprTree.{ExprTree}
use Rattle.tdl_tree.specs.Kinds.{is}
use Rattle.tdl_tree.specs.Words.{Text}
use Rattle.tdl_tree.specs.Expressions.{expr}
use Rattle.tdl_tree.specs.Statements.{block}
use Rattle.tdl_tree.specs.Declarations.{source}
use Rattle.tdl_tree.specs.Sentences.{Sentence}
use Rattle.tdl_parse.specs.Reading.{Parser}
use Rattle.tdl_parse.specs.ReadingExpressions.{outermost, goes_on}
use Rattle.tdl_parse.specs.ReadingStatements as reading
use Rattle.tdl_parse.specs.ReadingDeclarations as R
use Rattle.tdl_parse.proofs.GoodExpressions.{begins_expr}
use Rattle.tdl_parse.proofs.GoodOutermost.{AnyExpr, good_outermost, shallow_expr}
use Rattle.tdl_parse.proofs.GoodStatements.{good_block}
use Rattle.tdl_parse.proofs.GoodDeclarations.{good_source}
use Rattle.tdl_parse.proofs.GrowSources.{grow_block, grow_source}

-- sources with outermost expressions of at most most tokens and at most d blocks inside one another
abbrev pub Limited : ℕ → ℕ → Text Tree
Limited most d = source (at_most most AnyExpr) (block d (at_most most AnyExpr))

-- sources whose blocks may be one deeper, with no limit of expressions
abbrev pub Deeper : ℕ → Text Tree
Deeper d = source AnyExpr (block (suc d) AnyExpr)

good_limits : (most d : ℕ) (e : Parser ExprTree) → Good e (at_most most AnyExpr) AnyExpr begins_expr goes_on →
    Good (R.source e (reading.block d e)) (Limited most d) (Deeper d) (is k.Module) never
good_limits most d e x =
    good_source e (at_most most AnyExpr) AnyExpr x (reading.block d e) (block d (at_most most AnyExpr)) (block
    (suc d) AnyExpr)
    (good_block e (at_most most AnyExpr) AnyExpr x d)

-- expressions of one depth are of any
of_depth : (most d n : ℕ) (tree : Tree) (ts : List Word) → source (at_most most (expr n)) (block d (at_most most
    (expr n))) tree ts → Limited most d tree ts
of_depth most d n tree ts l =
    let x : GrowsTo (length ts) (at_most most (expr n)) (at_most most AnyExpr) = λ a us b m. ((n, m.0), m.1) in
    grow_source (length ts) (at_most most (expr n)) (at_most most AnyExpr) x (block d (at_most most (expr n)))
    (block d (at_most most AnyExpr))
    (grow_block (length ts) (at_most most (expr n)) (at_most most AnyExpr) x d) tree ts (omega arith) l

-- and in a text they need no greater depth than it has tokens
to_depth : (most d : ℕ) (tree : Tree) (ts : List Word) → Limited most d tree ts → source (at_most most (expr
    (length ts))) (block d (at_most most (expr (length ts)))) tree ts
to_depth most d tree ts l =
    let n : ℕ = length ts in
    let x : GrowsTo n (at_most most AnyExpr) (at_most most (expr n)) = λ a us b m. (shallow_expr n a us b m.0, m.1) in
    grow_source n (at_most most AnyExpr) (at_most most (expr n)) x (block d (at_most most AnyExpr)) (block d
    (at_most most (expr n)))
    (grow_block n (at_most most AnyExpr) (at_most most (expr n)) x d) tree ts (omega arith) l

pub good_limited : Good R.limited (Limited EXPRESSION_TOKENS NESTED_BLOCKS) (Deeper NESTED_BLOCKS) (is k.Module) never
unfolding R.limited
good_limited = good_limits EXPRESSION_TOKENS NESTED_BLOCKS outermost good_outermost

-- what is read to the end is a sentence of its tree
pub limited_spelled : (ts : List Word) (tree : Tree) → R.limited ts ≡ Ok (tree, []) → Sentence tree ts
limited_spelled ts tree e =
    let took = good_limited.reads.took ts [] tree e in
    let whole : took.front ≡ ts = sym (append-nil took.front) ∙ sym took.parts in (
      length ts,
      to_depth EXPRESSION_TOKENS NESTED_BLOCKS tree ts (subst
          (Limited EXPRESSION_TOKENS NESTED_BLOCKS tree) whole took.spelled),
    )

-- each sentence is read to the end
pub limited_read : (ts : List Word) (tree : Tree) → Sentence tree ts → R.limited ts ≡ Ok (tree, [])
limited_read ts tree l =
    subst (λ (z : List Word). R.limited z ≡ Ok (tree, [])) (append-nil ts)
    (good_limited.complete tree ts [] (of_depth EXPRESSION_TOKENS NESTED_BLOCKS l.0 tree ts l.1) refl)

-- two trees of one sentence are one
pub one_tree : (a b : Tree) (ts : List Word) → Sentence a ts → Sentence b ts → a ≡ b
one_tree a b ts x y =
    ap (λ (read : Tree × List Word). read.0)
    (given_is (a, []) (b, []) (sym (limited_read ts a x) ∙ limited_read ts b y))
