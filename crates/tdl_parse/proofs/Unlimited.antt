-- The parser without limits reads exactly the sources of any size, and fails at the first word out of place.
use Rattle.std.proofs.Common.{◌≡◌, arith, ℕ, zero, suc, true, List, [], ◌∷◌, ◌++◌, length, Err, refl}
use Rattle.tdl_grammar.specs.Grammar as G
use Rattle.tdl_grammar.specs.Grammar.{some_depth, IsFault}
use Rattle.tdl_grammar.specs.Parsing.{one, many, by_length, all}
use Rattle.tdl_grammar.specs.Goodness.{Good, Grows, GrowsTo, Agree, Agreeing, never}
use Rattle.tdl_grammar.proofs.Goods.{good_for}
use Rattle.tdl_grammar.proofs.Many.{nullable_many}
use Rattle.tdl_grammar.proofs.Depth.{shrinks, good_by_length, shallow}
use Rattle.tdl_grammar.proofs.Growing.{grow}
use Rattle.tdl_grammar.proofs.Agreeing.{agree_made, agree_both, agree_after, agree_either, agree_maybe, agree_many}
use Rattle.tdl_grammar.proofs.Whole.{all_fault}
use Rattle.tdl_tree.specs.declared.words.Word.{Word}
use Rattle.tdl_tree.specs.declared.words.WordKind.{WordKind}
use Rattle.tdl_tree.specs.declared.words.WordKind.TheVariants as k
use Rattle.tdl_tree.specs.declared.expressions.ExprTree.{ExprTree}
use Rattle.tdl_tree.specs.declared.statements.StmtTree.{StmtTree}
use Rattle.tdl_tree.specs.declared.declarations.Tree.{Tree}
use Rattle.tdl_tree.specs.Kinds.{is}
use Rattle.tdl_tree.specs.Words.{Text, first}
use Rattle.tdl_tree.specs.Names as N
use Rattle.tdl_tree.specs.Expressions.{expr}
use Rattle.tdl_tree.specs.Statements as S
use Rattle.tdl_tree.specs.Declarations.{source}
use Rattle.tdl_tree.specs.Sentences.{Unlimited}
use Rattle.tdl_parse.specs.Reading as basic
use Rattle.tdl_parse.specs.Reading.{Parser, number}
use Rattle.tdl_parse.specs.ReadingExpressions.{goes_on}
use Rattle.tdl_parse.specs.ReadingStatements as R
use Rattle.tdl_parse.specs.ReadingStatements.{begins_stmt}
use Rattle.tdl_parse.specs.ReadingDeclarations as reading
use Rattle.tdl_parse.proofs.WordTests.{word_of, apart}
use Rattle.tdl_parse.proofs.GoodWords.{good_word}
use Rattle.tdl_parse.proofs.GoodNames.{good_number}
use Rattle.tdl_parse.proofs.GoodExpressions.{begins_expr}
use Rattle.tdl_parse.proofs.GoodOutermost.{AnyExpr, any_expr, good_any_expr, shallow_expr}
use Rattle.tdl_parse.proofs.GoodStatements.{good_stmt, good_block}
use Rattle.tdl_parse.proofs.GoodDeclarations.{good_source}
use Rattle.tdl_parse.proofs.GrowSources.{grow_block, deepen_block, grow_source}

-- ---- blocks of other depths agree on short lists

-- a word, then parsers that agree
agree_word : {A : Type 0} (d : ℕ) (kind : WordKind) → is kind (word_of kind) ≡ true → (p p' : Parser A) →
    Agree d p p' →
    Agree d (basic.after kind p) (basic.after kind p')
agree_word d kind e p p' a =
    agree_made d G.second _ _
    (agree_both d (one (is kind)) (one (is kind)) p p' (G.one (is kind)) (G.one (is kind)) (good_word kind e).reads
    (λ ts b. refl) a)

-- statements over blocks that agree
pub agree_stmt : (d : ℕ) (e : Parser ExprTree) (E : Text ExprTree) → Good e E E begins_expr goes_on →
    (b b' : Parser (List StmtTree)) (B B' : Text (List StmtTree)) → Good b' B B' (is k.LeftBrace) never →
    Agree d b b' →
    Agree d (R.stmt e b) (R.stmt e b')
unfolding R.stmt R.if_stmt R.repeat_stmt
agree_stmt d e E x b b' B B' y a =
    agree_either d (is k.Name) (R.assign e) (R.assign e) _ _ (λ ts h. refl)
    (agree_either d (is k.If) (R.if_stmt e b) (R.if_stmt e b') (R.repeat_stmt b) (R.repeat_stmt b')
    (agree_made d S.if_of _ _ (agree_word d k.If refl _ _
    (agree_both d e e _ _ E E x.reads (λ ts h. refl)
    (agree_both d b b' _ _ B B' y.reads a (agree_maybe d (is k.Else) _ _ (agree_word d k.Else refl b b' a))))))
    (agree_made d S.repeat_of _ _ (agree_word d k.Repeat refl _ _
    (agree_both d number number b b' N.number N.number good_number.reads (λ ts h. refl) a))))

-- the parsers of blocks by depth
abbrev pub read_block : Parser ExprTree → ℕ → Parser (List StmtTree)
read_block e n = R.block n e

-- blocks with enough depth agree
pub agree_block : (e : Parser ExprTree) (E : Text ExprTree) → Good e E E begins_expr goes_on → Agreeing (read_block e)
unfolding R.block begins_stmt
agree_block e E x d zero zero a b ts h = refl
agree_block e E x d zero (suc m) a b [] h = refl
agree_block e E x d zero (suc m) a b (t ∷ ts) h = absurd (omega arith)
agree_block e E x d (suc n) zero a b [] h = refl
agree_block e E x d (suc n) zero a b (t ∷ ts) h = absurd (omega arith)
agree_block e E x zero (suc n) (suc m) a b [] h = refl
agree_block e E x zero (suc n) (suc m) a b (t ∷ ts) h = absurd (omega arith)
agree_block e E x (suc d) (suc n) (suc m) a b ts h =
    let y = good_stmt e E E x (R.block m e) (S.block m E) (S.block (suc m) E) (good_block e E E x m) in
    agree_made (suc d) G.second _ _ (agree_after d (is k.LeftBrace) _ _
    (agree_made d first _ _
    (agree_both d (many begins_stmt (R.stmt e (R.block n e))) (many begins_stmt (R.stmt e (R.block m e))) (one
    (is k.RightBrace)) (one (is k.RightBrace)) _ _
    (nullable_many (R.stmt e (R.block m e)) _ _ begins_stmt (is k.Else) (apart _ _ (λ w. refl)
    (λ w. refl) refl) y).reads
    (agree_many d begins_stmt (R.stmt e (R.block n e)) (R.stmt e (R.block m e)) (shrinks _ _ _ begins_stmt
    (is k.Else) y)
    (agree_stmt d e E x (R.block n e) (R.block m e) (S.block m E) (S.block (suc m) E) (good_block e E E x m)
    (agree_block e E x d n m (omega arith) (omega arith))))
    (λ us g. refl)))) ts h

-- ---- blocks of any depth

-- the blocks by depth
abbrev pub blocks : ℕ → Text (List StmtTree)
blocks n = S.block n AnyExpr

-- blocks of any depth
abbrev pub AnyBlock : Text (List StmtTree)
AnyBlock = some_depth blocks

-- and their parser
abbrev pub any_block : Parser (List StmtTree)
any_block = by_length (read_block any_expr)

-- deeper blocks are more
deeper : (n : ℕ) → Grows (blocks n) (blocks (suc n))
deeper n = grow (blocks n) (blocks (suc n)) (λ d. deepen_block d AnyExpr n)

-- blocks are read well at each depth
good_each : (n : ℕ) → Good (read_block any_expr n) (blocks n) (blocks (suc n)) (is k.LeftBrace) never
good_each = good_block any_expr AnyExpr AnyExpr good_any_expr

-- blocks of any depth are read well
pub good_any_block : Good any_block AnyBlock AnyBlock (is k.LeftBrace) never
good_any_block =
    good_for any_block AnyBlock (some_depth (λ n. blocks (suc n))) AnyBlock AnyBlock (is k.LeftBrace) never
    (λ a ts l. l) (λ a ts l. l) (λ a ts l. (suc l.0, l.1))
    (good_by_length (read_block any_expr) blocks (λ n. blocks (suc n)) (is k.LeftBrace) never
    (agree_block any_expr AnyExpr good_any_expr) deeper good_each)

-- a short block needs no greater depth than it has words
pub shallow_block : (n : ℕ) → GrowsTo n AnyBlock (blocks n)
shallow_block = shallow (read_block any_expr) blocks (λ n. blocks (suc n)) (is k.LeftBrace) never
    (agree_block any_expr AnyExpr good_any_expr) deeper good_each

-- ---- sources of any size

-- a source of any size
abbrev pub AnySource : Text Tree
AnySource = source AnyExpr AnyBlock

-- and its parser
abbrev pub any_source : Parser Tree
any_source = reading.source any_expr any_block

-- sources of any size are read well
pub good_any_source : Good any_source AnySource AnySource (is k.Module) never
good_any_source = good_source any_expr AnyExpr AnyExpr good_any_expr any_block AnyBlock AnyBlock good_any_block

-- sources of any size, by one depth of expressions and one of blocks
pub any_of_unlimited : Grows Unlimited AnySource
any_of_unlimited tree ts l =
    let n : ℕ = l.0 in
    let x : GrowsTo (length ts) (expr n) AnyExpr = λ a us b m. (n, m) in
    grow_source (length ts) (expr n) AnyExpr x (S.block l.1 (expr n)) AnyBlock
    (λ a us b m. (l.1, grow_block (length ts) (expr n) AnyExpr x l.1 a us b m)) tree ts (omega arith) l.2

-- and the other way
pub unlimited_of_any : Grows AnySource Unlimited
unlimited_of_any tree ts l =
    let n : ℕ = length ts in (
      n,
      n,
      grow_source n AnyExpr (expr n) (shallow_expr n) AnyBlock (S.block n (expr n))
          (λ a us b m. grow_block n AnyExpr (expr n) (shallow_expr n) n a us b (shallow_block n a us b m)) tree ts
          (omega arith) l,
    )

-- where the parser without limits fails, no source goes on
pub unlimited_fault : (ts rest : List Word) → all (any_source ts) ≡ Err rest → IsFault Unlimited ts rest
unlimited_fault ts rest e =
    let f = all_fault any_source AnySource (is k.Module) never good_any_source ts rest e in
    record {
      front = f.front;
      parts = f.parts;
      others = f.others;
      tree = f.tree;
      begun = unlimited_of_any f.tree (f.front ++ f.others) f.begun;
      never_on = λ t r h a more l. f.never_on t r h a more (any_of_unlimited a (f.front ++ t ∷ more) l);
    }
