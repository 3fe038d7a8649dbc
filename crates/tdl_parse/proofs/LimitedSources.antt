-- Declarations and sources with limits beside those without.
use Rattle.std.proofs.Common.{ℕ, suc, Bool, true, false, List, refl}
use Rattle.tdl_base.specs.declared.limits.TheConstants.{NESTED_BLOCKS}
use Rattle.tdl_grammar.specs.Goodness.{Good, never, any}
use Rattle.tdl_grammar.proofs.Many.{nullable_many}
use Rattle.tdl_grammar.proofs.Depth.{shrinks}
use Rattle.tdl_grammar.proofs.LimitedWords.{Limit, limited_same, nullable_same, limited_then, limited_before, limited_made, limited_either, limited_widen}
use Rattle.tdl_tree.specs.declared.words.Word.{Word}
use Rattle.tdl_tree.specs.declared.words.WordKind.TheVariants as k
use Rattle.tdl_tree.specs.declared.expressions.ExprTree.{ExprTree}
use Rattle.tdl_tree.specs.declared.statements.StmtTree.{StmtTree}
use Rattle.tdl_tree.specs.Kinds.{is}
use Rattle.tdl_tree.specs.Words.{Text}
use Rattle.tdl_tree.specs.Expressions.{is_comparison, is_sum_sign, is_product_sign}
use Rattle.tdl_tree.specs.Statements.{block}
use Rattle.tdl_tree.specs.Declarations as D
use Rattle.tdl_tree.specs.Faults.{is_written, outermost_written, block_written, Within}
use Rattle.tdl_parse.specs.Reading.{Parser}
use Rattle.tdl_parse.specs.ReadingExpressions.{goes_on, outermost}
use Rattle.tdl_parse.specs.ReadingStatements as reading
use Rattle.tdl_parse.specs.ReadingStatements.{begins_stmt}
use Rattle.tdl_parse.specs.ReadingDeclarations as R
use Rattle.tdl_parse.specs.ReadingDeclarations.{begins_port, begins_decl}
use Rattle.tdl_parse.proofs.WordTests.{apart, within}
use Rattle.tdl_parse.proofs.GoodWords.{never_apart}
use Rattle.tdl_parse.proofs.GoodNames.{good_id}
use Rattle.tdl_parse.proofs.GoodExpressions.{begins_expr}
use Rattle.tdl_parse.proofs.GoodOutermost.{AnyExpr, any_expr, good_outermost}
use Rattle.tdl_parse.proofs.GoodStatements.{good_stmt, good_block}
use Rattle.tdl_parse.proofs.GoodDeclarations.{task_body_text, public_text, import_text, good_const, good_sensor, good_actuator, good_port, good_worst, good_decl, good_import}
use Rattle.tdl_parse.proofs.Unlimited.{AnySource, any_source}
use Rattle.tdl_parse.proofs.LimitedStatements.{limited_expr, limited_after_word, limited_all_before, limited_stmt}
use Rattle.tdl_parse.proofs.LimitedBlocks.{limited_block}
use Rattle.tdl_parse.proofs.LimitedActivities.{limited_mode}

-- expressions and blocks, read with limits and without
record Parts (u : Word → Bool) (e e' : Parser ExprTree) (E U : Text ExprTree) (b b' : Parser (List StmtTree))
    (B V : Text (List StmtTree)) : Type 1 where
  L : Text ExprTree
  L' : Text ExprTree
  K : Text (List StmtTree)
  K' : Text (List StmtTree)
  good_e : Good e L L' begins_expr goes_on
  good_b : Good b K K' (is k.LeftBrace) never
  expr : Limit u goes_on e e' E U begins_expr goes_on
  blocks : Limit u goes_on b b' B V (is k.LeftBrace) never

limited_task_body : {u : Word → Bool} {e e' : Parser ExprTree} {E U : Text ExprTree} {b b' : Parser
    (List StmtTree)} {B V : Text (List StmtTree)} → Parts u e e' E U b b' B V →
    Limit u goes_on (R.task_body e b) (R.task_body e' b') (task_body_text E B) (task_body_text U V)
    (is k.LeftBrace) never
unfolding R.task_body begins_stmt begins_port goes_on is_comparison is_sum_sign is_product_sign
limited_task_body {u} {e} {e'} {E} {U} {b} {b'} {B} {V} x =
    limited_after_word k.LeftBrace refl
    (limited_before (apart _ _ (λ w. refl) (λ w. refl) refl) (apart _ _ (λ w. refl) (λ w. refl) refl)
    (nullable_same u goes_on (nullable_many R.port D.port D.port begins_port never
    (never_apart begins_port) good_port))
    (limited_all_before k.RightBrace refl (apart _ _ (λ w. refl) (λ w. refl) refl) (apart _ _ (λ w. refl)
    (λ w. refl) refl) (apart _ _ (λ w. refl) (λ w. refl) refl) (apart _ _ (λ w. refl) (λ w. refl) refl)
    (shrinks (reading.stmt e b) _ _ begins_stmt (is k.Else) (good_stmt e x.L x.L' x.good_e b x.K x.K' x.good_b))
    (limited_stmt x.expr x.blocks)))

limited_task : {u : Word → Bool} (public : Bool) {e e' : Parser ExprTree} {E U : Text ExprTree} {b b' : Parser
    (List StmtTree)} {B V : Text (List StmtTree)} → Parts u e e' E U b b' B V →
    Limit u goes_on (R.task public e b) (R.task public e' b') (D.task public E B) (D.task public U V)
    (is k.Task) never
unfolding R.task
limited_task {u} public {e} {e'} {E} {U} {b} {b'} {B} {V} x =
    limited_made (D.task_of public) (limited_after_word k.Task refl (limited_then (never_apart
    (is k.LeftBracket)) good_id
    (limited_then (never_apart (is k.LeftBrace)) good_worst (limited_task_body x))))

limited_public : {u : Word → Bool} {e e' : Parser ExprTree} {E U : Text ExprTree} {b b' : Parser
    (List StmtTree)} {B V : Text (List StmtTree)} → Parts u e e' E U b b' B V →
    Limit u goes_on (R.public_decl e b) (R.public_decl e' b') (public_text E B) (public_text U V) (is k.Public)
    (any never never)
unfolding R.public_decl
limited_public {u} {e} {e'} {E} {U} {b} {b'} {B} {V} x =
    limited_after_word k.Public refl (limited_either (apart _ _ (λ w. refl) (λ w. refl) refl)
    (limited_same u goes_on (good_const true)) (limited_task true x))

limited_decl : {u : Word → Bool} {e e' : Parser ExprTree} {E U : Text ExprTree} {b b' : Parser
    (List StmtTree)} {B V : Text (List StmtTree)} → Parts u e e' E U b b' B V →
    Limit u goes_on (R.decl e b) (R.decl e' b') (D.decl E B) (D.decl U V) begins_decl never
unfolding R.decl begins_decl
limited_decl {u} {e} {e'} {E} {U} {b} {b'} {B} {V} x =
    limited_widen (within _ _ (λ w. refl) (λ w. refl) refl) (within _ _ (λ w. refl) (λ w. refl) refl)
    (limited_either (apart _ _ (λ w. refl) (λ w. refl) refl) (limited_public x)
    (limited_either (apart _ _ (λ w. refl) (λ w. refl) refl) (limited_same u goes_on (good_const false))
    (limited_either (apart _ _ (λ w. refl) (λ w. refl) refl) (limited_task false x)
    (limited_either (apart _ _ (λ w. refl) (λ w. refl) refl) (limited_same u goes_on good_sensor)
    (limited_either (apart _ _ (λ w. refl) (λ w. refl) refl) (limited_same u goes_on good_actuator)
    (limited_either (apart _ _ (λ w. refl) (λ w. refl) refl) (limited_after_word k.Start refl
    (limited_mode true e e' x.L x.L' E U x.good_e x.expr))
    (limited_mode false e e' x.L x.L' E U x.good_e x.expr)))))))

-- sources
limited_source : {u : Word → Bool} {e e' : Parser ExprTree} {E U : Text ExprTree} {b b' : Parser
    (List StmtTree)} {B V : Text (List StmtTree)} → Parts u e e' E U b b' B V →
    Limit u goes_on (R.source e b) (R.source e' b') (D.source E B) (D.source U V) (is k.Module) never
unfolding R.source R.declarations begins_decl goes_on is_comparison is_sum_sign is_product_sign
limited_source {u} {e} {e'} {E} {U} {b} {b'} {B} {V} x =
    limited_made D.tree_of (limited_after_word k.Module refl (limited_then (never_apart (is k.LeftBrace)) good_id
    (limited_after_word k.LeftBrace refl
    (limited_before (apart _ _ (λ w. refl) (λ w. refl) refl) (apart _ _ (λ w. refl) (λ w. refl) refl)
    (nullable_same u goes_on (nullable_many R.import_name import_text import_text (is k.Import) never (never_apart
    (is k.Import)) good_import))
    (limited_all_before k.RightBrace refl (never_apart begins_decl) (apart _ _ (λ w. refl) (λ w. refl) refl)
    (apart _ _ (λ w. refl) (λ w. refl) refl) (apart _ _ (λ w. refl) (λ w. refl) refl)
    (shrinks (R.decl e b) _ _ begins_decl never (good_decl e x.L x.L' x.good_e b x.K x.K' x.good_b))
    (limited_decl x))))))

-- the parser with its limits beside the one without, with any limits
limited_limits : (d : ℕ) (e : Parser ExprTree) (L E : Text ExprTree) → Good e L AnyExpr begins_expr goes_on →
    Limit is_written goes_on e any_expr E AnyExpr begins_expr goes_on →
    Limit is_written goes_on (R.source e (reading.block d e)) any_source (D.source E (block_written d E)) AnySource
    (is k.Module) never
limited_limits d e L E g x =
    limited_source (record {
      L = L;
      L' = AnyExpr;
      K = block d L;
      K' = block (suc d) AnyExpr;
      good_e = g;
      good_b = good_block e L AnyExpr g d;
      expr = x;
      blocks = limited_block e L AnyExpr E g x d;
    })

-- the parser with its limits beside the one without
pub limited_any : Limit is_written goes_on R.limited any_source Within AnySource (is k.Module) never
unfolding R.limited
limited_any = limited_limits NESTED_BLOCKS outermost _ outermost_written good_outermost (limited_expr is_written)
