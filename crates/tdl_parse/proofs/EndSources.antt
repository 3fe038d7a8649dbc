-- Sources that end too early go on by words that are not written.
use Rattle.std.proofs.Common.{arith, ℕ, zero, suc, Bool, true, false, List, [], ◌∷◌, refl}
use Rattle.tdl_base.specs.declared.limits.TheConstants.{NESTED_BLOCKS}
use Rattle.tdl_grammar.proofs.Ending.{Rest, ends_both, ends_made, ends_either, ends_maybe, ends_refuse}
use Rattle.tdl_grammar.proofs.EndingMany.{ends_many, ends_separated}
use Rattle.tdl_tree.specs.declared.words.WordKind.TheVariants as k
use Rattle.tdl_tree.specs.declared.expressions.ExprTree.{ExprTree}
use Rattle.tdl_tree.specs.declared.statements.StmtTree.{StmtTree}
use Rattle.tdl_tree.specs.declared.activities.ActKind.TheVariants as acts
use Rattle.tdl_tree.specs.declared.declarations.Sort.TheVariants as sort
use Rattle.tdl_tree.specs.Kinds.{is}
use Rattle.tdl_tree.specs.Words.{Text}
use Rattle.tdl_tree.specs.Statements as S
use Rattle.tdl_tree.specs.Activities as A
use Rattle.tdl_tree.specs.Declarations as D
use Rattle.tdl_tree.specs.Faults.{is_written, block_written, Within}
use Rattle.tdl_parse.specs.Reading.{Parser}
use Rattle.tdl_parse.specs.ReadingStatements as T
use Rattle.tdl_parse.specs.ReadingStatements.{begins_stmt}
use Rattle.tdl_parse.specs.ReadingActivities as V
use Rattle.tdl_parse.specs.ReadingActivities.{begins_act}
use Rattle.tdl_parse.specs.ReadingDeclarations as R
use Rattle.tdl_parse.specs.ReadingDeclarations.{begins_decl}
use Rattle.tdl_parse.proofs.WordTests.{word_of}
use Rattle.tdl_parse.proofs.GoodActivities.{slots_text, period_text}
use Rattle.tdl_parse.proofs.GoodDeclarations.{initial, initial_text, worst_text, task_body_text}
use Rattle.tdl_parse.proofs.EndNames.{EndsWell, ends_word, ends_says, ends_after, ends_before, ends_all_before, ends_id, ends_number, ends_time, ends_literal, ends_kind}
use Rattle.tdl_parse.proofs.EndExpressions.{ends_outermost}

-- ---- statements and blocks

ends_stmt : {e : Parser ExprTree} {E : Text ExprTree} → EndsWell e E →
    {b : Parser (List StmtTree)} {B : Text (List StmtTree)} → EndsWell b B → EndsWell (T.stmt e b) (S.stmt E B)
unfolding T.stmt T.assign T.if_stmt T.repeat_stmt
ends_stmt {e} {E} x {b} {B} y =
    ends_either (ends_made S.assign_of (ends_both ends_id (ends_after k.Becomes refl
    (ends_before k.Semicolon refl x))))
    (ends_either (ends_made S.if_of (ends_after k.If refl (ends_both x (ends_both y (ends_maybe
    (ends_after k.Else refl y))))))
    (ends_made S.repeat_of (ends_after k.Repeat refl (ends_both ends_number y))))

-- a block with no word that is written
empty_block : (E : Text ExprTree) → Rest is_written (block_written 0 E) []
unfolding block_written S.block
empty_block E = record {
  more = word_of k.LeftBrace ∷ word_of k.RightBrace ∷ [];
  tree = [];
  none = refl;
  text = (
    (
      1,
      (
        (word_of k.LeftBrace, []),
        (
          word_of k.LeftBrace ∷ [],
          word_of k.RightBrace ∷ [],
          (refl, refl),
          (
            (
              [],
              word_of k.RightBrace,
            ),
            ([], word_of k.RightBrace ∷ [], refl, (refl, refl), refl),
            refl,
          ),
          refl,
        ),
        refl,
      ),
    ),
    omega arith,
  );
}

ends_block : {e : Parser ExprTree} {E : Text ExprTree} → EndsWell e E → (n : ℕ) →
    EndsWell (T.block n e) (block_written n E)
unfolding T.block block_written
ends_block {e} {E} x zero = ends_refuse (empty_block E)
ends_block {e} {E} x (suc n) = ends_after k.LeftBrace refl (ends_all_before begins_stmt k.RightBrace refl
    (ends_stmt x (ends_block x n)))

-- ---- activities

ends_range : EndsWell V.range A.range
unfolding V.range
ends_range = ends_made A.slots_of (ends_both ends_number (ends_maybe (ends_after k.Minus refl ends_number)))

ends_slots : EndsWell V.slots slots_text
unfolding V.slots
ends_slots = ends_after k.Comma refl (ends_after k.Slots refl (ends_after k.Equals refl (ends_separated (is k.Comma)
    (word_of k.Comma) refl refl ends_range)))

ends_freq : EndsWell V.freq A.freq
unfolding V.freq
ends_freq =
    ends_made A.freq_of (ends_after k.LeftBracket refl (ends_after k.Freq refl (ends_after k.Equals refl
    (ends_before k.RightBracket refl (ends_both ends_number (ends_maybe ends_slots))))))

ends_arguments : {e : Parser ExprTree} {E : Text ExprTree} → EndsWell e E → EndsWell (V.arguments e) (A.arguments E)
unfolding V.arguments
ends_arguments {e} {E} x = ends_either (ends_says k.RightParenthesis refl []) (ends_before k.RightParenthesis refl
    (ends_separated (is k.Comma) (word_of k.Comma) refl refl x))

ends_deed : {e : Parser ExprTree} {E : Text ExprTree} → EndsWell e E → EndsWell (V.deed e) (A.deed E)
unfolding V.deed V.invocation V.update V.switch
ends_deed {e} {E} x =
    ends_either (ends_both (ends_word k.Task refl) (ends_both ends_freq (ends_made A.task_of (ends_both ends_id
    (ends_after k.LeftParenthesis refl (ends_arguments x))))))
    (ends_either (ends_both (ends_word k.Update refl) (ends_both ends_freq (ends_made A.update_of (ends_both ends_id
    (ends_after k.Becomes refl x)))))
    (ends_both (ends_word k.Switch refl) (ends_both ends_freq (ends_made acts.Switch
    (ends_after k.To refl ends_id)))))

ends_act : {e : Parser ExprTree} {E : Text ExprTree} → EndsWell e E → EndsWell (V.act e) (A.act E)
unfolding V.act
ends_act {e} {E} x = ends_made A.act_of (ends_before k.Semicolon refl (ends_both (ends_deed x) (ends_maybe
    (ends_after k.If refl x))))

ends_period : EndsWell V.period period_text
unfolding V.period
ends_period = ends_after k.LeftBracket refl (ends_after k.Period refl (ends_after k.Equals refl
    (ends_before k.RightBracket refl ends_time)))

ends_mode : (start : Bool) {e : Parser ExprTree} {E : Text ExprTree} → EndsWell e E →
    EndsWell (V.mode start e) (A.mode start E)
unfolding V.mode V.acts_of_mode
ends_mode start {e} {E} x =
    ends_made (A.mode_of start) (ends_after k.Mode refl (ends_both ends_id (ends_both ends_period
    (ends_after k.LeftBrace refl (ends_all_before begins_act k.RightBrace refl (ends_act x))))))

-- ---- declarations

ends_const : (public : Bool) → EndsWell (R.constant public) (D.const public)
unfolding R.constant
ends_const public = ends_made (D.const_of public) (ends_after k.Const refl (ends_both ends_kind (ends_both ends_id
    (ends_after k.Equals refl (ends_before k.Semicolon refl ends_literal)))))

ends_sensor : EndsWell R.sensor D.sensor
unfolding R.sensor
ends_sensor = ends_made D.sensor_of (ends_after k.Sensor refl (ends_both ends_kind (ends_before k.Semicolon refl
    (ends_both ends_id (ends_maybe (ends_after k.Uses refl ends_id))))))

ends_initial : EndsWell initial initial_text
ends_initial = ends_both ends_id (ends_maybe (ends_after k.Becomes refl ends_literal))

ends_actuator : EndsWell R.actuator D.actuator
unfolding R.actuator
ends_actuator = ends_made D.actuator_of (ends_after k.Actuator refl (ends_both ends_kind
    (ends_before k.Semicolon refl (ends_both ends_initial (ends_maybe (ends_after k.Uses refl ends_id))))))

ends_port : EndsWell R.port D.port
unfolding R.port R.input R.output R.local
ends_port =
    ends_either (ends_made (D.port_of sort.Input) (ends_after k.Input refl (ends_both ends_kind
    (ends_before k.Semicolon refl ends_id))))
    (ends_either (ends_made D.output_of (ends_after k.Output refl (ends_both ends_kind
    (ends_before k.Semicolon refl ends_initial))))
    (ends_made (D.port_of sort.Local) (ends_after k.Local refl (ends_both ends_kind
    (ends_before k.Semicolon refl ends_id)))))

ends_worst : EndsWell R.worst worst_text
unfolding R.worst
ends_worst = ends_after k.LeftBracket refl (ends_after k.Wcet refl (ends_after k.Equals refl
    (ends_before k.RightBracket refl ends_time)))

ends_task_body : {e : Parser ExprTree} {E : Text ExprTree} → EndsWell e E →
    {b : Parser (List StmtTree)} {B : Text (List StmtTree)} → EndsWell b B →
    EndsWell (R.task_body e b) (task_body_text E B)
unfolding R.task_body
ends_task_body {e} {E} x {b} {B} y = ends_after k.LeftBrace refl (ends_both (ends_many ends_port)
    (ends_all_before begins_stmt k.RightBrace refl (ends_stmt x y)))

ends_task : (public : Bool) {e : Parser ExprTree} {E : Text ExprTree} → EndsWell e E →
    {b : Parser (List StmtTree)} {B : Text (List StmtTree)} → EndsWell b B →
    EndsWell (R.task public e b) (D.task public E B)
unfolding R.task
ends_task public {e} {E} x {b} {B} y = ends_made (D.task_of public) (ends_after k.Task refl (ends_both ends_id
    (ends_both ends_worst (ends_task_body x y))))

ends_decl : {e : Parser ExprTree} {E : Text ExprTree} → EndsWell e E →
    {b : Parser (List StmtTree)} {B : Text (List StmtTree)} → EndsWell b B → EndsWell (R.decl e b) (D.decl E B)
unfolding R.decl R.public_decl
ends_decl {e} {E} x {b} {B} y =
    ends_either (ends_after k.Public refl (ends_either (ends_const true) (ends_task true x y)))
    (ends_either (ends_const false)
    (ends_either (ends_task false x y)
    (ends_either ends_sensor
    (ends_either ends_actuator
    (ends_either (ends_after k.Start refl (ends_mode true x)) (ends_mode false x))))))

-- ---- sources

ends_source : {e : Parser ExprTree} {E : Text ExprTree} → EndsWell e E →
    {b : Parser (List StmtTree)} {B : Text (List StmtTree)} → EndsWell b B → EndsWell (R.source e b) (D.source E B)
unfolding R.source R.declarations R.import_name
ends_source {e} {E} x {b} {B} y =
    ends_made D.tree_of (ends_after k.Module refl (ends_both ends_id (ends_after k.LeftBrace refl
    (ends_both (ends_many (ends_after k.Import refl (ends_before k.Semicolon refl ends_id)))
    (ends_all_before begins_decl k.RightBrace refl (ends_decl x y))))))

ends_limits : {e : Parser ExprTree} {E : Text ExprTree} → EndsWell e E → (n : ℕ) →
    EndsWell (R.source e (T.block n e)) (D.source E (block_written n E))
ends_limits {e} {E} x n = ends_source x (ends_block x n)

-- a source within the limits
pub ends_limited : EndsWell R.limited Within
unfolding R.limited
ends_limited = ends_limits ends_outermost NESTED_BLOCKS
