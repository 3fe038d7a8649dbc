-- Declarations and sources are read well.
use Rattle.std.proofs.Common.{Bool, true, false, List, Option, refl}
use Rattle.tdl_grammar.specs.Grammar as G
use Rattle.tdl_grammar.specs.Parsing.{both, either, maybe, follow, many}
use Rattle.tdl_grammar.specs.Goodness.{Good, never, any}
use Rattle.tdl_grammar.proofs.Goods.{good_both, good_after, good_before, good_made, good_either, good_widen, nullable_maybe}
use Rattle.tdl_grammar.proofs.Many.{nullable_many}
use Rattle.tdl_tree.specs.declared.words.WordKind.TheVariants as k
use Rattle.tdl_tree.specs.declared.names.Id.{Id}
use Rattle.tdl_tree.specs.declared.names.Lit.{Lit}
use Rattle.tdl_tree.specs.declared.names.Time.{Time}
use Rattle.tdl_tree.specs.declared.expressions.ExprTree.{ExprTree}
use Rattle.tdl_tree.specs.declared.statements.StmtTree.{StmtTree}
use Rattle.tdl_tree.specs.declared.declarations.Decl.{Decl}
use Rattle.tdl_tree.specs.declared.declarations.PortDecl.{PortDecl}
use Rattle.tdl_tree.specs.declared.declarations.Sort.TheVariants as sort
use Rattle.tdl_tree.specs.Kinds.{is}
use Rattle.tdl_tree.specs.Words as W
use Rattle.tdl_tree.specs.Words.{Text}
use Rattle.tdl_tree.specs.Names as N
use Rattle.tdl_tree.specs.Statements as S
use Rattle.tdl_tree.specs.Activities as A
use Rattle.tdl_tree.specs.Declarations as D
use Rattle.tdl_parse.specs.Reading.{Parser, after, before, all_before, id, literal, kind, time}
use Rattle.tdl_parse.specs.ReadingExpressions.{goes_on}
use Rattle.tdl_parse.specs.ReadingStatements.{begins_stmt, stmt}
use Rattle.tdl_parse.specs.ReadingActivities.{mode}
use Rattle.tdl_parse.specs.ReadingDeclarations as R
use Rattle.tdl_parse.specs.ReadingDeclarations.{begins_port, begins_decl}
use Rattle.tdl_parse.proofs.WordTests.{apart, within}
use Rattle.tdl_parse.proofs.GoodWords as words
use Rattle.tdl_parse.proofs.GoodWords.{never_apart}
use Rattle.tdl_parse.proofs.GoodNames.{begins_kind, begins_literal, good_id, good_time, good_literal, good_kind}
use Rattle.tdl_parse.proofs.GoodExpressions.{begins_expr}
use Rattle.tdl_parse.proofs.GoodStatements.{good_stmt}
use Rattle.tdl_parse.proofs.GoodActivities.{good_mode}

pub good_const : (public : Bool) → Good (R.constant public) (D.const public) (D.const public) (is k.Const) never
unfolding R.constant
good_const public =
    good_made (D.const_of public) (after k.Const (both kind (both id (after k.Equals
    (before k.Semicolon literal))))) _ _ (is k.Const) never
    (words.good_after k.Const refl (both kind (both id (after k.Equals
    (before k.Semicolon literal)))) _ _ begins_kind never
    (good_both kind (both id (after k.Equals (before k.Semicolon literal))) N.kind N.kind _ _ begins_kind never
    (is k.Name) never (never_apart (is k.Name)) good_kind
    (good_both id (after k.Equals (before k.Semicolon literal)) N.id N.id _ _ (is k.Name) never (is k.Equals) never
    (never_apart (is k.Equals)) good_id
    (words.good_after k.Equals refl (before k.Semicolon literal) _ _ begins_literal never
    (words.good_before_word k.Semicolon refl literal N.literal N.literal begins_literal never (never_apart
    (is k.Semicolon)) good_literal)))))

pub good_sensor : Good R.sensor D.sensor D.sensor (is k.Sensor) never
unfolding R.sensor
good_sensor =
    good_made D.sensor_of (after k.Sensor (both kind (before k.Semicolon (follow (is k.Uses) id
    (after k.Uses id))))) _ _ (is k.Sensor) never
    (words.good_after k.Sensor refl (both kind (before k.Semicolon (follow (is k.Uses) id
    (after k.Uses id)))) _ _ begins_kind never
    (good_both kind (before k.Semicolon (follow (is k.Uses) id
    (after k.Uses id))) N.kind N.kind _ _ begins_kind never (is k.Name) never (never_apart (is k.Name)) good_kind
    (words.good_before_word k.Semicolon refl (follow (is k.Uses) id (after k.Uses id)) _ _ (is k.Name) (any never
    (any (is k.Uses) never)) (apart _ _ (λ w. refl) (λ w. refl) refl)
    (good_after id (maybe (is k.Uses) (after k.Uses id)) N.id N.id _ _ (is k.Name) never (is k.Uses) _ (never_apart
    (is k.Uses)) good_id
    (nullable_maybe (after k.Uses id) _ _ (is k.Uses) never (words.good_after k.Uses refl id N.id N.id
    (is k.Name) never good_id))))))

-- a name with a literal if one is written
abbrev pub initial : Parser (Id × Option Lit)
initial = follow (is k.Becomes) id (after k.Becomes literal)

abbrev pub initial_text : Text (Id × Option Lit)
initial_text = G.both N.id (G.optional (W.after k.Becomes N.literal))

good_initial : Good initial initial_text initial_text (is k.Name) (any never (any (is k.Becomes) never))
good_initial =
    good_after id (maybe (is k.Becomes) (after k.Becomes literal)) N.id N.id _ _ (is k.Name) never (is k.Becomes) _
    (never_apart (is k.Becomes)) good_id
    (nullable_maybe (after k.Becomes literal) _ _ (is k.Becomes) never
    (words.good_after k.Becomes refl literal N.literal N.literal begins_literal never good_literal))

pub good_actuator : Good R.actuator D.actuator D.actuator (is k.Actuator) never
unfolding R.actuator
good_actuator =
    good_made D.actuator_of (after k.Actuator (both kind (before k.Semicolon (follow (is k.Uses) initial
    (after k.Uses id))))) _ _ (is k.Actuator) never
    (words.good_after k.Actuator refl (both kind (before k.Semicolon (follow (is k.Uses) initial
    (after k.Uses id)))) _ _ begins_kind never
    (good_both kind (before k.Semicolon (follow (is k.Uses) initial
    (after k.Uses id))) N.kind N.kind _ _ begins_kind never (is k.Name) never (never_apart (is k.Name)) good_kind
    (words.good_before_word k.Semicolon refl (follow (is k.Uses) initial (after k.Uses id)) _ _ (is k.Name) (any
    (any never (any (is k.Becomes) never)) (any (is k.Uses) never)) (apart _ _ (λ w. refl) (λ w. refl) refl)
    (good_after initial (maybe (is k.Uses) (after k.Uses id)) initial_text initial_text _ _ (is k.Name) (any never
    (any (is k.Becomes) never)) (is k.Uses) _ (apart _ _ (λ w. refl) (λ w. refl) refl) good_initial
    (nullable_maybe (after k.Uses id) _ _ (is k.Uses) never (words.good_after k.Uses refl id N.id N.id
    (is k.Name) never good_id))))))

abbrev pub input_text : Text PortDecl
input_text = G.made (D.port_of sort.Input) (W.after k.Input (G.both N.kind (W.before k.Semicolon N.id)))

good_input : Good R.input input_text input_text (is k.Input) never
unfolding R.input
good_input =
    good_made (D.port_of sort.Input) (after k.Input (both kind (before k.Semicolon id))) _ _ (is k.Input) never
    (words.good_after k.Input refl (both kind (before k.Semicolon id)) _ _ begins_kind never
    (good_both kind (before k.Semicolon id) N.kind N.kind _ _ begins_kind never (is k.Name) never (never_apart
    (is k.Name)) good_kind
    (words.good_before_word k.Semicolon refl id N.id N.id (is k.Name) never (never_apart (is k.Semicolon)) good_id)))

abbrev pub local_text : Text PortDecl
local_text = G.made (D.port_of sort.Local) (W.after k.Local (G.both N.kind (W.before k.Semicolon N.id)))

good_local : Good R.local local_text local_text (is k.Local) never
unfolding R.local
good_local =
    good_made (D.port_of sort.Local) (after k.Local (both kind (before k.Semicolon id))) _ _ (is k.Local) never
    (words.good_after k.Local refl (both kind (before k.Semicolon id)) _ _ begins_kind never
    (good_both kind (before k.Semicolon id) N.kind N.kind _ _ begins_kind never (is k.Name) never (never_apart
    (is k.Name)) good_kind
    (words.good_before_word k.Semicolon refl id N.id N.id (is k.Name) never (never_apart (is k.Semicolon)) good_id)))

abbrev pub output_text : Text PortDecl
output_text = G.made D.output_of (W.after k.Output (G.both N.kind (W.before k.Semicolon initial_text)))

good_output : Good R.output output_text output_text (is k.Output) never
unfolding R.output
good_output =
    good_made D.output_of (after k.Output (both kind (before k.Semicolon initial))) _ _ (is k.Output) never
    (words.good_after k.Output refl (both kind (before k.Semicolon initial)) _ _ begins_kind never
    (good_both kind (before k.Semicolon initial) N.kind N.kind _ _ begins_kind never (is k.Name) never (never_apart
    (is k.Name)) good_kind
    (words.good_before_word k.Semicolon refl initial initial_text initial_text (is k.Name) (any never (any
    (is k.Becomes) never)) (apart _ _ (λ w. refl) (λ w. refl) refl) good_initial)))

pub good_port : Good R.port D.port D.port begins_port never
unfolding R.port begins_port
good_port =
    good_widen _ _ _ (any (is k.Input) (any (is k.Output) (is k.Local))) (any never
    (any never never)) begins_port never (within _ _ (λ w. refl) (λ w. refl) refl) (within _ _ (λ w. refl)
    (λ w. refl) refl)
    (good_either R.input _ input_text input_text _ _ (is k.Input) never _ _ (apart _ _ (λ w. refl)
    (λ w. refl) refl) good_input
    (good_either R.output R.local output_text output_text local_text local_text (is k.Output) never
    (is k.Local) never (apart _ _ (λ w. refl) (λ w. refl) refl) good_output good_local))

abbrev pub worst_text : Text Time
worst_text = W.after k.LeftBracket (W.after k.Wcet (W.after k.Equals (W.before k.RightBracket N.time)))

pub good_worst : Good R.worst worst_text worst_text (is k.LeftBracket) never
unfolding R.worst
good_worst =
    words.good_after k.LeftBracket refl (after k.Wcet (after k.Equals (before k.RightBracket time))) _ _
    (is k.Wcet) never
    (words.good_after k.Wcet refl (after k.Equals (before k.RightBracket time)) _ _ (is k.Equals) never
    (words.good_after k.Equals refl (before k.RightBracket time) _ _ (is k.Number) never
    (words.good_before_word k.RightBracket refl time N.time N.time (is k.Number) never (never_apart
    (is k.RightBracket)) good_time)))

abbrev pub task_body_text : Text ExprTree → Text (List StmtTree) → Text (List PortDecl × List StmtTree)
task_body_text E B = W.after k.LeftBrace (G.both (G.many D.port) (W.all_before k.RightBrace (S.stmt E B)))

good_task_body : (e : Parser ExprTree) (E E' : Text ExprTree) → Good e E E' begins_expr goes_on →
    (b : Parser (List StmtTree)) (B B' : Text (List StmtTree)) → Good b B B' (is k.LeftBrace) never →
    Good (R.task_body e b) (task_body_text E B) (task_body_text E' B') (is k.LeftBrace) never
unfolding R.task_body begins_stmt begins_port
good_task_body e E E' x b B B' y =
    words.good_after k.LeftBrace refl (both (many begins_port R.port) (all_before begins_stmt k.RightBrace
    (stmt e b))) _ _ (any begins_port (any begins_stmt (is k.RightBrace))) never
    (good_before (many begins_port R.port) (all_before begins_stmt k.RightBrace (stmt e b)) (G.many D.port)
    (G.many D.port) _ _ begins_port (any begins_port never) (any begins_stmt (is k.RightBrace)) never (apart _ _
    (λ w. refl) (λ w. refl) refl)
    (nullable_many R.port D.port D.port begins_port never (never_apart begins_port) good_port)
    (words.good_all_before k.RightBrace refl (stmt e b) (S.stmt E B) (S.stmt E' B') begins_stmt (is k.Else)
    (apart _ _ (λ w. refl) (λ w. refl) refl) (apart _ _ (λ w. refl) (λ w. refl) refl)
    (good_stmt e E E' x b B B' y)))

pub good_task : (public : Bool) (e : Parser ExprTree) (E E' : Text ExprTree) → Good e E E' begins_expr goes_on →
    (b : Parser (List StmtTree)) (B B' : Text (List StmtTree)) → Good b B B' (is k.LeftBrace) never →
    Good (R.task public e b) (D.task public E B) (D.task public E' B') (is k.Task) never
unfolding R.task
good_task public e E E' x b B B' y =
    good_made (D.task_of public) (after k.Task (both id (both R.worst (R.task_body e b)))) _ _ (is k.Task) never
    (words.good_after k.Task refl (both id (both R.worst (R.task_body e b))) _ _ (is k.Name) never
    (good_both id (both R.worst (R.task_body e b)) N.id N.id _ _ (is k.Name) never (is k.LeftBracket) never
    (never_apart (is k.LeftBracket)) good_id
    (good_both R.worst (R.task_body e b) worst_text worst_text (task_body_text E B) (task_body_text E' B')
    (is k.LeftBracket) never (is k.LeftBrace) never (never_apart (is k.LeftBrace))
    good_worst (good_task_body e E E' x b B B' y))))

abbrev pub public_text : Text ExprTree → Text (List StmtTree) → Text Decl
public_text E B = W.after k.Public (G.either (D.const true) (D.task true E B))

good_public : (e : Parser ExprTree) (E E' : Text ExprTree) → Good e E E' begins_expr goes_on →
    (b : Parser (List StmtTree)) (B B' : Text (List StmtTree)) → Good b B B' (is k.LeftBrace) never →
    Good (R.public_decl e b) (public_text E B) (public_text E' B') (is k.Public) (any never never)
unfolding R.public_decl
good_public e E E' x b B B' y =
    words.good_after k.Public refl (either (is k.Const) (R.constant true) (R.task true e b)) _ _ (any (is k.Const)
    (is k.Task)) _
    (good_either (R.constant true) (R.task true e b) (D.const true) (D.const true) (D.task true E B)
    (D.task true E' B') (is k.Const) never (is k.Task) never (apart _ _ (λ w. refl) (λ w. refl) refl)
    (good_const true) (good_task true e E E' x b B B' y))

-- declarations, over expressions and blocks
pub good_decl : (e : Parser ExprTree) (E E' : Text ExprTree) → Good e E E' begins_expr goes_on →
    (b : Parser (List StmtTree)) (B B' : Text (List StmtTree)) → Good b B B' (is k.LeftBrace) never →
    Good (R.decl e b) (D.decl E B) (D.decl E' B') begins_decl never
unfolding R.decl begins_decl
good_decl e E E' x b B B' y =
    good_widen _ _ _ (any (is k.Public) (any (is k.Const) (any (is k.Task) (any (is k.Sensor) (any (is k.Actuator)
    (any (is k.Start) (is k.Mode)))))))
    (any (any never never) (any never (any never (any never (any never (any never never)))))) begins_decl never
    (within _ _ (λ w. refl) (λ w. refl) refl) (within _ _ (λ w. refl) (λ w. refl) refl)
    (good_either (R.public_decl e b) _ (public_text E B) (public_text E' B') _ _ (is k.Public) (any never never) _ _
    (apart _ _ (λ w. refl) (λ w. refl) refl) (good_public e E E' x b B B' y)
    (good_either (R.constant false) _ (D.const false) (D.const false) _ _ (is k.Const) never _ _ (apart _ _
    (λ w. refl) (λ w. refl) refl) (good_const false)
    (good_either (R.task false e b) _ (D.task false E B) (D.task false E' B') _ _ (is k.Task) never _ _ (apart _ _
    (λ w. refl) (λ w. refl) refl) (good_task false e E E' x b B B' y)
    (good_either R.sensor _ D.sensor D.sensor _ _ (is k.Sensor) never _ _ (apart _ _ (λ w. refl)
    (λ w. refl) refl) good_sensor
    (good_either R.actuator _ D.actuator D.actuator _ _ (is k.Actuator) never _ _ (apart _ _ (λ w. refl)
    (λ w. refl) refl) good_actuator
    (good_either (after k.Start (mode true e)) (mode false e) _ _ (A.mode false E) (A.mode false E')
    (is k.Start) never (is k.Mode) never (apart _ _ (λ w. refl) (λ w. refl) refl)
    (words.good_after k.Start refl (mode true e) (A.mode true E) (A.mode true E') (is k.Mode) never
    (good_mode true e E E' x))
    (good_mode false e E E' x)))))))

abbrev pub import_text : Text Id
import_text = W.after k.Import (W.before k.Semicolon N.id)

pub good_import : Good R.import_name import_text import_text (is k.Import) never
unfolding R.import_name
good_import =
    words.good_after k.Import refl (before k.Semicolon id) _ _ (is k.Name) never
    (words.good_before_word k.Semicolon refl id N.id N.id (is k.Name) never (never_apart (is k.Semicolon)) good_id)

-- a source, over expressions and blocks
pub good_source : (e : Parser ExprTree) (E E' : Text ExprTree) → Good e E E' begins_expr goes_on →
    (b : Parser (List StmtTree)) (B B' : Text (List StmtTree)) → Good b B B' (is k.LeftBrace) never →
    Good (R.source e b) (D.source E B) (D.source E' B') (is k.Module) never
unfolding R.source R.declarations begins_decl
good_source e E E' x b B B' y =
    good_made D.tree_of (after k.Module (both id (after k.LeftBrace (both (many (is k.Import) R.import_name)
    (R.declarations e b))))) _ _ (is k.Module) never
    (words.good_after k.Module refl (both id (after k.LeftBrace (both (many (is k.Import) R.import_name)
    (R.declarations e b)))) _ _ (is k.Name) never
    (good_both id (after k.LeftBrace (both (many (is k.Import) R.import_name) (R.declarations e b))) N.id N.id _ _
    (is k.Name) never (is k.LeftBrace) never (never_apart (is k.LeftBrace)) good_id
    (words.good_after k.LeftBrace refl (both (many (is k.Import) R.import_name) (R.declarations e b)) _ _ (any
    (is k.Import) (any begins_decl (is k.RightBrace))) never
    (good_before (many (is k.Import) R.import_name) (R.declarations e b) (G.many import_text)
    (G.many import_text) _ _ (is k.Import) (any (is k.Import) never) (any begins_decl (is k.RightBrace)) never
    (apart _ _ (λ w. refl) (λ w. refl) refl)
    (nullable_many R.import_name import_text import_text (is k.Import) never (never_apart (is k.Import)) good_import)
    (words.good_all_before k.RightBrace refl (R.decl e b) (D.decl E B) (D.decl E' B') begins_decl never
    (never_apart begins_decl) (apart _ _ (λ w. refl) (λ w. refl) refl) (good_decl e E E' x b B B' y))))))
