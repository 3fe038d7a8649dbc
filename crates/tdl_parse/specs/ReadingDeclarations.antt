-- How declarations and a source are read.
use Rattle.std.specs.Prelude.{Bool, true, false, ◌||◌, List}
use Rattle.tdl_base.specs.declared.limits.TheConstants.{NESTED_BLOCKS}
use Rattle.tdl_grammar.specs.Parsing.{both, made, either, follow, many}
use Rattle.tdl_tree.specs.declared.words.Word.{Word}
use Rattle.tdl_tree.specs.declared.words.WordKind.TheVariants as k
use Rattle.tdl_tree.specs.declared.names.Id.{Id}
use Rattle.tdl_tree.specs.declared.names.Time.{Time}
use Rattle.tdl_tree.specs.declared.expressions.ExprTree.{ExprTree}
use Rattle.tdl_tree.specs.declared.statements.StmtTree.{StmtTree}
use Rattle.tdl_tree.specs.declared.declarations.Decl.{Decl}
use Rattle.tdl_tree.specs.declared.declarations.PortDecl.{PortDecl}
use Rattle.tdl_tree.specs.declared.declarations.Sort.TheVariants as sort
use Rattle.tdl_tree.specs.declared.declarations.Tree.{Tree}
use Rattle.tdl_tree.specs.Kinds.{is}
use Rattle.tdl_tree.specs.Declarations.{const_of, sensor_of, actuator_of, port_of, output_of, task_of, tree_of}
use Rattle.tdl_parse.specs.Reading.{Parser, after, before, all_before, id, literal, kind, time}
use Rattle.tdl_parse.specs.ReadingExpressions.{outermost}
use Rattle.tdl_parse.specs.ReadingStatements.{begins_stmt, stmt, block}
use Rattle.tdl_parse.specs.ReadingActivities.{mode}

unfoldable pub constant : Bool → Parser Decl
constant public =
    made (const_of public) (after k.Const (both kind (both id (after k.Equals (before k.Semicolon literal)))))

unfoldable pub sensor : Parser Decl
sensor =
    made sensor_of (after k.Sensor (both kind (before k.Semicolon (follow (is k.Uses) id (after k.Uses id)))))

unfoldable pub actuator : Parser Decl
actuator =
    made actuator_of
    (after k.Actuator
    (both kind
    (before k.Semicolon
    (follow (is k.Uses) (follow (is k.Becomes) id (after k.Becomes literal)) (after k.Uses id)))))

unfoldable pub input : Parser PortDecl
input = made (port_of sort.Input) (after k.Input (both kind (before k.Semicolon id)))

unfoldable pub output : Parser PortDecl
output =
    made output_of
    (after k.Output (both kind (before k.Semicolon (follow (is k.Becomes) id (after k.Becomes literal)))))

unfoldable pub local : Parser PortDecl
local = made (port_of sort.Local) (after k.Local (both kind (before k.Semicolon id)))

unfoldable pub port : Parser PortDecl
port = either (is k.Input) input (either (is k.Output) output local)

-- the words that begin a port
unfoldable pub begins_port : Word → Bool
begins_port word = is k.Input word || is k.Output word || is k.Local word

unfoldable pub worst : Parser Time
worst = after k.LeftBracket (after k.Wcet (after k.Equals (before k.RightBracket time)))

unfoldable pub task_body : Parser ExprTree → Parser (List StmtTree) → Parser (List PortDecl × List StmtTree)
task_body expr block =
    after k.LeftBrace (both (many begins_port port) (all_before begins_stmt k.RightBrace (stmt expr block)))

unfoldable pub task : Bool → Parser ExprTree → Parser (List StmtTree) → Parser Decl
task public expr block = made (task_of public) (after k.Task (both id (both worst (task_body expr block))))

-- the words that begin a declaration
unfoldable pub begins_decl : Word → Bool
begins_decl word =
    is k.Public word || is k.Const word || is k.Task word || is k.Sensor word || is k.Actuator word ||
    is k.Start word || is k.Mode word

unfoldable pub public_decl : Parser ExprTree → Parser (List StmtTree) → Parser Decl
public_decl expr block = after k.Public (either (is k.Const) (constant true) (task true expr block))

unfoldable pub decl : Parser ExprTree → Parser (List StmtTree) → Parser Decl
decl expr block =
    either (is k.Public) (public_decl expr block)
    (either (is k.Const) (constant false)
    (either (is k.Task) (task false expr block)
    (either (is k.Sensor) sensor
    (either (is k.Actuator) actuator
    (either (is k.Start) (after k.Start (mode true expr)) (mode false expr))))))

unfoldable pub import_name : Parser Id
import_name = after k.Import (before k.Semicolon id)

unfoldable pub declarations : Parser ExprTree → Parser (List StmtTree) → Parser (List Decl)
declarations expr block = all_before begins_decl k.RightBrace (decl expr block)

unfoldable pub source : Parser ExprTree → Parser (List StmtTree) → Parser Tree
source expr block =
    made tree_of
    (after k.Module
    (both id (after k.LeftBrace (both (many (is k.Import) import_name) (declarations expr block)))))

-- a source, with the limits of expressions and blocks
unfoldable pub limited : Parser Tree
limited = source outermost (block NESTED_BLOCKS outermost)
