-- Declarations, and a source.
use Rattle.std.specs.Prelude.{Bool, true, false, List, Option, None}
use Rattle.tdl_base.specs.declared.kinds.Kind.{Kind}
use Rattle.tdl_grammar.specs.Grammar.{both, made, either, optional, many}
use Rattle.tdl_tree.specs.declared.words.WordKind.TheVariants as k
use Rattle.tdl_tree.specs.declared.names.Id.{Id}
use Rattle.tdl_tree.specs.declared.names.Lit.{Lit}
use Rattle.tdl_tree.specs.declared.names.Time.{Time}
use Rattle.tdl_tree.specs.declared.expressions.ExprTree.{ExprTree}
use Rattle.tdl_tree.specs.declared.statements.StmtTree.{StmtTree}
use Rattle.tdl_tree.specs.declared.declarations.Decl.{Decl}
use Rattle.tdl_tree.specs.declared.declarations.Decl.TheVariants as decls
use Rattle.tdl_tree.specs.declared.declarations.PortDecl.{PortDecl}
use Rattle.tdl_tree.specs.declared.declarations.Sort.{Sort}
use Rattle.tdl_tree.specs.declared.declarations.Sort.TheVariants as sort
use Rattle.tdl_tree.specs.declared.declarations.Tree.{Tree}
use Rattle.tdl_tree.specs.Words.{Text, after, before, all_before}
use Rattle.tdl_tree.specs.Names.{id, literal, kind, time}
use Rattle.tdl_tree.specs.Statements.{stmt}
use Rattle.tdl_tree.specs.Activities.{mode}

abbrev pub const_of : Bool → Kind × (Id × Lit) → Decl
const_of public x = decls.Const public x.0 x.1.0 x.1.1

-- const = "const" kind id "=" literal ";", after the `public`
abbrev pub const : Bool → Text Decl
const public =
    made (const_of public) (after k.Const (both kind (both id (after k.Equals (before k.Semicolon literal)))))

abbrev pub sensor_of : Kind × (Id × Option Id) → Decl
sensor_of x = decls.Sensor x.0 x.1.0

-- sensor = "sensor" kind id [ "uses" id ] ";"
abbrev pub sensor : Text Decl
sensor = made sensor_of (after k.Sensor (both kind (before k.Semicolon (both id (optional (after k.Uses id))))))

abbrev pub actuator_of : Kind × ((Id × Option Lit) × Option Id) → Decl
actuator_of x = decls.Actuator x.0 x.1.0.0 x.1.0.1

-- actuator = "actuator" kind id [ ":=" literal ] [ "uses" id ] ";"
abbrev pub actuator : Text Decl
actuator =
    made actuator_of
    (after k.Actuator
    (both kind
    (before k.Semicolon (both (both id (optional (after k.Becomes literal))) (optional (after k.Uses id))))))

-- a port with no literal
abbrev pub port_of : Sort → Kind × Id → PortDecl
port_of sort x = record { sort = sort; kind = x.0; name = x.1; initial = None }

-- an output
abbrev pub output_of : Kind × (Id × Option Lit) → PortDecl
output_of x = record { sort = sort.Output; kind = x.0; name = x.1.0; initial = x.1.1 }

-- port = "input" kind id ";" | "output" kind id [ ":=" literal ] ";" | "local" kind id ";"
abbrev pub port : Text PortDecl
port =
    either (made (port_of sort.Input) (after k.Input (both kind (before k.Semicolon id))))
    (either (made output_of
    (after k.Output (both kind (before k.Semicolon (both id (optional (after k.Becomes literal)))))))
    (made (port_of sort.Local) (after k.Local (both kind (before k.Semicolon id)))))

abbrev pub task_of : Bool → Id × (Time × (List PortDecl × List StmtTree)) → Decl
task_of public x = decls.Task public x.0 x.1.0 x.1.1.0 x.1.1.1

-- task = "task" id "[" "wcet" "=" time "]" "{" { port } { stmt } "}", after the `public`
abbrev pub task : Bool → Text ExprTree → Text (List StmtTree) → Text Decl
task public expr block =
    made (task_of public)
    (after k.Task
    (both id
    (both (after k.LeftBracket (after k.Wcet (after k.Equals (before k.RightBracket time))))
    (after k.LeftBrace (both (many port) (all_before k.RightBrace (stmt expr block)))))))

-- decl = [ "public" ] const | [ "public" ] task | sensor | actuator | mode
abbrev pub decl : Text ExprTree → Text (List StmtTree) → Text Decl
decl expr block =
    either (after k.Public (either (const true) (task true expr block)))
    (either (const false)
    (either (task false expr block)
    (either sensor
    (either actuator
    (either (after k.Start (mode true expr)) (mode false expr))))))

abbrev pub tree_of : Id × (List Id × List Decl) → Tree
tree_of x = record { name = x.0; imports = x.1.0; decls = x.1.1 }

-- source = "module" id "{" { "import" id ";" } { decl } "}", over the languages of outermost expressions and of blocks
abbrev pub source : Text ExprTree → Text (List StmtTree) → Text Tree
source expr block =
    made tree_of
    (after k.Module
    (both id
    (after k.LeftBrace
    (both (many (after k.Import (before k.Semicolon id))) (all_before k.RightBrace (decl expr block))))))
