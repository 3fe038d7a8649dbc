-- The bodies that those of the sources say.
use Rattle.std.specs.Prelude.{ℕ, List, [], map, Some, option_map, unwrap_or}
use Rattle.tdl_body.specs.declared.tree.Body.{Body}
use Rattle.tdl_body.specs.declared.tree.Stmt.{Stmt}
use Rattle.tdl_body.specs.declared.tree.Stmt.TheVariants as stmt
use Rattle.tdl_tree.specs.declared.declarations.PortDecl.{PortDecl}
use Rattle.tdl_tree.specs.declared.names.Id.{Id}
use Rattle.tdl_tree.specs.declared.statements.StmtTree.{StmtTree}
use Rattle.tdl_tree.specs.declared.statements.StmtTree.TheOpen.{StmtTree-F}
use Rattle.tdl_tree.specs.declared.statements.StmtTree.TheFolds.{fold-StmtTree}
use Rattle.tdl_rules.specs.Naming.{Scope, port_named}
use Rattle.tdl_program.specs.Ordinals.{cell_of}
use Rattle.tdl_program.specs.Expressions.{expression_of}

-- the cell of a port by its name; 0 where there is none
abbrev pub cell_named : List PortDecl → Id → ℕ
cell_named ports x = unwrap_or (option_map (λ port. cell_of ports port.0) (port_named ports x.text)) 0

-- a block of statements
abbrev pub block_of : List Stmt → Body
block_of statements = record { stmts = statements }

-- one statement, given those of its blocks
abbrev pub statement_step : Scope → StmtTree-F Stmt → Stmt
statement_step scope (StmtTree-F.Assign x value) =
    stmt.Assign (cell_named (unwrap_or scope.body []) x) (expression_of scope value)
statement_step scope (StmtTree-F.If cond then' other) =
    stmt.If (expression_of scope cond) (block_of then') (option_map block_of other)
statement_step scope (StmtTree-F.Repeat count body) = stmt.Repeat count.value (block_of body)

-- the statement that a tree says
unfoldable pub statement_of : Scope → StmtTree → Stmt
statement_of scope = fold-StmtTree Stmt (statement_step scope)

-- the body of a task that has these ports
abbrev pub body_of : Scope → List PortDecl → List StmtTree → Body
body_of scope ports statements = block_of (map (statement_of (record scope { body = Some ports })) statements)
