-- How statements and blocks are read.
use Rattle.std.specs.Prelude.{ℕ, zero, suc, Bool, ◌||◌, List}
use Rattle.tdl_grammar.specs.Parsing.{both, made, either, follow, refuse}
use Rattle.tdl_tree.specs.declared.words.Word.{Word}
use Rattle.tdl_tree.specs.declared.words.WordKind.TheVariants as k
use Rattle.tdl_tree.specs.declared.expressions.ExprTree.{ExprTree}
use Rattle.tdl_tree.specs.declared.statements.StmtTree.{StmtTree}
use Rattle.tdl_tree.specs.Kinds.{is}
use Rattle.tdl_tree.specs.Statements.{assign_of, if_of, repeat_of}
use Rattle.tdl_parse.specs.Reading.{Parser, after, before, all_before, id, number}

-- the words that begin a statement
unfoldable pub begins_stmt : Word → Bool
begins_stmt word = is k.Name word || is k.If word || is k.Repeat word

unfoldable pub assign : Parser ExprTree → Parser StmtTree
assign expr = made assign_of (both id (after k.Becomes (before k.Semicolon expr)))

unfoldable pub if_stmt : Parser ExprTree → Parser (List StmtTree) → Parser StmtTree
if_stmt expr block = made if_of (after k.If (both expr (follow (is k.Else) block (after k.Else block))))

unfoldable pub repeat_stmt : Parser (List StmtTree) → Parser StmtTree
repeat_stmt block = made repeat_of (after k.Repeat (both number block))

unfoldable pub stmt : Parser ExprTree → Parser (List StmtTree) → Parser StmtTree
stmt expr block = either (is k.Name) (assign expr) (either (is k.If) (if_stmt expr block) (repeat_stmt block))

unfoldable pub block : ℕ → Parser ExprTree → Parser (List StmtTree)
block zero expr = refuse
block (suc n) expr = after k.LeftBrace (all_before begins_stmt k.RightBrace (stmt expr (block n expr)))
