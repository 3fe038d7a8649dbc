-- Statements and blocks.
use Rattle.std.specs.Prelude.{ℕ, zero, suc, List, Option}
use Rattle.tdl_grammar.specs.Grammar.{both, made, either, optional, nowhere}
use Rattle.tdl_tree.specs.declared.words.WordKind.TheVariants as k
use Rattle.tdl_tree.specs.declared.names.Id.{Id}
use Rattle.tdl_tree.specs.declared.names.Num.{Num}
use Rattle.tdl_tree.specs.declared.expressions.ExprTree.{ExprTree}
use Rattle.tdl_tree.specs.declared.statements.StmtTree.{StmtTree}
use Rattle.tdl_tree.specs.declared.statements.StmtTree.TheVariants as stmts
use Rattle.tdl_tree.specs.Words.{Text, after, before, all_before}
use Rattle.tdl_tree.specs.Names.{id, number}

abbrev pub assign_of : Id × ExprTree → StmtTree
assign_of x = stmts.Assign x.0 x.1

abbrev pub if_of : ExprTree × (List StmtTree × Option (List StmtTree)) → StmtTree
if_of x = stmts.If x.0 x.1.0 x.1.1

abbrev pub repeat_of : Num × List StmtTree → StmtTree
repeat_of x = stmts.Repeat x.0 x.1

-- stmt = id ":=" expr ";" | "if" expr block [ "else" block ] | "repeat" number block, over the languages of expressions
-- and blocks
abbrev pub stmt : Text ExprTree → Text (List StmtTree) → Text StmtTree
stmt expr block =
    either (made assign_of (both id (after k.Becomes (before k.Semicolon expr))))
    (either (made if_of (after k.If (both expr (both block (optional (after k.Else block))))))
    (made repeat_of (after k.Repeat (both number block))))

-- block = "{" { stmt } "}", with at most n blocks inside one another
unfoldable pub block : ℕ → Text ExprTree → Text (List StmtTree)
block zero expr = nowhere
block (suc n) expr = after k.LeftBrace (all_before k.RightBrace (stmt expr (block n expr)))
