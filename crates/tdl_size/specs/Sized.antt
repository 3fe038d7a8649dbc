-- Trees within the limits of the grammar, whose declared names are identifiers.
use Rattle.std.specs.Prelude.{ℕ, ◌≤◌, IsTrue, All, List, map}
use Rattle.tdl_base.specs.declared.limits.TheConstants.{EXPRESSION_TOKENS, NESTED_BLOCKS}
use Rattle.tdl_scan.specs.Lexemes.{is_identifier}
use Rattle.tdl_body.specs.Bounds.{greatest}
use Rattle.tdl_tree.specs.declared.activities.Act.{Act}
use Rattle.tdl_tree.specs.declared.declarations.Decl.{Decl}
use Rattle.tdl_tree.specs.declared.declarations.Decl.TheVariants as decl
use Rattle.tdl_tree.specs.declared.declarations.Tree.{Tree}
use Rattle.tdl_tree.specs.declared.expressions.ExprTree.{ExprTree}
use Rattle.tdl_tree.specs.declared.statements.StmtTree.TheViews.{out-StmtTree}
use Rattle.tdl_tree.specs.declared.statements.StmtTree.{StmtTree}
use Rattle.tdl_rules.specs.Trees.{activity_expressions, body_statements, expressions_of}
use Rattle.tdl_size.specs.Sizes.{nodes, levels}

-- the text is an identifier
abbrev pub IsIdentifier : List ℕ → Type 0
IsIdentifier text = IsTrue (is_identifier text)

-- an expression has no more nodes than tokens are allowed to it
abbrev pub IsSmall : ExprTree → Type 0
IsSmall e = nodes e ≤ EXPRESSION_TOKENS

-- so has each outermost expression of a statement, those inside its blocks left out
abbrev pub IsSmallStatement : StmtTree → Type 0
IsSmallStatement statement = All IsSmall (expressions_of (out-StmtTree statement))

-- the statements of a body, however deep, and how deep they are
pub record IsSizedBody (body : List StmtTree) : Type 0 where
  pub statements : All IsSmallStatement (body_statements body)
  pub levels : greatest (map levels body) ≤ NESTED_BLOCKS

-- the outermost expressions of an activity
abbrev pub IsSmallActivity : Act → Type 0
IsSmallActivity activity = All IsSmall (activity_expressions activity)

-- a declaration
abbrev pub IsSizedDecl : Decl → Type 0
IsSizedDecl (decl.Const public kind name value) = IsIdentifier name.text
IsSizedDecl (decl.Sensor kind name) = IsIdentifier name.text
IsSizedDecl (decl.Actuator kind name initial) = IsIdentifier name.text
IsSizedDecl (decl.Task public name worst ports body) =
    IsIdentifier name.text × All (λ port. IsIdentifier port.name.text) ports × IsSizedBody body
IsSizedDecl (decl.Mode start name period acts) = IsIdentifier name.text × All IsSmallActivity acts

-- a source: its name, and what it declares
pub record IsSized (tree : Tree) : Type 0 where
  pub name : IsIdentifier tree.name.text
  pub decls : All IsSizedDecl tree.decls
