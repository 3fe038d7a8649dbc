-- What is made of a tree, from what is made of its parts.
use Rattle.std.proofs.Common.{◌≡◌, ℕ, List, [], Some, None, map, unwrap_or, ap, ap₂, sym, ◌∙◌}
use Rattle.tdl_base.specs.declared.arithmetic.BinOp.{BinOp}
use Rattle.tdl_base.specs.declared.arithmetic.UnOp.{UnOp}
use Rattle.tdl_body.specs.declared.tree.Body.{Body}
use Rattle.tdl_body.specs.declared.tree.Expr.{Expr}
use Rattle.tdl_body.specs.declared.tree.Expr.TheVariants as expr
use Rattle.tdl_body.specs.declared.tree.Stmt.{Stmt}
use Rattle.tdl_body.specs.declared.tree.Stmt.TheVariants as says
use Rattle.tdl_tree.specs.declared.expressions.ExprNode.{ExprNode}
use Rattle.tdl_tree.specs.declared.expressions.ExprNode.TheVariants as node
use Rattle.tdl_tree.specs.declared.expressions.ExprTree.{ExprTree}
use Rattle.tdl_tree.specs.declared.names.Id.{Id}
use Rattle.tdl_tree.specs.declared.names.Num.{Num}
use Rattle.tdl_tree.specs.declared.statements.StmtTree.{StmtTree}
use Rattle.tdl_tree.specs.declared.statements.StmtTree.TheVariants as stmt
use Rattle.tdl_rules.specs.Naming.{Scope}
use Rattle.tdl_program.specs.Bodies.{cell_named, block_of, statement_of}
use Rattle.tdl_program.specs.Expressions.{expression_of}
use Rattle.tdl_program.proofs.Equations.{expression_in, expression_of-roll}
use Rattle.tdl_program.proofs.StatementEquations.{expression_in-un, expression_in-bin, statement_of-assign, statement_of-if, statement_of-if_else, statement_of-repeat}

-- the expression of a tree is that of its node
pub of_node : (scope : Scope) (tree : ExprTree) → expression_of scope tree ≡ expression_in scope tree.node
unfolding denote.Hole.Carrier.roll
of_node scope tree = expression_of-roll scope (record { line = tree.line; col = tree.col; node = tree.node })

-- what a node says, where the node is known
pub made_of : (scope : Scope) (tree : ExprTree) (node : ExprNode) (made : Expr) → tree.node ≡ node →
    expression_in scope node ≡ made → made ≡ expression_of scope tree
made_of scope tree node made is says = sym (of_node scope tree ∙ ap (expression_in scope) is ∙ says)

-- an operator of one operand
pub made_un : (scope : Scope) (tree : ExprTree) (op : UnOp) (a got : ExprTree) (made boxed : Expr) →
    tree.node ≡ node.Un op a → got ≡ a → made ≡ expression_of scope got → boxed ≡ made →
    expr.Un op boxed ≡ expression_of scope tree
made_un scope tree op a got made boxed is same says put =
    ap (expr.Un op) (put ∙ says ∙ ap (expression_of scope) same)
    ∙ made_of scope tree (node.Un op a) _ is (expression_in-un scope op a)

-- an operator of two operands
pub made_bin : (scope : Scope) (tree : ExprTree) (op : BinOp) (a b got got' : ExprTree) (made made' boxed boxed' : Expr) →
    tree.node ≡ node.Bin op a b → got ≡ a → got' ≡ b → made ≡ expression_of scope got →
    made' ≡ expression_of scope got' → boxed ≡ made → boxed' ≡ made' → expr.Bin op boxed boxed' ≡ expression_of scope tree
made_bin scope tree op a b got got' made made' boxed boxed' is same same' says says' put put' =
    ap₂ (expr.Bin op) (put ∙ says ∙ ap (expression_of scope) same) (put' ∙ says' ∙ ap (expression_of scope) same')
    ∙ made_of scope tree (node.Bin op a b) _ is (expression_in-bin scope op a b)

-- ---- statements

-- what a statement gives, where it is known
made_as : (scope : Scope) (s known : StmtTree) (made : Stmt) → s ≡ known → statement_of scope known ≡ made →
    made ≡ statement_of scope s
made_as scope s known made is gives = sym (ap (statement_of scope) is ∙ gives)

-- a block, of the statements that are at hand
block_made : (scope : Scope) (statements got : List StmtTree) (made : Body) → got ≡ statements →
    made ≡ block_of (map (statement_of scope) got) → made ≡ block_of (map (statement_of scope) statements)
block_made scope statements got made same gives = gives ∙ ap (λ b. block_of (map (statement_of scope) b)) same

-- an assignment
pub made_assign : (scope : Scope) (s : StmtTree) (x : Id) (value : ExprTree) (cell : ℕ) (made : Expr) →
    s ≡ stmt.Assign x value → cell ≡ cell_named (unwrap_or scope.body []) x → made ≡ expression_of scope value →
    says.Assign cell made ≡ statement_of scope s
made_assign scope s x value cell made is here gives =
    ap₂ says.Assign here gives ∙ made_as scope s (stmt.Assign x value) _ is (statement_of-assign scope x value)

-- an `if` without `else`
pub made_if : (scope : Scope) (s : StmtTree) (test : ExprTree) (first got : List StmtTree) (made : Expr) (block : Body) →
    s ≡ stmt.If test first None → got ≡ first → made ≡ expression_of scope test →
    block ≡ block_of (map (statement_of scope) got) → says.If made block None ≡ statement_of scope s
made_if scope s test first got made block is same gives does =
    ap₂ (λ e b. says.If e b None) gives (block_made scope first got block same does)
    ∙ made_as scope s (stmt.If test first None) _ is (statement_of-if scope test first)

-- an `if` with `else`
pub made_if_else : (scope : Scope) (s : StmtTree) (test : ExprTree) (first second got got' : List StmtTree) (made : Expr)
    (block block' : Body) → s ≡ stmt.If test first (Some second) → got ≡ first → got' ≡ second →
    made ≡ expression_of scope test → block ≡ block_of (map (statement_of scope) got) →
    block' ≡ block_of (map (statement_of scope) got') → says.If made block (Some block') ≡ statement_of scope s
made_if_else scope s test first second got got' made block block' is same same' gives does does' =
    ap₂ (λ e b. says.If e b (Some block')) gives (block_made scope first got block same does)
    ∙ ap (λ b. says.If (expression_of scope test) (block_of (map (statement_of scope) first)) (Some b))
    (block_made scope second got' block' same' does')
    ∙ made_as scope s (stmt.If test first (Some second)) _ is (statement_of-if_else scope test first second)

-- a `repeat`
pub made_repeat : (scope : Scope) (s : StmtTree) (count : Num) (body got : List StmtTree) (times : ℕ) (block : Body) →
    s ≡ stmt.Repeat count body → times ≡ count.value → got ≡ body →
    block ≡ block_of (map (statement_of scope) got) → says.Repeat times block ≡ statement_of scope s
made_repeat scope s count body got times block is turns same does =
    ap₂ says.Repeat turns (block_made scope body got block same does)
    ∙ made_as scope s (stmt.Repeat count body) _ is (statement_of-repeat scope count body)
