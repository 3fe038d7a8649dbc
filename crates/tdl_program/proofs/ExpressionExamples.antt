-- What names, operators and bodies of the two small sources say.
use Rattle.std.proofs.Common.{◌≡◌, pos, negsuc, [], ◌∷◌, Some, None, true, codes, ◌-◌, ◌^◌}
use Rattle.std.specs.Int.{int_wrap}
use Rattle.tdl_base.specs.declared.arithmetic.BinOp.TheVariants.{Sub}
use Rattle.tdl_base.specs.declared.arithmetic.UnOp.TheVariants.{Not}
use Rattle.tdl_base.specs.declared.numbers.Place.TheVariants.{Sensor, Port, Cell}
use Rattle.tdl_body.specs.declared.tree.Expr.TheVariants as expr
use Rattle.tdl_body.specs.declared.tree.Stmt.TheVariants as says
use Rattle.tdl_tree.specs.declared.statements.StmtTree.TheVariants as stmt
use Rattle.tdl_tree.specs.declared.expressions.ExprNode.TheVariants as node
use Rattle.tdl_program.specs.Examples.{named, number, name_tree, near_scope, mix_scope, mix_ports, mix_body, level, on}
use Rattle.tdl_program.specs.Bodies.{block_of, statement_of, body_of}
use Rattle.tdl_program.specs.Expressions.{expression_of}
use Rattle.tdl_program.proofs.Equations.{expression_in}
use Rattle.tdl_program.proofs.StatementEquations.{expression_in-number, expression_in-truth, expression_in-name, expression_in-un, expression_in-bin, statement_of-assign, statement_of-if, statement_of-if_else, statement_of-repeat}

-- the second sensor is sensor 1, though it is the fourth declaration
second_sensor : expression_in near_scope (node.Name (named (codes "on") ∷ [])) ≡ expr.Load (Sensor 1)
second_sensor = expression_in-name near_scope (named (codes "on") ∷ [])

-- a constant is its number
constant : expression_in near_scope (node.Name (named (codes "gain") ∷ [])) ≡ expr.Const (pos 9)
unfolding int_wrap
constant = expression_in-name near_scope (named (codes "gain") ∷ [])

-- so is a public one of an import
constant_of_import : expression_in near_scope (node.Name (named (codes "far") ∷ named (codes "top") ∷ [])) ≡
    expr.Const (pos 7)
unfolding int_wrap
constant_of_import = expression_in-name near_scope (named (codes "far") ∷ named (codes "top") ∷ [])

-- the second output of the module's only task
own : expression_in near_scope (node.Name (named (codes "mix") ∷ named (codes "p") ∷ [])) ≡
    expr.Load (Port (record { «module» = record { 0 = 1 }; task = record { 0 = 0 }; output = 1 }))
own = expression_in-name near_scope (named (codes "mix") ∷ named (codes "p") ∷ [])

-- the output of an import's task
of_import : expression_in near_scope (node.Name (named (codes "far") ∷ named (codes "feed") ∷ named (codes "o") ∷ [])) ≡
    expr.Load (Port (record { «module» = record { 0 = 0 }; task = record { 0 = 0 }; output = 0 }))
of_import = expression_in-name near_scope (named (codes "far") ∷ named (codes "feed") ∷ named (codes "o") ∷ [])

-- in the body the inputs come first, a and b
first_input : expression_in mix_scope (node.Name (named (codes "a") ∷ [])) ≡ expr.Load (Cell 0)
first_input = expression_in-name mix_scope (named (codes "a") ∷ [])

-- then the outputs, o and p
second_output : expression_in mix_scope (node.Name (named (codes "p") ∷ [])) ≡ expr.Load (Cell 3)
second_output = expression_in-name mix_scope (named (codes "p") ∷ [])

-- then the local, which is the first port of the source
only_local : expression_in mix_scope (node.Name (named (codes "l") ∷ [])) ≡ expr.Load (Cell 4)
only_local = expression_in-name mix_scope (named (codes "l") ∷ [])

-- ---- numbers and operators

-- one above the greatest of 64 bits is the least
wraps : expression_in near_scope (node.Number (number (2 ^ 63))) ≡ expr.Const (negsuc (2 ^ 63 - 1))
unfolding int_wrap
wraps = expression_in-number near_scope (number (2 ^ 63))

-- a truth value is 1
truth_is : expression_in near_scope (node.Truth true) ≡ expr.Const (pos 1)
truth_is = expression_in-truth near_scope true

-- an operator of one operand
not_on : expression_in near_scope (node.Un Not on) ≡ expr.Un Not (expression_of near_scope on)
not_on = expression_in-un near_scope Not on

-- the operands stay in their order
level_less : expression_in near_scope (node.Bin Sub level on) ≡
    expr.Bin Sub (expression_of near_scope level) (expression_of near_scope on)
level_less = expression_in-bin near_scope Sub level on

-- ---- a body

-- l is cell 4, p is 3, and o is 2
mix_says : body_of near_scope mix_ports mix_body ≡ block_of (
    says.Assign 4 (expression_of mix_scope (name_tree (named (codes "a") ∷ []))) ∷
    says.If (expression_of mix_scope (name_tree (named (codes "b") ∷ [])))
    (block_of (says.Assign 3 (expression_of mix_scope (name_tree (named (codes "l") ∷ []))) ∷ []))
    (Some (block_of (says.Assign 2 (expression_of mix_scope (name_tree (named (codes "a") ∷ []))) ∷ []))) ∷
    says.Repeat 3 (block_of (says.Assign 3 (expression_of mix_scope (name_tree (named (codes "a") ∷ []))) ∷ [])) ∷ [])
mix_says = simp (statement_of-if_else, statement_of-repeat, statement_of-assign)

-- without `else` there is no second block
no_else : statement_of mix_scope (stmt.If (name_tree (named (codes "b") ∷ [])) [] None) ≡
    says.If (expression_of mix_scope (name_tree (named (codes "b") ∷ []))) (block_of []) None
no_else = statement_of-if mix_scope (name_tree (named (codes "b") ∷ [])) []
