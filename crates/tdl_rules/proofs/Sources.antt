-- Words for small sources and their faults: what stands where. Places without a line are of line 1.
use Rattle.std.proofs.Common.{ℕ, Bool, true, false, List, [], ◌∷◌, Some, None, zero, suc, ◌+◌, codes}
use Rattle.tdl_base.specs.declared.arithmetic.BinOp.{BinOp}
use Rattle.tdl_base.specs.declared.arithmetic.UnOp.{UnOp}
use Rattle.tdl_base.specs.declared.arithmetic.UnOp.TheVariants as un
use Rattle.tdl_base.specs.declared.kinds.Kind.{Kind}
use Rattle.tdl_tree.specs.declared.activities.Act.{Act}
use Rattle.tdl_tree.specs.declared.activities.ActKind.{ActKind}
use Rattle.tdl_tree.specs.declared.activities.Slots.{Slots}
use Rattle.tdl_tree.specs.declared.declarations.Decl.{Decl}
use Rattle.tdl_tree.specs.declared.declarations.Decl.TheVariants as decl
use Rattle.tdl_tree.specs.declared.declarations.PortDecl.{PortDecl}
use Rattle.tdl_tree.specs.declared.declarations.Sort.{Sort}
use Rattle.tdl_tree.specs.declared.declarations.Tree.{Tree}
use Rattle.tdl_tree.specs.declared.expressions.ExprNode.TheVariants as node
use Rattle.tdl_tree.specs.declared.expressions.ExprTree.{ExprTree}
use Rattle.tdl_tree.specs.declared.names.Id.{Id}
use Rattle.tdl_tree.specs.declared.names.Lit.{Lit}
use Rattle.tdl_tree.specs.declared.names.LitValue.TheVariants as lit
use Rattle.tdl_tree.specs.declared.names.Num.{Num}
use Rattle.tdl_tree.specs.declared.names.Time.{Time}
use Rattle.tdl_tree.specs.declared.names.Unit.TheVariants as unit
use Rattle.tdl_tree.specs.declared.statements.StmtTree.{StmtTree}
use Rattle.tdl_rules.specs.declared.fault.Fault.{Fault}

-- ---- names and numbers

-- a name by its line, its column and its text
abbrev pub name_at : ℕ → ℕ → List ℕ → Id
name_at line col text = record { text = text; line = line; col = col }

-- a name of line 1
abbrev pub name : ℕ → List ℕ → Id
name = name_at 1

-- a number by its line, its column and its value
abbrev pub number_at : ℕ → ℕ → ℕ → Num
number_at line col value = record { value = value; line = line; col = col }

-- a number of line 1
abbrev pub number : ℕ → ℕ → Num
number = number_at 1

-- so many microseconds
abbrev pub us : Num → Time
us n = record { number = n; unit = unit.Us }

-- so many milliseconds
abbrev pub ms : Num → Time
ms n = record { number = n; unit = unit.Ms }

-- so many seconds
abbrev pub seconds : Num → Time
seconds n = record { number = n; unit = unit.S }

-- ---- literals

-- a number as a literal
abbrev pub literal : ℕ → ℕ → Lit
literal col value = record { line = 1; col = col; value = lit.Number false (number col value) }

-- a number after a minus sign as a literal
abbrev pub below_zero : ℕ → ℕ → Lit
below_zero col value = record { line = 1; col = col; value = lit.Number true (number (suc col) value) }

-- `true` or `false` as a literal
abbrev pub truth : ℕ → Bool → Lit
truth col b = record { line = 1; col = col; value = lit.Truth b }

-- ---- expressions

-- a number as an expression
abbrev pub value : ℕ → ℕ → ExprTree
value col n = record { line = 1; col = col; node = node.Number (number col n) }

-- `true` or `false` as an expression
abbrev pub truth_value : ℕ → Bool → ExprTree
truth_value col b = record { line = 1; col = col; node = node.Truth b }

-- a name of one part
abbrev pub reads : ℕ → List ℕ → ExprTree
reads col text = record { line = 1; col = col; node = node.Name (name col text ∷ []) }

-- a name of several parts
abbrev pub path : Id → List Id → ExprTree
path first more = record { line = first.line; col = first.col; node = node.Name (first ∷ more) }

-- an operator of one operand
abbrev pub unary : ℕ → UnOp → ExprTree → ExprTree
unary col op operand = record { line = 1; col = col; node = node.Un op operand }

-- so many minus signs before a number, the first at this column
abbrev pub minuses : ℕ → ℕ → ℕ → ExprTree
minuses zero col n = value col n
minuses (suc k) col n = unary col un.Neg (minuses k (suc col) n)

-- an operator of two operands, by the column of its first token
abbrev pub binary : ℕ → BinOp → ExprTree → ExprTree → ExprTree
binary col op left right = record { line = 1; col = col; node = node.Bin op left right }

-- ---- ports, activities and modules

-- a port without a literal
abbrev pub port : Sort → Kind → Id → PortDecl
port sort kind id = record { sort = sort; kind = kind; name = id; initial = None }

-- a port with its literal
abbrev pub starting : PortDecl → Lit → PortDecl
starting p literal = record p { initial = Some literal }

-- one slot
abbrev pub slot : Num → Slots
slot n = record { first = n; last = None }

-- the slots from one to another
abbrev pub slots : Num → Num → Slots
slots first last = record { first = first; last = Some last }

-- an activity without a guard: where it begins, its frequency, its slots and what it does
abbrev pub activity_at : ℕ → ℕ → Num → List Slots → ActKind → Act
activity_at line col frequency chosen what =
    record { line = line; col = col; freq = frequency; slots = chosen; what = what; guard = None }

-- an activity of line 1
abbrev pub activity : ℕ → Num → List Slots → ActKind → Act
activity = activity_at 1

-- an activity with a guard
abbrev pub guarded : Act → ExprTree → Act
guarded a guard = record a { guard = Some guard }

-- `task t [wcet=1us] { PORTS STATEMENTS }`, by the column of its name
abbrev pub small_task : ℕ → List PortDecl → List StmtTree → Decl
small_task col ports body = decl.Task false (name col (codes "t")) (us (number (8 + col) 1)) ports body

-- `start mode m [period=1ms] { ACTIVITIES }`, by the column of its name
abbrev pub start_mode : ℕ → List Act → Decl
start_mode col acts = decl.Mode true (name col (codes "m")) (ms (number (10 + col) 1)) acts

-- `module NAME { IMPORTS DECLARATIONS }`
abbrev pub source : List ℕ → List Id → List Decl → Tree
source text imports decls = record { name = name 8 text; imports = imports; decls = decls }

-- ---- faults

-- a rule that is broken in a source, at a column of line 1
abbrev pub fault_in : ℕ → ℕ → ℕ → Fault
fault_in file rule col = record { rule = rule; file = file; line = 1; col = col }

-- a rule that is broken in the first source
abbrev pub fault : ℕ → ℕ → Fault
fault = fault_in 0
