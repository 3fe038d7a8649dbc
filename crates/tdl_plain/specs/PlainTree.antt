-- The tree that says a form: its names and numbers may stand at any places of the source.
use Rattle.std.specs.Prelude.{ℕ, Bool, true, false, ◌&&◌, ◌==◌, List, [], ◌∷◌, Option, Some, None, bytes_eq, IsTrue}
use Rattle.tdl_base.specs.declared.kinds.Kind.{Kind}
use Rattle.tdl_base.specs.declared.kinds.Kind.TheVariants.{Int}
use Rattle.tdl_base.specs.declared.arithmetic.BinOp.{BinOp}
use Rattle.tdl_base.specs.declared.arithmetic.BinOp.TheVariants.{Add}
use Rattle.tdl_tree.specs.declared.activities.Act.{Act}
use Rattle.tdl_tree.specs.declared.activities.ActKind.{ActKind}
use Rattle.tdl_tree.specs.declared.activities.ActKind.TheVariants as acts
use Rattle.tdl_tree.specs.declared.activities.Slots.{Slots}
use Rattle.tdl_tree.specs.declared.declarations.Decl.{Decl}
use Rattle.tdl_tree.specs.declared.declarations.Decl.TheVariants as decls
use Rattle.tdl_tree.specs.declared.declarations.PortDecl.{PortDecl}
use Rattle.tdl_tree.specs.declared.declarations.Sort.{Sort}
use Rattle.tdl_tree.specs.declared.declarations.Sort.TheVariants.{Input, Output}
use Rattle.tdl_tree.specs.declared.declarations.Tree.{Tree}
use Rattle.tdl_tree.specs.declared.expressions.ExprTree.{ExprTree}
use Rattle.tdl_tree.specs.declared.expressions.ExprNode.{ExprNode}
use Rattle.tdl_tree.specs.declared.expressions.ExprNode.TheOpen.{ExprNode-F}
use Rattle.tdl_tree.specs.declared.expressions.ExprNode.TheViews.{out-ExprNode}
use Rattle.tdl_tree.specs.declared.names.Id.{Id}
use Rattle.tdl_tree.specs.declared.names.Lit.{Lit}
use Rattle.tdl_tree.specs.declared.names.LitValue.{LitValue}
use Rattle.tdl_tree.specs.declared.names.LitValue.TheVariants as lit
use Rattle.tdl_tree.specs.declared.names.Time.{Time}
use Rattle.tdl_tree.specs.declared.names.Unit.{Unit}
use Rattle.tdl_tree.specs.declared.names.Unit.TheVariants.{Us, Ms}
use Rattle.tdl_tree.specs.declared.statements.StmtTree.{StmtTree}
use Rattle.tdl_tree.specs.declared.statements.StmtTree.TheOpen.{StmtTree-F}
use Rattle.tdl_tree.specs.declared.statements.StmtTree.TheViews.{out-StmtTree}
use Rattle.tdl_plain.specs.declared.form.Form.{Form}
use Rattle.tdl_plain.specs.PlainSource.{IsPlainForm}

-- ---- names, kinds, numbers

-- the name has this text
abbrev pub is_text : List ℕ → Id → Bool
is_text text name = bytes_eq name.text text

-- the kind is `int`
abbrev pub is_int : Kind → Bool
is_int Int = true
is_int other = false

-- there are no items
abbrev pub is_none : {X : Type 0} → List X → Bool
is_none [] = true
is_none (x ∷ xs) = false

-- ---- expressions

-- the parts are the one name
abbrev pub are_text : List ℕ → List Id → Bool
are_text text (part ∷ []) = is_text text part
are_text text other = false

-- the node is the one name
abbrev pub is_name_node : List ℕ → ExprNode-F ExprNode ExprTree → Bool
is_name_node text (ExprNode-F.Name parts) = are_text text parts
is_name_node text other = false

-- the expression is the one name
abbrev pub is_name : List ℕ → ExprTree → Bool
is_name text e = is_name_node text (out-ExprNode e.node)

-- the operator is `+`
abbrev pub is_add : BinOp → Bool
is_add Add = true
is_add other = false

-- the node is the sum of the one name and the other
abbrev pub is_sum_node : (left right : List ℕ) → ExprNode-F ExprNode ExprTree → Bool
is_sum_node left right (ExprNode-F.Bin op a b) = is_add op && is_name left a && is_name right b
is_sum_node left right other = false

-- the expression is that sum
abbrev pub is_sum : (left right : List ℕ) → ExprTree → Bool
is_sum left right e = is_sum_node left right (out-ExprNode e.node)

-- ---- the sensor

-- sensor int NAME;
abbrev pub is_sensor : Form → Decl → Bool
is_sensor form (decls.Sensor kind name) = is_int kind && is_text form.sensor name
is_sensor form other = false

-- ---- the task

-- a number without a sign
abbrev pub is_value : ℕ → LitValue → Bool
is_value n (lit.Number false number) = number.value == n
is_value n other = false

-- the initial literal is this number
abbrev pub starts_at : ℕ → Option Lit → Bool
starts_at n (Some literal) = is_value n literal.value
starts_at n None = false

-- no initial literal
abbrev pub has_no_literal : Option Lit → Bool
has_no_literal None = true
has_no_literal (Some literal) = false

abbrev pub is_input_sort : Sort → Bool
is_input_sort Input = true
is_input_sort other = false

abbrev pub is_output_sort : Sort → Bool
is_output_sort Output = true
is_output_sort other = false

-- input int NAME;
abbrev pub is_input : Form → PortDecl → Bool
is_input form port =
    is_input_sort port.sort && is_int port.kind && is_text form.input port.name && has_no_literal port.initial

-- output int NAME := NUMBER;
abbrev pub is_output : Form → PortDecl → Bool
is_output form port =
    is_output_sort port.sort && is_int port.kind && is_text form.output port.name && starts_at form.initial port.initial

-- the input, then the output
abbrev pub are_ports : Form → List PortDecl → Bool
are_ports form (input ∷ output ∷ []) = is_input form input && is_output form output
are_ports form other = false

-- OUTPUT := OUTPUT + INPUT;
abbrev pub is_step : Form → StmtTree-F StmtTree → Bool
is_step form (StmtTree-F.Assign target value) = is_text form.output target && is_sum form.output form.input value
is_step form other = false

-- the body is that one statement
abbrev pub is_body : Form → List StmtTree → Bool
is_body form (stmt ∷ []) = is_step form (out-StmtTree stmt)
is_body form other = false

abbrev pub is_us : Unit → Bool
is_us Us = true
is_us other = false

abbrev pub is_ms : Unit → Bool
is_ms Ms = true
is_ms other = false

-- public task NAME [wcet=NUMBER us] { ports body }
abbrev pub is_task : Form → Decl → Bool
is_task form (decls.Task public name worst ports body) =
    public && is_text form.task name && worst.number.value == form.worst && is_us worst.unit && are_ports form ports
    && is_body form body
is_task form other = false

-- ---- the mode

-- the one argument, the sensor
abbrev pub are_arguments : Form → List ExprTree → Bool
are_arguments form (argument ∷ []) = is_name form.sensor argument
are_arguments form other = false

-- TASK(SENSOR)
abbrev pub is_call : Form → ActKind → Bool
is_call form (acts.Task task arguments) = is_text form.task task && are_arguments form arguments
is_call form other = false

abbrev pub has_no_guard : Option ExprTree → Bool
has_no_guard None = true
has_no_guard (Some guard) = false

-- task [freq=1] TASK(SENSOR);
abbrev pub is_activity : Form → Act → Bool
is_activity form act = act.freq.value == 1 && is_none act.slots && is_call form act.what && has_no_guard act.guard

-- that activity alone
abbrev pub are_activities : Form → List Act → Bool
are_activities form (act ∷ []) = is_activity form act
are_activities form other = false

-- start mode NAME [period=NUMBER ms] { activity }
abbrev pub is_mode : Form → Decl → Bool
is_mode form (decls.Mode start name period activities) =
    start && is_text form.mode name && period.number.value == form.period && is_ms period.unit
    && are_activities form activities
is_mode form other = false

-- ---- the source

-- the sensor, the task and the mode
abbrev pub are_decls : Form → List Decl → Bool
are_decls form (sensor ∷ task ∷ mode ∷ []) = is_sensor form sensor && is_task form task && is_mode form mode
are_decls form other = false

-- module NAME { the declarations }
abbrev pub says_form : Form → Tree → Bool
says_form form tree = is_text form.module tree.name && is_none tree.imports && are_decls form tree.decls

-- the tree says this form, whose names and numbers are lawful
pub record IsPlainTree (form : Form) (tree : Tree) : Type 0 where
  pub lawful : IsPlainForm form
  pub says : IsTrue (says_form form tree)
