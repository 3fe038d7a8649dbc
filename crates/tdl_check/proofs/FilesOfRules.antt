-- The faults that each rule gives in a scope are in the scope's file.
use Rattle.std.proofs.Common.{◌≡◌, ℕ, ◌<◌, List, [], ◌∷◌, ◌++◌, Bool, true, false, Option, Some, None, length, refl}
use Rattle.std.specs.Prelude.{◌==◌, if◌then◌else◌}
use Rattle.tdl_base.specs.declared.kinds.Kind.{Kind}
use Rattle.tdl_base.specs.declared.limits.TheConstants.{ACTUATORS, CONSTANTS, MODES, SENSORS, TASKS}
use Rattle.tdl_base.specs.declared.arithmetic.BinOp.{BinOp}
use Rattle.tdl_base.specs.declared.arithmetic.BinOp.TheVariants as bin
use Rattle.tdl_base.specs.declared.arithmetic.UnOp.{UnOp}
use Rattle.tdl_base.specs.declared.arithmetic.UnOp.TheVariants as un
use Rattle.tdl_tree.specs.declared.activities.Act.{Act}
use Rattle.tdl_tree.specs.declared.activities.ActKind.{ActKind}
use Rattle.tdl_tree.specs.declared.activities.ActKind.TheVariants as act
use Rattle.tdl_tree.specs.declared.activities.Slots.{Slots}
use Rattle.tdl_tree.specs.declared.declarations.Decl.{Decl}
use Rattle.tdl_tree.specs.declared.declarations.Decl.TheVariants as decl
use Rattle.tdl_tree.specs.declared.declarations.PortDecl.{PortDecl}
use Rattle.tdl_tree.specs.declared.expressions.ExprNode.{ExprNode}
use Rattle.tdl_tree.specs.declared.expressions.ExprNode.TheOpen.{ExprNode-F}
use Rattle.tdl_tree.specs.declared.expressions.ExprTree.{ExprTree}
use Rattle.tdl_tree.specs.declared.names.Id.{Id}
use Rattle.tdl_tree.specs.declared.names.LitValue.{LitValue}
use Rattle.tdl_tree.specs.declared.names.LitValue.TheVariants as lit
use Rattle.tdl_tree.specs.declared.statements.StmtTree.{StmtTree}
use Rattle.tdl_tree.specs.declared.statements.StmtTree.TheOpen.{StmtTree-F}
use Rattle.tdl_rules.specs.declared.found.Found.{Found}
use Rattle.tdl_rules.specs.declared.found.Found.TheVariants.{Is, Lost, Unknown}
use Rattle.tdl_rules.specs.Lists.{each}
use Rattle.tdl_rules.specs.Meanings.{found}
use Rattle.tdl_rules.specs.Naming.{Scope, TaskMeant, meant, as_task, as_actuator, as_mode, inputs, spot_of}
use Rattle.tdl_rules.specs.Sorts.{is_truth, sort_of}
use Rattle.tdl_rules.specs.Times.{Let}
use Rattle.tdl_rules.specs.Parts.{broken, spot_of_expression}
use Rattle.tdl_rules.specs.NameRules.{lost_at, lost_in, c3_target, c6_statement, c7_what}
use Rattle.tdl_rules.specs.SortRules.{needs, agrees, binary_operands, unary_operand, operands, needs_kind, c5_statement, arguments_need, task_needs, update_needs, what_needs, guard_needs, c8_literal, c8_node}
use Rattle.tdl_rules.specs.ModeRules.{c9_declaration, bad_at, starts_broken, c15_activity, c16_activity, c16_mode, c17_declaration, c17_what}
use Rattle.tdl_rules.specs.BoundRules.{c18_statement, c20_declaration, passing, past, task_names, mode_names, constant_names, sensor_names, actuator_names, c21_module}
use Rattle.tdl_check.proofs.Files.{AllIn, none, one, both, if_one, of_each, of_map}

module _ (n : ℕ) (scope : Scope) (here : scope.file < n) where
  -- ---- names

  -- a part that is lost
  lost : (f : Found) → AllIn n (lost_at scope.file f)
  lost (Lost rule at) = one n (broken rule scope.file at) here
  lost (Is kind target) = none n
  lost Unknown = none n

  -- a name in an expression
  pub lost_name : (node : ExprNode-F ExprNode ExprTree) → AllIn n (lost_in scope node)
  lost_name (ExprNode-F.Name parts) = lost (found scope parts)
  lost_name (ExprNode-F.Number number) = none n
  lost_name (ExprNode-F.Truth b) = none n
  lost_name (ExprNode-F.Un op a) = none n
  lost_name (ExprNode-F.Bin op a b) = none n

  -- a target
  pub lost_target : (layer : StmtTree-F StmtTree) → AllIn n (c3_target scope layer)
  lost_target (StmtTree-F.Assign x value) = lost (found scope (x ∷ []))
  lost_target (StmtTree-F.If test first other) = none n
  lost_target (StmtTree-F.Repeat count body) = none n

  -- a target that takes no value
  pub no_value : (layer : StmtTree-F StmtTree) → AllIn n (c6_statement scope layer)
  no_value (StmtTree-F.Assign x value) = if_one n _ (broken 6 scope.file (spot_of x)) here
  no_value (StmtTree-F.If test first other) = none n
  no_value (StmtTree-F.Repeat count body) = none n

  -- arguments that are not as many as the inputs
  pub as_many : (what : ActKind) → AllIn n (c7_what scope what)
  as_many (act.Task task args) = by_task (as_task (meant scope.tree task.text)) refl
    where
      by_task : (o : Option TaskMeant) → as_task (meant scope.tree task.text) ≡ o →
          AllIn n (c7_what scope (act.Task task args))
      by_task None e = rw e (none n)
      by_task (Some t) e = rw e (if_one n _ (broken 7 scope.file (spot_of task)) here)
  as_many (act.Update actuator value) = none n
  as_many (act.Switch target) = none n

  -- ---- sorts

  -- an expression of another sort
  pub needed : (e : ExprTree) (truth : Bool) → AllIn n (needs scope e truth)
  needed e truth = if_one n _ (broken 5 scope.file (spot_of_expression e)) here

  -- two sides
  agreed : (right : ExprTree) (left : Option Bool) → AllIn n (agrees scope right left)
  agreed right None = none n
  agreed right (Some left) = needed right left

  -- two operands of one sort
  pair : (left right : ExprTree) (truth : Bool) → AllIn n (needs scope left truth ++ needs scope right truth)
  pair left right truth = both n (needs scope left truth) (needs scope right truth) (needed left truth)
      (needed right truth)

  -- two operands
  binary : (op : BinOp) (left right : ExprTree) → AllIn n (binary_operands scope op left right)
  binary bin.And left right = pair left right true
  binary bin.Or left right = pair left right true
  binary bin.Equal left right = agreed right (sort_of scope left)
  binary bin.NotEqual left right = agreed right (sort_of scope left)
  binary bin.Add left right = pair left right false
  binary bin.Sub left right = pair left right false
  binary bin.Mul left right = pair left right false
  binary bin.Div left right = pair left right false
  binary bin.Rem left right = pair left right false
  binary bin.Less left right = pair left right false
  binary bin.LessEq left right = pair left right false
  binary bin.Greater left right = pair left right false
  binary bin.GreaterEq left right = pair left right false

  -- one operand
  unary : (op : UnOp) (operand : ExprTree) → AllIn n (unary_operand scope op operand)
  unary un.Neg operand = needed operand false
  unary un.Not operand = needed operand true

  -- the operands of a node
  pub operands_in : (node : ExprNode-F ExprNode ExprTree) → AllIn n (operands scope node)
  operands_in (ExprNode-F.Un op a) = unary op a
  operands_in (ExprNode-F.Bin op a b) = binary op a b
  operands_in (ExprNode-F.Number number) = none n
  operands_in (ExprNode-F.Truth b) = none n
  operands_in (ExprNode-F.Name parts) = none n

  -- a value of a kind
  of_kind : (value : ExprTree) (f : Found) → AllIn n (needs_kind scope value f)
  of_kind value (Is kind target) = needed value (is_truth kind)
  of_kind value (Lost rule at) = none n
  of_kind value Unknown = none n

  -- a statement's value or condition
  pub statement_in : (layer : StmtTree-F StmtTree) → AllIn n (c5_statement scope layer)
  statement_in (StmtTree-F.Assign x value) = of_kind value (found scope (x ∷ []))
  statement_in (StmtTree-F.If test first other) = needed test true
  statement_in (StmtTree-F.Repeat count body) = none n

  -- arguments
  arguments : (es : List ExprTree) (ports : List PortDecl) → AllIn n (arguments_need scope es ports)
  arguments [] ports = none n
  arguments (e ∷ es) [] = none n
  arguments (e ∷ es) (port ∷ ports) =
      both n (needs scope e (is_truth port.kind)) (arguments_need scope es ports) (needed e (is_truth port.kind))
      (arguments es ports)

  -- the arguments of a task
  task_in : (args : List ExprTree) (o : Option TaskMeant) → AllIn n (task_needs scope args o)
  task_in args None = none n
  task_in args (Some t) = by_count (length args == length (inputs t.ports))
    where
      by_count : (t' : Bool) → AllIn n (if t' then arguments_need scope args (inputs t.ports) else [])
      by_count true = arguments args (inputs t.ports)
      by_count false = none n

  -- the value of an actuator
  update_in : (value : ExprTree) (o : Option (ℕ × Kind)) → AllIn n (update_needs scope value o)
  update_in value None = none n
  update_in value (Some (k, kind)) = needed value (is_truth kind)

  -- what an activity does
  pub what_in : (what : ActKind) → AllIn n (what_needs scope what)
  what_in (act.Task task args) = task_in args (as_task (meant scope.tree task.text))
  what_in (act.Update actuator value) = update_in value (as_actuator (meant scope.tree actuator.text))
  what_in (act.Switch target) = none n

  -- its guard
  pub guard_in : (guard : Option ExprTree) → AllIn n (guard_needs scope guard)
  guard_in None = none n
  guard_in (Some guard) = needed guard true

  -- a number that is too great
  pub great_literal : (value : LitValue) → AllIn n (c8_literal scope.file value)
  great_literal (lit.Truth b) = none n
  great_literal (lit.Number minus number) = if_one n _ _ here

  pub great_number : (node : ExprNode-F ExprNode ExprTree) → AllIn n (c8_node scope node)
  great_number (ExprNode-F.Number number) = if_one n _ _ here
  great_number (ExprNode-F.Truth b) = none n
  great_number (ExprNode-F.Name parts) = none n
  great_number (ExprNode-F.Un op a) = none n
  great_number (ExprNode-F.Bin op a b) = none n

  -- ---- modes

  -- a period
  pub period_in : (d : Decl) → AllIn n (c9_declaration scope d)
  period_in (decl.Mode start name period acts) = if_one n _ _ here
  period_in (decl.Const public kind name value) = none n
  period_in (decl.Sensor kind name) = none n
  period_in (decl.Actuator kind name initial) = none n
  period_in (decl.Task public name worst ports body) = none n

  -- a range
  pub range_in : (o : Option Slots) → AllIn n (bad_at scope.file o)
  range_in None = none n
  range_in (Some range) = one n _ here

  -- start modes
  pub starts_in : (ids : List Id) → AllIn n (starts_broken scope ids)
  starts_in [] = one n (broken 12 scope.file (spot_of scope.tree.name)) here
  starts_in (first ∷ more) = of_map n (λ (id : Id). broken 12 scope.file (spot_of id)) (λ id. here) more

  -- a switch that cuts
  pub cut_in : (period : ℕ) (spans : List Let) (activity : Act) (what : ActKind) →
      AllIn n (c15_activity scope period spans activity what)
  cut_in period spans activity (act.Switch target) = if_one n _ (broken 15 scope.file (spot_of target)) here
  cut_in period spans activity (act.Task task args) = none n
  cut_in period spans activity (act.Update actuator value) = none n

  -- a switch to its own mode
  own_in : (k : ℕ) (what : ActKind) → AllIn n (c16_activity scope k what)
  own_in k (act.Switch target) = by_mode (as_mode (meant scope.tree target.text)) refl
    where
      by_mode : (o : Option ℕ) → as_mode (meant scope.tree target.text) ≡ o →
          AllIn n (c16_activity scope k (act.Switch target))
      by_mode None e = rw e (none n)
      by_mode (Some j) e = rw e (if_one n (j == k) (broken 16 scope.file (spot_of target)) here)
  own_in k (act.Task task args) = none n
  own_in k (act.Update actuator value) = none n

  pub own_mode_in : (d : ℕ × Decl) → AllIn n (c16_mode scope d)
  own_mode_in (k, decl.Mode start name period acts) =
      of_each n (λ (activity : Act). c16_activity scope k activity.what) (λ activity. own_in k activity.what) acts
  own_mode_in (k, decl.Const public kind name value) = none n
  own_mode_in (k, decl.Sensor kind name) = none n
  own_mode_in (k, decl.Actuator kind name initial) = none n
  own_mode_in (k, decl.Task public name worst ports body) = none n

  -- a worst case by itself
  pub worst_in : (d : Decl) → AllIn n (c17_declaration scope d)
  worst_in (decl.Task public name worst ports body) = if_one n _ _ here
  worst_in (decl.Const public kind name value) = none n
  worst_in (decl.Sensor kind name) = none n
  worst_in (decl.Actuator kind name initial) = none n
  worst_in (decl.Mode start name period acts) = none n

  -- one that is longer than a logical execution time
  pub short_in : (period : ℕ) (activity : Act) (what : ActKind) → AllIn n (c17_what scope period activity what)
  short_in period activity (act.Task task args) = by_task (as_task (meant scope.tree task.text)) refl
    where
      by_task : (o : Option TaskMeant) → as_task (meant scope.tree task.text) ≡ o →
          AllIn n (c17_what scope period activity (act.Task task args))
      by_task None e = rw e (none n)
      by_task (Some t) e = rw e (if_one n _ (broken 17 scope.file (spot_of task)) here)
  short_in period activity (act.Update actuator value) = none n
  short_in period activity (act.Switch target) = none n

  -- ---- bounds

  -- a count of turns
  pub turns_in : (layer : StmtTree-F StmtTree) → AllIn n (c18_statement scope layer)
  turns_in (StmtTree-F.Repeat count body) = if_one n _ _ here
  turns_in (StmtTree-F.Assign x value) = none n
  turns_in (StmtTree-F.If test first other) = none n

  -- steps
  pub steps_in : (d : Decl) → AllIn n (c20_declaration scope d)
  steps_in (decl.Task public name worst ports body) = if_one n _ _ here
  steps_in (decl.Const public kind name value) = none n
  steps_in (decl.Sensor kind name) = none n
  steps_in (decl.Actuator kind name initial) = none n
  steps_in (decl.Mode start name period acts) = none n

  -- the name that passes a count
  pub past_in : (o : Option Id) → AllIn n (past scope o)
  past_in None = none n
  past_in (Some id) = one n _ here

  -- the counts of a module
  pub counts_in : AllIn n (c21_module scope)
  counts_in =
      both n _ (past scope (passing ACTUATORS (each actuator_names scope.tree.decls)))
      (both n _ (past scope (passing SENSORS (each sensor_names scope.tree.decls)))
      (both n _ (past scope (passing CONSTANTS (each constant_names scope.tree.decls)))
      (both n (past scope (passing TASKS (each task_names scope.tree.decls)))
      (past scope (passing MODES (each mode_names scope.tree.decls))) (past_in _) (past_in _)) (past_in _)) (past_in _))
      (past_in _)
