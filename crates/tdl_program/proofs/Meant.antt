-- What the names of activities mean where the rules are kept.
use Rattle.std.proofs.Common.{◌≡◌, ℕ, ◌+◌, ◌-◌, ◌<◌, List, [], Bool, true, false, Option, Some, None, refl, ap, sym, ◌∙◌, length, arith}
use Rattle.std.specs.Prelude.{slice_get, not, ◌==◌, nat_lt, is_some}
use Rattle.std.specs.List.{list_any}
use Rattle.std.proofs.lemmas.Bool.{not-false, eqb-true}
use Rattle.tdl_base.specs.declared.kinds.Kind.{Kind}
use Rattle.tdl_tree.specs.declared.activities.Act.{Act}
use Rattle.tdl_tree.specs.declared.activities.ActKind.TheVariants as act
use Rattle.tdl_tree.specs.declared.declarations.Decl.TheVariants as decl
use Rattle.tdl_tree.specs.declared.declarations.Tree.{Tree}
use Rattle.tdl_tree.specs.declared.expressions.ExprTree.{ExprTree}
use Rattle.tdl_tree.specs.declared.names.Id.{Id}
use Rattle.tdl_tree.specs.declared.names.Lit.{Lit}
use Rattle.tdl_tree.specs.declared.names.Time.{Time}
use Rattle.tdl_tree.specs.declared.statements.StmtTree.{StmtTree}
use Rattle.tdl_rules.specs.declared.fault.Fault.{Fault}
use Rattle.tdl_rules.specs.Naming.{Scope, Meaning, Says, meant, TaskMeant, as_task, as_actuator, as_mode, inputs, spot_of}
use Rattle.tdl_rules.specs.Times.{time_us, Let, lets}
use Rattle.tdl_rules.specs.Parts.{fault_if, broken}
use Rattle.tdl_rules.specs.NameRules.{c7_what}
use Rattle.tdl_rules.specs.ModeRules.{c16_activity, c17_what}
use Rattle.tdl_program.proofs.Looking.{meant-says}

-- where there is no fault, its test does not hold
pub no-fault : (b : Bool) (f : Fault) → fault_if b f ≡ [] → b ≡ false
no-fault true f e = absurd (cc e)
no-fault false f e = refl

-- ---- what a name means

-- a name that means a task, with its declaration
pub record IsTaskMeant (tree : Tree) (x : Id) : Type 0 where
  pub task : TaskMeant
  pub is : as_task (meant tree x.text) ≡ Some task
  pub public : Bool
  pub name : Id
  pub body : List StmtTree
  pub at : slice_get tree.decls task.number ≡ Some (decl.Task public name task.worst task.ports body)

-- a name that means an actuator, with its declaration
pub record IsActuatorMeant (tree : Tree) (x : Id) : Type 0 where
  pub number : ℕ
  pub kind : Kind
  pub is : as_actuator (meant tree x.text) ≡ Some (number, kind)
  pub name : Id
  pub initial : Option Lit
  pub at : slice_get tree.decls number ≡ Some (decl.Actuator kind name initial)

-- a name that means a mode, with its declaration
pub record IsModeMeant (tree : Tree) (x : Id) : Type 0 where
  pub number : ℕ
  pub is : as_mode (meant tree x.text) ≡ Some number
  pub start : Bool
  pub name : Id
  pub period : Time
  pub acts : List Act
  pub at : slice_get tree.decls number ≡ Some (decl.Mode start name period acts)

-- where a name is one of a task, it means one
pub task-meant : (tree : Tree) (x : Id) → is_some (as_task (meant tree x.text)) ≡ true → IsTaskMeant tree x
task-meant tree x h = by_meaning (meant tree x.text) refl h
  where
    by_meaning : (o : Option Meaning) → meant tree x.text ≡ o → is_some (as_task o) ≡ true → IsTaskMeant tree x
    by_meaning (Some (Says k (decl.Task public name worst ports body))) e h = record {
      task = record { number = k; worst = worst; ports = ports };
      is = ap as_task e;
      public = public;
      name = name;
      body = body;
      at = meant-says tree x.text k (decl.Task public name worst ports body) e;
    }
    by_meaning o e h = absurd (cc h)

-- where a name is one of an actuator, it means one
pub actuator-meant : (tree : Tree) (x : Id) → is_some (as_actuator (meant tree x.text)) ≡ true → IsActuatorMeant tree x
actuator-meant tree x h = by_meaning (meant tree x.text) refl h
  where
    by_meaning : (o : Option Meaning) → meant tree x.text ≡ o → is_some (as_actuator o) ≡ true → IsActuatorMeant tree x
    by_meaning (Some (Says k (decl.Actuator kind name initial))) e h = record {
      number = k;
      kind = kind;
      is = ap as_actuator e;
      name = name;
      initial = initial;
      at = meant-says tree x.text k (decl.Actuator kind name initial) e;
    }
    by_meaning o e h = absurd (cc h)

-- where a name is one of a mode, it means one
pub mode-meant : (tree : Tree) (x : Id) → is_some (as_mode (meant tree x.text)) ≡ true → IsModeMeant tree x
mode-meant tree x h = by_meaning (meant tree x.text) refl h
  where
    by_meaning : (o : Option Meaning) → meant tree x.text ≡ o → is_some (as_mode o) ≡ true → IsModeMeant tree x
    by_meaning (Some (Says k (decl.Mode start name period acts))) e h = record {
      number = k;
      is = ap as_mode e;
      start = start;
      name = name;
      period = period;
      acts = acts;
      at = meant-says tree x.text k (decl.Mode start name period acts) e;
    }
    by_meaning o e h = absurd (cc h)

-- ---- what the rules say of it

-- the arguments of a task are as many as its inputs
pub as_many : (scope : Scope) (x : Id) (args : List ExprTree) (t : TaskMeant) → as_task (meant scope.tree x.text) ≡ Some t →
    c7_what scope (act.Task x args) ≡ [] → length args ≡ length (inputs t.ports)
as_many scope x args t is none =
    let kept : fault_if (not (length args == length (inputs t.ports))) (broken 7 scope.file (spot_of x)) ≡ [] = rw is at none in
    eqb-true (length args) (length (inputs t.ports))
    (not-false (length args == length (inputs t.ports)) (no-fault _ _ kept))

-- no logical execution time of a task is shorter than its worst case
pub none_short : (scope : Scope) (period : ℕ) (activity : Act) (x : Id) (args : List ExprTree) (t : TaskMeant) →
    as_task (meant scope.tree x.text) ≡ Some t → c17_what scope period activity (act.Task x args) ≡ [] →
    list_any (λ (span : Let). nat_lt (span.e - span.s) (time_us t.worst)) (lets period activity) ≡ false
none_short scope period activity x args t is none =
    let kept : fault_if (list_any (λ (span : Let). nat_lt (span.e - span.s) (time_us t.worst)) (lets period activity))
    (broken 17 scope.file (spot_of x)) ≡ [] = rw is at none in
    no-fault _ _ kept

-- a switch of the mode that is declaration j leads to another
pub not_own : (scope : Scope) (j : ℕ) (x : Id) (k : ℕ) → as_mode (meant scope.tree x.text) ≡ Some k →
    c16_activity scope j (act.Switch x) ≡ [] → (k == j) ≡ false
not_own scope j x k is none =
    let kept : fault_if (k == j) (broken 16 scope.file (spot_of x)) ≡ [] = rw is at none in
    no-fault _ _ kept
