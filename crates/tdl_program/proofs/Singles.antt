-- Each declaration makes one part of its sort, which stands at the declaration's ordinal.
use Rattle.std.proofs.Common.{◌≡◌, ℕ, pos, ◌<◌, List, [], ◌∷◌, map, get_or, Bool, Option, Some, length, refl, ap}
use Rattle.std.specs.Prelude.{slice_get}
use Rattle.std.proofs.lemmas.Option.{slice_get_within}
use Rattle.tdl_base.specs.declared.kinds.Kind.{Kind}
use Rattle.tdl_mode.specs.declared.program.Mode.{Mode}
use Rattle.tdl_mode.specs.declared.program.Task.{Task}
use Rattle.tdl_tree.specs.declared.activities.Act.{Act}
use Rattle.tdl_tree.specs.declared.declarations.Decl.{Decl}
use Rattle.tdl_tree.specs.declared.declarations.Decl.TheVariants as decl
use Rattle.tdl_tree.specs.declared.declarations.PortDecl.{PortDecl}
use Rattle.tdl_tree.specs.declared.declarations.Sort.TheVariants as sort
use Rattle.tdl_tree.specs.declared.names.Id.{Id}
use Rattle.tdl_tree.specs.declared.names.Lit.{Lit}
use Rattle.tdl_tree.specs.declared.names.Time.{Time}
use Rattle.tdl_tree.specs.declared.statements.StmtTree.{StmtTree}
use Rattle.tdl_rules.specs.Lists.{each}
use Rattle.tdl_rules.specs.Naming.{Scope}
use Rattle.tdl_rules.specs.Times.{time_us}
use Rattle.tdl_program.specs.Ordinals.{ordinal, is_sensor, is_actuator, is_task, is_mode, ports_of}
use Rattle.tdl_program.specs.Literals.{initial_number}
use Rattle.tdl_program.specs.Bodies.{body_of}
use Rattle.tdl_program.specs.Activities.{invocations_of, updates_of, switches_of}
use Rattle.tdl_program.specs.Programs.{sensors_in, actuators_in, port_of, tasks_in, modes_in}
use Rattle.tdl_program.proofs.Counting.{IsSingle, each-ordinal, each-place}

-- ---- one part a declaration

-- a sensor
pub single_sensor : IsSingle is_sensor sensors_in
single_sensor (decl.Sensor kind name) = refl
single_sensor (decl.Const public kind name value) = refl
single_sensor (decl.Actuator kind name initial) = refl
single_sensor (decl.Task public name worst ports body) = refl
single_sensor (decl.Mode start name period acts) = refl

-- an actuator
pub single_actuator : IsSingle is_actuator actuators_in
single_actuator (decl.Actuator kind name initial) = refl
single_actuator (decl.Const public kind name value) = refl
single_actuator (decl.Sensor kind name) = refl
single_actuator (decl.Task public name worst ports body) = refl
single_actuator (decl.Mode start name period acts) = refl

-- a task
pub single_task : (scope : Scope) → IsSingle is_task (tasks_in scope)
single_task scope (decl.Task public name worst ports body) = refl
single_task scope (decl.Const public kind name value) = refl
single_task scope (decl.Sensor kind name) = refl
single_task scope (decl.Actuator kind name initial) = refl
single_task scope (decl.Mode start name period acts) = refl

-- a mode
pub single_mode : (scope : Scope) → IsSingle is_mode (modes_in scope)
single_mode scope (decl.Mode start name period acts) = refl
single_mode scope (decl.Const public kind name value) = refl
single_mode scope (decl.Sensor kind name) = refl
single_mode scope (decl.Actuator kind name initial) = refl
single_mode scope (decl.Task public name worst ports body) = refl

-- ---- the part of a declaration

-- the number of a sensor is below that of all
pub sensor-within : (decls : List Decl) (j : ℕ) (kind : Kind) (name : Id) →
    slice_get decls j ≡ Some (decl.Sensor kind name) → ordinal is_sensor decls j < length (each sensors_in decls)
sensor-within decls j kind name at =
    slice_get_within (each sensors_in decls) (ordinal is_sensor decls j) (record { kind = kind; name = name.text; initial = pos 0 })
    (each-ordinal is_sensor sensors_in single_sensor decls j (decl.Sensor kind name) _ at refl)

-- the number of an actuator is below that of all
pub actuator-within : (decls : List Decl) (j : ℕ) (kind : Kind) (name : Id) (initial : Option Lit) →
    slice_get decls j ≡ Some (decl.Actuator kind name initial) →
    ordinal is_actuator decls j < length (each actuators_in decls)
actuator-within decls j kind name initial at =
    slice_get_within (each actuators_in decls) (ordinal is_actuator decls j)
    (record { kind = kind; name = name.text; initial = initial_number kind initial })
    (each-ordinal is_actuator actuators_in single_actuator decls j (decl.Actuator kind name initial) _ at refl)

-- the task of a declaration
abbrev pub task_of : Scope → Bool → Id → Time → List PortDecl → List StmtTree → Task
task_of scope public name worst ports body = record {
  name = name.text;
  public = public;
  worst = record { 0 = time_us worst };
  inputs = map port_of (ports_of sort.Input ports);
  outputs = map port_of (ports_of sort.Output ports);
  locals = map port_of (ports_of sort.Local ports);
  body = body_of scope ports body;
}

-- it stands at the declaration's ordinal
pub task-at : (scope : Scope) (decls : List Decl) (j : ℕ) (public : Bool) (name : Id) (worst : Time)
    (ports : List PortDecl) (body : List StmtTree) →
    slice_get decls j ≡ Some (decl.Task public name worst ports body) →
    slice_get (each (tasks_in scope) decls) (ordinal is_task decls j) ≡ Some (task_of scope public name worst ports body)
task-at scope decls j public name worst ports body at =
    each-ordinal is_task (tasks_in scope) (single_task scope) decls j (decl.Task public name worst ports body)
    (task_of scope public name worst ports body) at refl

-- the mode of a declaration
abbrev pub mode_of : Scope → Id → Time → List Act → Mode
mode_of scope name period acts = record {
  name = name.text;
  period = record { 0 = time_us period };
  invocations = invocations_of scope (time_us period) acts;
  updates = updates_of scope (time_us period) acts;
  switches = switches_of scope (time_us period) acts;
}

-- it stands at the declaration's ordinal
pub mode-at : (scope : Scope) (decls : List Decl) (j : ℕ) (start : Bool) (name : Id) (period : Time) (acts : List Act) →
    slice_get decls j ≡ Some (decl.Mode start name period acts) →
    slice_get (each (modes_in scope) decls) (ordinal is_mode decls j) ≡ Some (mode_of scope name period acts)
mode-at scope decls j start name period acts at =
    each-ordinal is_mode (modes_in scope) (single_mode scope) decls j (decl.Mode start name period acts)
    (mode_of scope name period acts) at refl

-- ---- the declaration of a part

-- a declaration whose task is the one at this place
pub record TaskFrom (scope : Scope) (decls : List Decl) (task : Task) : Type 0 where
  pub place : ℕ
  pub public : Bool
  pub name : Id
  pub worst : Time
  pub ports : List PortDecl
  pub body : List StmtTree
  pub at : slice_get decls place ≡ Some (decl.Task public name worst ports body)
  pub is : task_of scope public name worst ports body ≡ task

-- each task is that of one
pub task-from : (scope : Scope) (decls : List Decl) (n : ℕ) (task : Task) →
    slice_get (each (tasks_in scope) decls) n ≡ Some task → TaskFrom scope decls task
task-from scope decls n task at =
    let r = each-place is_task (tasks_in scope) (single_task scope) decls n task at in
    by_item r.place r.item r.at r.own
  where
    by_item : (place : ℕ) (d : Decl) → slice_get decls place ≡ Some d → tasks_in scope d ≡ task ∷ [] →
        TaskFrom scope decls task
    by_item place (decl.Task public name worst ports body) at own = record {
      place = place;
      public = public;
      name = name;
      worst = worst;
      ports = ports;
      body = body;
      at = at;
      is = ap (λ ts. get_or ts 0 task) own;
    }
    by_item place (decl.Const public kind name value) at own = absurd (cc own)
    by_item place (decl.Sensor kind name) at own = absurd (cc own)
    by_item place (decl.Actuator kind name initial) at own = absurd (cc own)
    by_item place (decl.Mode start name period acts) at own = absurd (cc own)

-- a declaration whose mode is the one at place n
pub record ModeFrom (scope : Scope) (decls : List Decl) (n : ℕ) (mode : Mode) : Type 0 where
  pub place : ℕ
  pub start : Bool
  pub name : Id
  pub period : Time
  pub acts : List Act
  pub at : slice_get decls place ≡ Some (decl.Mode start name period acts)
  pub is : mode_of scope name period acts ≡ mode
  pub number : ordinal is_mode decls place ≡ n

-- each mode is that of one
pub mode-from : (scope : Scope) (decls : List Decl) (n : ℕ) (mode : Mode) →
    slice_get (each (modes_in scope) decls) n ≡ Some mode → ModeFrom scope decls n mode
mode-from scope decls n mode at =
    let r = each-place is_mode (modes_in scope) (single_mode scope) decls n mode at in
    by_item r.place r.item r.at r.own r.is
  where
    by_item : (place : ℕ) (d : Decl) → slice_get decls place ≡ Some d → modes_in scope d ≡ mode ∷ [] →
        ordinal is_mode decls place ≡ n → ModeFrom scope decls n mode
    by_item place (decl.Mode start name period acts) at own number = record {
      place = place;
      start = start;
      name = name;
      period = period;
      acts = acts;
      at = at;
      is = ap (λ ms. get_or ms 0 mode) own;
      number = number;
    }
    by_item place (decl.Const public kind name value) at own number = absurd (cc own)
    by_item place (decl.Sensor kind name) at own number = absurd (cc own)
    by_item place (decl.Actuator kind name initial) at own number = absurd (cc own)
    by_item place (decl.Task public name worst ports body) at own number = absurd (cc own)
