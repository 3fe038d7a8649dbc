-- Two small sources: `far`, which has a constant and a task, and `near`, which imports it and has a part of each sort.
use Rattle.std.specs.Prelude.{ℕ, true, false, List, [], ◌∷◌, Option, None, Some, codes}
use Rattle.tdl_base.specs.declared.kinds.Kind.{Kind}
use Rattle.tdl_base.specs.declared.kinds.Kind.TheVariants as kind
use Rattle.tdl_tree.specs.declared.activities.Act.{Act}
use Rattle.tdl_tree.specs.declared.activities.ActKind.{ActKind}
use Rattle.tdl_tree.specs.declared.activities.ActKind.TheVariants as act
use Rattle.tdl_tree.specs.declared.activities.Slots.{Slots}
use Rattle.tdl_tree.specs.declared.declarations.Decl.{Decl}
use Rattle.tdl_tree.specs.declared.declarations.Decl.TheVariants as decl
use Rattle.tdl_tree.specs.declared.declarations.PortDecl.{PortDecl}
use Rattle.tdl_tree.specs.declared.declarations.Sort.{Sort}
use Rattle.tdl_tree.specs.declared.declarations.Sort.TheVariants as sort
use Rattle.tdl_tree.specs.declared.declarations.Tree.{Tree}
use Rattle.tdl_tree.specs.declared.expressions.ExprNode.{ExprNode}
use Rattle.tdl_tree.specs.declared.expressions.ExprNode.TheVariants as node
use Rattle.tdl_tree.specs.declared.expressions.ExprTree.{ExprTree}
use Rattle.tdl_tree.specs.declared.names.Id.{Id}
use Rattle.tdl_tree.specs.declared.names.Lit.{Lit}
use Rattle.tdl_tree.specs.declared.names.LitValue.TheVariants as lit
use Rattle.tdl_tree.specs.declared.names.Num.{Num}
use Rattle.tdl_tree.specs.declared.names.Time.{Time}
use Rattle.tdl_tree.specs.declared.names.Unit.TheVariants as unit
use Rattle.tdl_tree.specs.declared.statements.StmtTree.{StmtTree}
use Rattle.tdl_tree.specs.declared.statements.StmtTree.TheVariants as stmt
use Rattle.tdl_rules.specs.Naming.{Scope}

-- ---- words, all at one place

-- a name
abbrev pub named : List ℕ → Id
named text = record { text = text; line = 1; col = 1 }

-- a number
abbrev pub number : ℕ → Num
number n = record { value = n; line = 1; col = 1 }

-- a number as a literal
abbrev pub literal : ℕ → Lit
literal n = record { line = 1; col = 1; value = lit.Number false (number n) }

-- so many microseconds
abbrev pub micros : ℕ → Time
micros n = record { number = number n; unit = unit.Us }

-- an expression
abbrev pub expression : ExprNode → ExprTree
expression node = record { line = 1; col = 1; node = node }

-- a name as an expression
abbrev pub name_tree : List Id → ExprTree
name_tree parts = expression (node.Name parts)

-- a port without a literal
abbrev pub port : Sort → Kind → List ℕ → PortDecl
port sort kind text = record { sort = sort; kind = kind; name = named text; initial = None }

-- an activity without slots
abbrev pub activity : ℕ → ActKind → Option ExprTree → Act
activity frequency what guard =
    record { line = 1; col = 1; freq = number frequency; slots = []; what = what; guard = guard }

-- ---- the sources

-- module far { public const int top = 7; public task feed wcet 2us { output int o = 5; }
-- start mode only period 8us { task freq 1 feed(); } }
abbrev pub far : Tree
far = record {
  name = named (codes "far");
  imports = [];
  decls =
      decl.Const true kind.Int (named (codes "top")) (literal 7) ∷
      decl.Task true (named (codes "feed")) (micros 2)
      (record (port sort.Output kind.Int (codes "o")) { initial = Some (literal 5) } ∷ []) [] ∷
      decl.Mode true (named (codes "only")) (micros 8) (activity 1 (act.Task (named (codes "feed")) []) None ∷ []) ∷ [];
}

-- local int l; output long o = 4; input int a; output int p; input boolean b;
abbrev pub mix_ports : List PortDecl
mix_ports =
    port sort.Local kind.Int (codes "l") ∷
    record (port sort.Output kind.Long (codes "o")) { initial = Some (literal 4) } ∷
    port sort.Input kind.Int (codes "a") ∷ port sort.Output kind.Int (codes "p") ∷
    port sort.Input kind.Boolean (codes "b") ∷ []

-- l := a; if b { p := l; } else { o := a; } repeat 3 { p := a; }
abbrev pub mix_body : List StmtTree
mix_body =
    stmt.Assign (named (codes "l")) (name_tree (named (codes "a") ∷ [])) ∷
    stmt.If (name_tree (named (codes "b") ∷ []))
    (stmt.Assign (named (codes "p")) (name_tree (named (codes "l") ∷ [])) ∷ [])
    (Some (stmt.Assign (named (codes "o")) (name_tree (named (codes "a") ∷ [])) ∷ [])) ∷
    stmt.Repeat (number 3) (stmt.Assign (named (codes "p")) (name_tree (named (codes "a") ∷ [])) ∷ []) ∷ []

-- level, which is a sensor
abbrev pub level : ExprTree
level = name_tree (named (codes "level") ∷ [])

-- on, which is a sensor
abbrev pub on : ExprTree
on = name_tree (named (codes "on") ∷ [])

-- mix.p, an output of the module's own task
abbrev pub own_output : ExprTree
own_output = name_tree (named (codes "mix") ∷ named (codes "p") ∷ [])

-- task freq 3 slots 2 mix(level, on); update freq 2 valve := mix.p if on; switch freq 1 to rest if on;
abbrev pub work_acts : List Act
work_acts =
    record (activity 3 (act.Task (named (codes "mix")) (level ∷ on ∷ [])) None) {
      slots = record { first = number 2; last = None } ∷ [];
    } ∷
    activity 2 (act.Update (named (codes "valve")) own_output) (Some on) ∷
    activity 1 (act.Switch (named (codes "rest"))) (Some on) ∷ []

-- module near { import far; actuator byte valve = 300; sensor int level; const long gain = 9; sensor boolean on;
-- task mix wcet 3us { .. } mode rest period 10us {} start mode work period 12us { .. } }
abbrev pub near : Tree
near = record {
  name = named (codes "near");
  imports = named (codes "far") ∷ [];
  decls =
      decl.Actuator kind.Byte (named (codes "valve")) (Some (literal 300)) ∷
      decl.Sensor kind.Int (named (codes "level")) ∷
      decl.Const false kind.Long (named (codes "gain")) (literal 9) ∷
      decl.Sensor kind.Boolean (named (codes "on")) ∷
      decl.Task false (named (codes "mix")) (micros 3) mix_ports mix_body ∷
      decl.Mode false (named (codes "rest")) (micros 10) [] ∷
      decl.Mode true (named (codes "work")) (micros 12) work_acts ∷ [];
}

-- both
abbrev pub sources : List Tree
sources = far ∷ near ∷ []

-- far, outside bodies
abbrev pub far_scope : Scope
far_scope = record { sources = sources; file = 0; tree = far; body = None }

-- near, outside bodies
abbrev pub near_scope : Scope
near_scope = record { sources = sources; file = 1; tree = near; body = None }

-- the body of near's task
abbrev pub mix_scope : Scope
mix_scope = record near_scope { body = Some mix_ports }
