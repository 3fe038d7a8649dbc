-- Sources that break C3, C4, C6 and C7, and beside each one that just keeps them: what names mean.
use Rattle.std.proofs.Common.{◌≡◌, [], ◌∷◌, true, false, None, codes, refl}
use Rattle.tdl_base.specs.declared.kinds.Kind.TheVariants as kind
use Rattle.tdl_base.specs.declared.arithmetic.BinOp.TheVariants as bin
use Rattle.tdl_tree.specs.declared.declarations.Decl.TheVariants as decl
use Rattle.tdl_tree.specs.declared.declarations.Sort.TheVariants as sort
use Rattle.tdl_tree.specs.declared.activities.ActKind.TheVariants as act
use Rattle.tdl_tree.specs.declared.statements.StmtTree.TheVariants as stmt
use Rattle.tdl_rules.specs.Faults.{all_faults}
use Rattle.tdl_rules.proofs.Layers.{layers}
use Rattle.tdl_rules.proofs.Sources.{start_mode, small_task, name, number, us, literal, truth, value, truth_value, reads, path, binary, port, activity, source, fault_in, fault}

-- in a body a port is found before a constant
--     module M { const boolean k = true; task t [wcet=1us] { local int k; k := 1; } start mode m [period=1ms] { } }
port_before_constant : all_faults
    (source (codes "M") []
    (decl.Const false kind.Boolean (name 26 (codes "k")) (truth 30 true) ∷
    small_task 41 (port sort.Local kind.Int (name 66 (codes "k")) ∷ [])
    (stmt.Assign (name 69 (codes "k")) (value 74 1) ∷ []) ∷
    start_mode 90 [] ∷ []) ∷ []) ≡
    []
port_before_constant = simp (layers) refl

-- the part that is not found is the one that breaks C3: no import or task, no output, nothing there
--     module M { public task t [wcet=1us] { input int i; } start mode m [period=1ms] { } }
--     module N { import M; sensor int s; actuator int a; start mode m [period=1ms] { update [freq=1] a := s.o + x.t.i
--     + M.x + M.t.i; } }
lost_parts : all_faults
    (source (codes "M") []
    (decl.Task true (name 24 (codes "t")) (us (number 32 1))
    (port sort.Input kind.Int (name 49 (codes "i")) ∷ [])
    [] ∷
    start_mode 65 [] ∷ []) ∷
    source (codes "N") (name 19 (codes "M") ∷ [])
    (decl.Sensor kind.Int (name 33 (codes "s")) ∷
    decl.Actuator kind.Int (name 49 (codes "a")) None ∷
    start_mode 63
    (activity 80 (number 93 1) []
    (act.Update (name 96 (codes "a"))
    (binary 101 bin.Add
    (binary 101 bin.Add
    (binary 101 bin.Add (path (name 101 (codes "s")) (name 103 (codes "o") ∷ []))
    (path (name 107 (codes "x")) (name 109 (codes "t") ∷ name 111 (codes "i") ∷ [])))
    (path (name 115 (codes "M")) (name 117 (codes "x") ∷ [])))
    (path (name 121 (codes "M")) (name 123 (codes "t") ∷ name 125 (codes "i") ∷ [])))) ∷ []) ∷ []) ∷ []) ≡
    fault_in 1 3 101 ∷ fault_in 1 3 107 ∷ fault_in 1 3 117 ∷ fault_in 1 3 125 ∷ []
lost_parts = simp (layers) refl

-- a body reads a name that is nowhere: C3 there
--     module M { task t [wcet=1us] { output int o; o := x; } start mode m [period=1ms] { } }
unknown_value : all_faults
    (source (codes "M") []
    (small_task 17 (port sort.Output kind.Int (name 43 (codes "o")) ∷ [])
    (stmt.Assign (name 46 (codes "o")) (reads 51 (codes "x")) ∷ []) ∷
    start_mode 67 [] ∷ []) ∷ []) ≡
    fault 3 51 ∷ []
unknown_value = simp (layers) refl

-- a body that reads its own output breaks nothing
--     module M { task t [wcet=1us] { output int o; o := o; } start mode m [period=1ms] { } }
own_output : all_faults
    (source (codes "M") []
    (small_task 17 (port sort.Output kind.Int (name 43 (codes "o")) ∷ [])
    (stmt.Assign (name 46 (codes "o")) (reads 51 (codes "o")) ∷ []) ∷
    start_mode 67 [] ∷ []) ∷ []) ≡
    []
own_output = simp (layers) refl

-- a body finds no sensor
--     module M { sensor int s; task t [wcet=1us] { output int o; o := s; } start mode m [period=1ms] { } }
sensor_in_body : all_faults
    (source (codes "M") []
    (decl.Sensor kind.Int (name 23 (codes "s")) ∷
    small_task 31 (port sort.Output kind.Int (name 57 (codes "o")) ∷ [])
    (stmt.Assign (name 60 (codes "o")) (reads 65 (codes "s")) ∷ []) ∷
    start_mode 81 [] ∷ []) ∷ []) ≡
    fault 3 65 ∷ []
sensor_in_body = simp (layers) refl

-- a target that is neither a port nor a constant breaks C3
--     module M { task t [wcet=1us] { x := 1; } start mode m [period=1ms] { } }
unknown_target : all_faults
    (source (codes "M") []
    (small_task 17 [] (stmt.Assign (name 32 (codes "x")) (value 37 1) ∷ []) ∷ start_mode 53 [] ∷ []) ∷ []) ≡
    fault 3 32 ∷ []
unknown_target = simp (layers) refl

-- what an activity names has to be a task, an actuator or a mode, as the activity is
--     module M { sensor int s; start mode m [period=1ms] { task [freq=1] s(); update [freq=1] m := 1; switch [freq=1]
--     to s; } }
wrong_activity : all_faults
    (source (codes "M") []
    (decl.Sensor kind.Int (name 23 (codes "s")) ∷
    start_mode 37
    (activity 54 (number 65 1) [] (act.Task (name 68 (codes "s")) []) ∷
    activity 73 (number 86 1) [] (act.Update (name 89 (codes "m")) (value 94 1)) ∷
    activity 97 (number 110 1) [] (act.Switch (name 116 (codes "s"))) ∷ []) ∷ []) ∷ []) ≡
    fault 3 68 ∷ fault 3 89 ∷ fault 3 116 ∷ []
wrong_activity = simp (layers) refl

-- in a body a name of three parts is lost at its first
--     module M { public task p [wcet=1us] { output int o; } start mode m [period=1ms] { } }
--     module N { import M; task t [wcet=1us] { output int o; o := M.p.o; } start mode m [period=1ms] { } }
three_parts_in_body : all_faults
    (source (codes "M") []
    (decl.Task true (name 24 (codes "p")) (us (number 32 1))
    (port sort.Output kind.Int (name 50 (codes "o")) ∷ [])
    [] ∷
    start_mode 66 [] ∷ []) ∷
    source (codes "N") (name 19 (codes "M") ∷ [])
    (small_task 27 (port sort.Output kind.Int (name 53 (codes "o")) ∷ [])
    (stmt.Assign (name 56 (codes "o"))
    (path (name 61 (codes "M")) (name 63 (codes "p") ∷ name 65 (codes "o") ∷ [])) ∷ []) ∷
    start_mode 81 [] ∷ []) ∷ []) ≡
    fault_in 1 3 61 ∷ []
three_parts_in_body = simp (layers) refl

-- a constant of an import that is not public breaks C4
--     module M { const int k = 1; start mode m [period=1ms] { } }
--     module N { import M; task t [wcet=1us] { output int o; o := M.k; } start mode m [period=1ms] { } }
private_constant : all_faults
    (source (codes "M") []
    (decl.Const false kind.Int (name 22 (codes "k")) (literal 26 1) ∷ start_mode 40 [] ∷ []) ∷
    source (codes "N") (name 19 (codes "M") ∷ [])
    (small_task 27 (port sort.Output kind.Int (name 53 (codes "o")) ∷ [])
    (stmt.Assign (name 56 (codes "o")) (path (name 61 (codes "M")) (name 63 (codes "k") ∷ [])) ∷ []) ∷
    start_mode 79 [] ∷ []) ∷ []) ≡
    fault_in 1 4 63 ∷ []
private_constant = simp (layers) refl

-- a public constant breaks nothing
--     module M { public const int k = 1; start mode m [period=1ms] { } }
--     module N { import M; task t [wcet=1us] { output int o; o := M.k; } start mode m [period=1ms] { } }
public_constant : all_faults
    (source (codes "M") []
    (decl.Const true kind.Int (name 29 (codes "k")) (literal 33 1) ∷ start_mode 47 [] ∷ []) ∷
    source (codes "N") (name 19 (codes "M") ∷ [])
    (small_task 27 (port sort.Output kind.Int (name 53 (codes "o")) ∷ [])
    (stmt.Assign (name 56 (codes "o")) (path (name 61 (codes "M")) (name 63 (codes "k") ∷ [])) ∷ []) ∷
    start_mode 79 [] ∷ []) ∷ []) ≡
    []
public_constant = simp (layers) refl

-- a task of an import that is not public breaks C4
--     module M { task t [wcet=1us] { output int o; } start mode m [period=1ms] { } }
--     module N { import M; actuator int a; start mode m [period=1ms] { update [freq=1] a := M.t.o; } }
private_task : all_faults
    (source (codes "M") []
    (small_task 17 (port sort.Output kind.Int (name 43 (codes "o")) ∷ []) [] ∷ start_mode 59 [] ∷ []) ∷
    source (codes "N") (name 19 (codes "M") ∷ [])
    (decl.Actuator kind.Int (name 35 (codes "a")) None ∷
    start_mode 49
    (activity 66 (number 79 1) []
    (act.Update (name 82 (codes "a"))
    (path (name 87 (codes "M")) (name 89 (codes "t") ∷ name 91 (codes "o") ∷ []))) ∷ []) ∷ []) ∷ []) ≡
    fault_in 1 4 89 ∷ []
private_task = simp (layers) refl

-- a public task breaks nothing
--     module M { public task t [wcet=1us] { output int o; } start mode m [period=1ms] { } }
--     module N { import M; actuator int a; start mode m [period=1ms] { update [freq=1] a := M.t.o; } }
public_task : all_faults
    (source (codes "M") []
    (decl.Task true (name 24 (codes "t")) (us (number 32 1))
    (port sort.Output kind.Int (name 50 (codes "o")) ∷ [])
    [] ∷
    start_mode 66 [] ∷ []) ∷
    source (codes "N") (name 19 (codes "M") ∷ [])
    (decl.Actuator kind.Int (name 35 (codes "a")) None ∷
    start_mode 49
    (activity 66 (number 79 1) []
    (act.Update (name 82 (codes "a"))
    (path (name 87 (codes "M")) (name 89 (codes "t") ∷ name 91 (codes "o") ∷ []))) ∷ []) ∷ []) ∷ []) ≡
    []
public_task = simp (layers) refl

-- what an import imports is declared there, and is no constant: C4
--     module M { start mode m [period=1ms] { } }
--     module X { import M; start mode m [period=1ms] { } }
--     module N { import X; actuator int a; start mode m [period=1ms] { update [freq=1] a := X.M; } }
import_of_import : all_faults
    (source (codes "M") [] (start_mode 23 [] ∷ []) ∷
    source (codes "X") (name 19 (codes "M") ∷ []) (start_mode 33 [] ∷ []) ∷
    source (codes "N") (name 19 (codes "X") ∷ [])
    (decl.Actuator kind.Int (name 35 (codes "a")) None ∷
    start_mode 49
    (activity 66 (number 79 1) []
    (act.Update (name 82 (codes "a")) (path (name 87 (codes "X")) (name 89 (codes "M") ∷ []))) ∷ []) ∷ []) ∷ []) ≡
    fault_in 2 4 89 ∷ []
import_of_import = simp (layers) refl

-- a name means its first declaration, whatever a later one is
--     module M { sensor boolean s; sensor int s; actuator int a; start mode m [period=1ms] { update [freq=1] a := s;
--     } }
first_is_meant : all_faults
    (source (codes "M") []
    (decl.Sensor kind.Boolean (name 27 (codes "s")) ∷
    decl.Sensor kind.Int (name 41 (codes "s")) ∷
    decl.Actuator kind.Int (name 57 (codes "a")) None ∷
    start_mode 71
    (activity 88 (number 101 1) [] (act.Update (name 104 (codes "a")) (reads 109 (codes "s"))) ∷ []) ∷ []) ∷ []) ≡
    fault 1 41 ∷ fault 5 109 ∷ []
first_is_meant = simp (layers) refl

-- an input as a target breaks C6
--     module M { task t [wcet=1us] { input int i; i := 1; } start mode m [period=1ms] { } }
input_as_target : all_faults
    (source (codes "M") []
    (small_task 17 (port sort.Input kind.Int (name 42 (codes "i")) ∷ [])
    (stmt.Assign (name 45 (codes "i")) (value 50 1) ∷ []) ∷
    start_mode 66 [] ∷ []) ∷ []) ≡
    fault 6 45 ∷ []
input_as_target = simp (layers) refl

-- a local as a target breaks nothing
--     module M { task t [wcet=1us] { local int l; l := 1; } start mode m [period=1ms] { } }
local_as_target : all_faults
    (source (codes "M") []
    (small_task 17 (port sort.Local kind.Int (name 42 (codes "l")) ∷ [])
    (stmt.Assign (name 45 (codes "l")) (value 50 1) ∷ []) ∷
    start_mode 66 [] ∷ []) ∷ []) ≡
    []
local_as_target = simp (layers) refl

-- a constant as a target breaks C6, and a value of another sort breaks C5 beside it
--     module M { const int k = 1; task t [wcet=1us] { k := true; } start mode m [period=1ms] { } }
constant_as_target : all_faults
    (source (codes "M") []
    (decl.Const false kind.Int (name 22 (codes "k")) (literal 26 1) ∷
    small_task 34 [] (stmt.Assign (name 49 (codes "k")) (truth_value 54 true) ∷ []) ∷
    start_mode 73 [] ∷ []) ∷ []) ≡
    fault 6 49 ∷ fault 5 54 ∷ []
constant_as_target = simp (layers) refl

-- an argument less than there are inputs breaks C7
--     module M { task t [wcet=1us] { input int i; } start mode m [period=1ms] { task [freq=1] t(); } }
argument_missing : all_faults
    (source (codes "M") []
    (small_task 17 (port sort.Input kind.Int (name 42 (codes "i")) ∷ []) [] ∷
    start_mode 58 (activity 75 (number 86 1) [] (act.Task (name 89 (codes "t")) []) ∷ []) ∷ []) ∷ []) ≡
    fault 7 89 ∷ []
argument_missing = refl

-- as many arguments as inputs break nothing
--     module M { task t [wcet=1us] { input int i; } start mode m [period=1ms] { task [freq=1] t(1); } }
argument_each : all_faults
    (source (codes "M") []
    (small_task 17 (port sort.Input kind.Int (name 42 (codes "i")) ∷ []) [] ∷
    start_mode 58 (activity 75 (number 86 1) [] (act.Task (name 89 (codes "t")) (value 91 1 ∷ [])) ∷ []) ∷ []) ∷ []) ≡
    []
argument_each = simp (layers) refl

-- where their number is wrong, arguments are not compared with inputs
--     module M { task t [wcet=1us] { input int i; } start mode m [period=1ms] { task [freq=1] t(true, 1); } }
arguments_not_compared : all_faults
    (source (codes "M") []
    (small_task 17 (port sort.Input kind.Int (name 42 (codes "i")) ∷ []) [] ∷
    start_mode 58
    (activity 75 (number 86 1) []
    (act.Task (name 89 (codes "t")) (truth_value 91 true ∷ value 97 1 ∷ [])) ∷ []) ∷ []) ∷ []) ≡
    fault 7 89 ∷ []
arguments_not_compared = simp (layers) refl
