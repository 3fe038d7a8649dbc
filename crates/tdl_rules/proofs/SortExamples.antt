-- Sources that break C5 and C8, and beside each one that just keeps them: sorts and numbers.
use Rattle.std.proofs.Common.{◌≡◌, [], ◌∷◌, true, false, None, Some, codes, refl}
use Rattle.tdl_base.specs.declared.kinds.Kind.TheVariants as kind
use Rattle.tdl_base.specs.declared.arithmetic.UnOp.TheVariants as un
use Rattle.tdl_base.specs.declared.arithmetic.BinOp.TheVariants as bin
use Rattle.tdl_tree.specs.declared.declarations.Decl.TheVariants as decl
use Rattle.tdl_tree.specs.declared.declarations.Sort.TheVariants as sort
use Rattle.tdl_tree.specs.declared.activities.ActKind.TheVariants as act
use Rattle.tdl_tree.specs.declared.statements.StmtTree.TheVariants as stmt
use Rattle.tdl_rules.specs.Faults.{all_faults}
use Rattle.tdl_rules.proofs.Layers.{layers}
use Rattle.tdl_rules.proofs.Sources.{start_mode, small_task, name, number, literal, below_zero, truth, value, truth_value, reads, unary, binary, port, starting, activity, guarded, source, fault}

-- a boolean for a number breaks C5 at its first token
--     module M { actuator int a; start mode m [period=1ms] { update [freq=1] a := !true; } }
boolean_for_number : all_faults
    (source (codes "M") []
    (decl.Actuator kind.Int (name 25 (codes "a")) None ∷
    start_mode 39
    (activity 56 (number 69 1) []
    (act.Update (name 72 (codes "a")) (unary 77 un.Not (truth_value 78 true))) ∷ []) ∷ []) ∷ []) ≡
    fault 5 77 ∷ []
boolean_for_number = simp (layers) refl

-- a number for a number breaks nothing
--     module M { actuator int a; start mode m [period=1ms] { update [freq=1] a := 1; } }
number_for_number : all_faults
    (source (codes "M") []
    (decl.Actuator kind.Int (name 25 (codes "a")) None ∷
    start_mode 39 (activity 56 (number 69 1) [] (act.Update (name 72 (codes "a")) (value 77 1)) ∷ []) ∷ []) ∷ []) ≡
    []
number_for_number = simp (layers) refl

-- a number as a condition, an assigned value, an argument and a guard, where a boolean is needed
--     module M { task t [wcet=1us] { input boolean i; local boolean l; if 1 { l := 2; } } start mode m [period=1ms] {
--     task [freq=1] t(3) if 4; } }
number_for_boolean : all_faults
    (source (codes "M") []
    (small_task 17
    (port sort.Input kind.Boolean (name 46 (codes "i")) ∷
    port sort.Local kind.Boolean (name 63 (codes "l")) ∷ [])
    (stmt.If (value 69 1) (stmt.Assign (name 73 (codes "l")) (value 78 2) ∷ []) None ∷ []) ∷
    start_mode 96
    (guarded
    (activity 113 (number 124 1) [] (act.Task (name 127 (codes "t")) (value 129 3 ∷ [])))
    (value 135 4) ∷ []) ∷ []) ∷ []) ≡
    fault 5 69 ∷ fault 5 78 ∷ fault 5 129 ∷ fault 5 135 ∷ []
number_for_boolean = simp (layers) refl

-- the operands of operators: numbers for `+` and `<`, booleans for `&&` and `!`
--     module M { task t [wcet=1us] { local boolean l; l := !1; l := true && 2; l := true < 3; l := false + 4 < 5; l
--     := -true; } start mode m [period=1ms] { } }
operands : all_faults
    (source (codes "M") []
    (small_task 17 (port sort.Local kind.Boolean (name 46 (codes "l")) ∷ [])
    (stmt.Assign (name 49 (codes "l")) (unary 54 un.Not (value 55 1)) ∷
    stmt.Assign (name 58 (codes "l")) (binary 63 bin.And (truth_value 63 true) (value 71 2)) ∷
    stmt.Assign (name 74 (codes "l")) (binary 79 bin.Less (truth_value 79 true) (value 86 3)) ∷
    stmt.Assign (name 89 (codes "l"))
    (binary 94 bin.Less (binary 94 bin.Add (truth_value 94 false) (value 102 4)) (value 106 5)) ∷
    stmt.Assign (name 109 (codes "l")) (unary 114 un.Neg (truth_value 115 true)) ∷ []) ∷
    start_mode 134 [] ∷ []) ∷ []) ≡
    fault 5 55 ∷ fault 5 71 ∷ fault 5 79 ∷ fault 5 94 ∷ fault 5 114 ∷ fault 5 115 ∷ []
operands = simp (layers) refl

-- the sides of `==` and `!=` are of one sort, and where they are not the right one is told
--     module M { task t [wcet=1us] { local boolean l; l := 1 == true; l := true != 2; l := 3 == 4; l := false !=
--     true; } start mode m [period=1ms] { } }
sides : all_faults
    (source (codes "M") []
    (small_task 17 (port sort.Local kind.Boolean (name 46 (codes "l")) ∷ [])
    (stmt.Assign (name 49 (codes "l")) (binary 54 bin.Equal (value 54 1) (truth_value 59 true)) ∷
    stmt.Assign (name 65 (codes "l")) (binary 70 bin.NotEqual (truth_value 70 true) (value 78 2)) ∷
    stmt.Assign (name 81 (codes "l")) (binary 86 bin.Equal (value 86 3) (value 91 4)) ∷
    stmt.Assign (name 94 (codes "l"))
    (binary 99 bin.NotEqual (truth_value 99 false) (truth_value 108 true)) ∷ []) ∷
    start_mode 127 [] ∷ []) ∷ []) ≡
    fault 5 59 ∷ fault 5 78 ∷ []
sides = simp (layers) refl

-- a name that is not found is of no sort, and an operator has its own: C5 at `1`, C3 at `x`
--     module M { task t [wcet=1us] { local boolean l; if 1 + x { l := x; } } start mode m [period=1ms] { } }
unknown_name : all_faults
    (source (codes "M") []
    (small_task 17 (port sort.Local kind.Boolean (name 46 (codes "l")) ∷ [])
    (stmt.If (binary 52 bin.Add (value 52 1) (reads 56 (codes "x")))
    (stmt.Assign (name 60 (codes "l")) (reads 65 (codes "x")) ∷ [])
    None ∷ []) ∷
    start_mode 83 [] ∷ []) ∷ []) ≡
    fault 5 52 ∷ fault 3 56 ∷ fault 3 65 ∷ []
unknown_name = simp (layers) refl

-- literals of constants, actuators and outputs are of their kinds
--     module M { const boolean k = 1; actuator int a := true; task t [wcet=1us] { output byte o := false; } start
--     mode m [period=1ms] { } }
literals_of_other_sort : all_faults
    (source (codes "M") []
    (decl.Const false kind.Boolean (name 26 (codes "k")) (literal 30 1) ∷
    decl.Actuator kind.Int (name 46 (codes "a")) (Some (truth 51 true)) ∷
    small_task 62 (starting (port sort.Output kind.Byte (name 89 (codes "o"))) (truth 94 false) ∷ []) [] ∷
    start_mode 114 [] ∷ []) ∷ []) ≡
    fault 5 30 ∷ fault 5 51 ∷ fault 5 94 ∷ []
literals_of_other_sort = refl

-- of their sort they break nothing, also where they are to be narrowed
--     module M { const boolean k = true; actuator int a := -1; task t [wcet=1us] { output byte o := 300; } start mode
--     m [period=1ms] { } }
literals_of_their_sort : all_faults
    (source (codes "M") []
    (decl.Const false kind.Boolean (name 26 (codes "k")) (truth 30 true) ∷
    decl.Actuator kind.Int (name 49 (codes "a")) (Some (below_zero 54 1)) ∷
    small_task 63 (starting (port sort.Output kind.Byte (name 90 (codes "o"))) (literal 95 300) ∷ []) [] ∷
    start_mode 113 [] ∷ []) ∷ []) ≡
    []
literals_of_their_sort = refl

-- a number above the greatest breaks C8, and a minus sign before it makes it no smaller
--     module M { const long k = -9223372036854775808; task t [wcet=1us] { local long l; l := 1 + 9223372036854775808;
--     } start mode m [period=1ms] { } }
number_too_great : all_faults
    (source (codes "M") []
    (decl.Const false kind.Long (name 23 (codes "k")) (below_zero 27 9223372036854775808) ∷
    small_task 54 (port sort.Local kind.Long (name 80 (codes "l")) ∷ [])
    (stmt.Assign (name 83 (codes "l")) (binary 88 bin.Add (value 88 1) (value 92 9223372036854775808)) ∷ []) ∷
    start_mode 126 [] ∷ []) ∷ []) ≡
    fault 8 28 ∷ fault 8 92 ∷ []
number_too_great = simp (layers) refl

-- the greatest number breaks nothing
--     module M { const long k = -9223372036854775807; task t [wcet=1us] { local long l; l := 1 + 9223372036854775807;
--     } start mode m [period=1ms] { } }
greatest_number : all_faults
    (source (codes "M") []
    (decl.Const false kind.Long (name 23 (codes "k")) (below_zero 27 9223372036854775807) ∷
    small_task 54 (port sort.Local kind.Long (name 80 (codes "l")) ∷ [])
    (stmt.Assign (name 83 (codes "l")) (binary 88 bin.Add (value 88 1) (value 92 9223372036854775807)) ∷ []) ∷
    start_mode 126 [] ∷ []) ∷ []) ≡
    []
greatest_number = simp (layers) refl
