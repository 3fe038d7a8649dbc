-- Sources that break C18 to C20, and beside each one that just keeps them: how large bodies are.
use Rattle.std.proofs.Common.{◌≡◌, [], ◌∷◌, true, false, None, Some, codes, refl}
use Rattle.tdl_base.specs.declared.kinds.Kind.TheVariants as kind
use Rattle.tdl_base.specs.declared.arithmetic.BinOp.TheVariants as bin
use Rattle.tdl_tree.specs.declared.declarations.Sort.TheVariants as sort
use Rattle.tdl_tree.specs.declared.statements.StmtTree.TheVariants as stmt
use Rattle.tdl_rules.specs.Faults.{all_faults}
use Rattle.tdl_rules.proofs.Layers.{layers}
use Rattle.tdl_rules.proofs.Sources.{minuses, start_mode, small_task, name, number, value, truth_value, reads, binary, port, source, fault}

-- a `repeat` count above 1,000 breaks C18
--     module M { task t [wcet=1us] { local int l; repeat 1001 { l := 1; } } start mode m [period=1ms] { } }
repeat_above : all_faults
    (source (codes "M") []
    (small_task 17 (port sort.Local kind.Int (name 42 (codes "l")) ∷ [])
    (stmt.Repeat (number 52 1001) (stmt.Assign (name 59 (codes "l")) (value 64 1) ∷ []) ∷ []) ∷
    start_mode 82 [] ∷ []) ∷ []) ≡
    fault 18 52 ∷ []
repeat_above = simp (layers) refl

-- a `repeat` count of 1,000 breaks nothing
--     module M { task t [wcet=1us] { local int l; repeat 1000 { l := 1; } } start mode m [period=1ms] { } }
repeat_thousand : all_faults
    (source (codes "M") []
    (small_task 17 (port sort.Local kind.Int (name 42 (codes "l")) ∷ [])
    (stmt.Repeat (number 52 1000) (stmt.Assign (name 59 (codes "l")) (value 64 1) ∷ []) ∷ []) ∷
    start_mode 82 [] ∷ []) ∷ []) ≡
    []
repeat_thousand = simp (layers) refl

-- each statement is judged, however deep
--     module M { task t [wcet=1us] { local int l; if true { } else { if false { repeat 1001 { l := x; } } } } start
--     mode m [period=1ms] { } }
repeat_inside : all_faults
    (source (codes "M") []
    (small_task 17 (port sort.Local kind.Int (name 42 (codes "l")) ∷ [])
    (stmt.If (truth_value 48 true) []
    (Some
    (stmt.If (truth_value 67 false)
    (stmt.Repeat (number 82 1001)
    (stmt.Assign (name 89 (codes "l")) (reads 94 (codes "x")) ∷ []) ∷ [])
    None ∷ [])) ∷ []) ∷
    start_mode 116 [] ∷ []) ∷ []) ≡
    fault 18 82 ∷ fault 3 94 ∷ []
repeat_inside = simp (layers) refl

-- an expression deeper than 32 breaks C19 at its first token
--     module M { task t [wcet=1us] { local int l; l := --------------------------------1; } start mode m [period=1ms]
--     { } }
depth_33 : all_faults
    (source (codes "M") []
    (small_task 17 (port sort.Local kind.Int (name 42 (codes "l")) ∷ [])
    (stmt.Assign (name 45 (codes "l")) (minuses 32 50 1) ∷ []) ∷
    start_mode 98 [] ∷ []) ∷ []) ≡
    fault 19 50 ∷ []
depth_33 = simp (layers) refl

-- an expression of depth 32 breaks nothing
--     module M { task t [wcet=1us] { local int l; l := -------------------------------1; } start mode m [period=1ms]
--     { } }
depth_32 : all_faults
    (source (codes "M") []
    (small_task 17 (port sort.Local kind.Int (name 42 (codes "l")) ∷ [])
    (stmt.Assign (name 45 (codes "l")) (minuses 31 50 1) ∷ []) ∷
    start_mode 97 [] ∷ []) ∷ []) ≡
    []
depth_32 = simp (layers) refl

-- the deepest operand is the one that counts
--     module M { task t [wcet=1us] { local int l; l := 1 + -------------------------------1; } start mode m
--     [period=1ms] { } }
depth_of_both : all_faults
    (source (codes "M") []
    (small_task 17 (port sort.Local kind.Int (name 42 (codes "l")) ∷ [])
    (stmt.Assign (name 45 (codes "l")) (binary 50 bin.Add (value 50 1) (minuses 31 54 1)) ∷ []) ∷
    start_mode 101 [] ∷ []) ∷ []) ≡
    fault 19 50 ∷ []
depth_of_both = simp (layers) refl

-- a body of 100,001 steps breaks C20 at the task
--     module M { task t [wcet=1us] { local int l; repeat 1000 { repeat 99 { l := 1; } } } start mode m [period=1ms] {
--     } }
steps_above : all_faults
    (source (codes "M") []
    (small_task 17 (port sort.Local kind.Int (name 42 (codes "l")) ∷ [])
    (stmt.Repeat (number 52 1000)
    (stmt.Repeat (number 66 99) (stmt.Assign (name 71 (codes "l")) (value 76 1) ∷ []) ∷ []) ∷ []) ∷
    start_mode 96 [] ∷ []) ∷ []) ≡
    fault 20 17 ∷ []
steps_above = simp (layers) refl

-- a body of 100,000 steps breaks nothing
--     module M { task t [wcet=1us] { local int l; repeat 999 { repeat 99 { l := 1; } } repeat 98 { l := 1; } } start
--     mode m [period=1ms] { } }
steps_full : all_faults
    (source (codes "M") []
    (small_task 17 (port sort.Local kind.Int (name 42 (codes "l")) ∷ [])
    (stmt.Repeat (number 52 999)
    (stmt.Repeat (number 65 99) (stmt.Assign (name 70 (codes "l")) (value 75 1) ∷ []) ∷ []) ∷
    stmt.Repeat (number 89 98) (stmt.Assign (name 94 (codes "l")) (value 99 1) ∷ []) ∷ []) ∷
    start_mode 117 [] ∷ []) ∷ []) ≡
    []
steps_full = simp (layers) refl

-- the steps of both blocks of an `if` count
--     module M { task t [wcet=1us] { local int l; repeat 1000 { if true { repeat 49 { l := 1; } } else { repeat 49 {
--     l := 1; } } } } start mode m [period=1ms] { } }
steps_of_both_blocks : all_faults
    (source (codes "M") []
    (small_task 17 (port sort.Local kind.Int (name 42 (codes "l")) ∷ [])
    (stmt.Repeat (number 52 1000)
    (stmt.If (truth_value 62 true)
    (stmt.Repeat (number 76 49) (stmt.Assign (name 81 (codes "l")) (value 86 1) ∷ []) ∷ [])
    (Some
    (stmt.Repeat (number 107 49) (stmt.Assign (name 112 (codes "l")) (value 117 1) ∷ []) ∷ [])) ∷ []) ∷ []) ∷
    start_mode 139 [] ∷ []) ∷ []) ≡
    fault 20 17 ∷ []
steps_of_both_blocks = simp (layers) refl
