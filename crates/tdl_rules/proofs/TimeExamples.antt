-- Sources that break C13 to C17, and beside each one that just keeps them: what overlaps in time.
use Rattle.std.proofs.Common.{◌≡◌, [], ◌∷◌, false, None, codes, refl}
use Rattle.tdl_base.specs.declared.kinds.Kind.TheVariants as kind
use Rattle.tdl_tree.specs.declared.declarations.Decl.TheVariants as decl
use Rattle.tdl_tree.specs.declared.activities.ActKind.TheVariants as act
use Rattle.tdl_rules.specs.Faults.{all_faults}
use Rattle.tdl_rules.proofs.Layers.{layers}
use Rattle.tdl_rules.proofs.Sources.{start_mode, small_task, name, number, us, ms, seconds, value, slot, slots, activity, source, fault}

-- two LETs of one task that overlap break C13 in the activity of the later invocation
--     module M { task t [wcet=1us] { } start mode m [period=1ms] { task [freq=1] t(); task [freq=2, slots=1] t(); } }
overlapping : all_faults
    (source (codes "M") []
    (small_task 17 [] [] ∷
    start_mode 45
    (activity 62 (number 73 1) [] (act.Task (name 76 (codes "t")) []) ∷
    activity 81 (number 92 2) (slot (number 101 1) ∷ []) (act.Task (name 104 (codes "t")) []) ∷ []) ∷ []) ∷ []) ≡
    fault 13 104 ∷ []
overlapping = refl

-- LETs that touch break nothing
--     module M { task t [wcet=1us] { } start mode m [period=1ms] { task [freq=4, slots=3-4] t(); task [freq=2,
--     slots=1] t(); } }
touching : all_faults
    (source (codes "M") []
    (small_task 17 [] [] ∷
    start_mode 45
    (activity 62 (number 73 4) (slots (number 82 3) (number 84 4) ∷ [])
    (act.Task (name 87 (codes "t")) []) ∷
    activity 92 (number 103 2) (slot (number 112 1) ∷ []) (act.Task (name 115 (codes "t")) []) ∷ []) ∷ []) ∷ []) ≡
    []
touching = refl

-- LETs of two tasks break nothing
--     module M { task t [wcet=1us] { } task u [wcet=1us] { } start mode m [period=1ms] { task [freq=1] t(); task
--     [freq=1] u(); } }
two_tasks : all_faults
    (source (codes "M") []
    (small_task 17 [] [] ∷
    decl.Task false (name 39 (codes "u")) (us (number 47 1)) [] [] ∷
    start_mode 67
    (activity 84 (number 95 1) [] (act.Task (name 98 (codes "t")) []) ∷
    activity 103 (number 114 1) [] (act.Task (name 117 (codes "u")) []) ∷ []) ∷ []) ∷ []) ≡
    []
two_tasks = refl

-- nor do LETs of two modes
--     module M { task t [wcet=1us] { } mode n [period=1ms] { task [freq=1] t(); } start mode m [period=1ms] { task
--     [freq=1] t(); switch [freq=1] to n; } }
two_modes : all_faults
    (source (codes "M") []
    (small_task 17 [] [] ∷
    decl.Mode false (name 39 (codes "n")) (ms (number 49 1))
    (activity 56 (number 67 1) [] (act.Task (name 70 (codes "t")) []) ∷ []) ∷
    start_mode 88
    (activity 105 (number 116 1) [] (act.Task (name 119 (codes "t")) []) ∷
    activity 124 (number 137 1) [] (act.Switch (name 143 (codes "n"))) ∷ []) ∷ []) ∷ []) ≡
    []
two_modes = refl

-- an actuator that is updated twice at one offset breaks C14 in the later activity
--     module M { actuator int a; start mode m [period=1ms] { update [freq=1] a := 1; update [freq=2] a := 2; } }
updated_twice : all_faults
    (source (codes "M") []
    (decl.Actuator kind.Int (name 25 (codes "a")) None ∷
    start_mode 39
    (activity 56 (number 69 1) [] (act.Update (name 72 (codes "a")) (value 77 1)) ∷
    activity 80 (number 93 2) [] (act.Update (name 96 (codes "a")) (value 101 2)) ∷ []) ∷ []) ∷ []) ≡
    fault 14 96 ∷ []
updated_twice = simp (layers) refl

-- an actuator that is updated at two offsets breaks nothing
--     module M { actuator int a; start mode m [period=1ms] { update [freq=1] a := 1; update [freq=2, slots=1] a := 2;
--     } }
updated_apart : all_faults
    (source (codes "M") []
    (decl.Actuator kind.Int (name 25 (codes "a")) None ∷
    start_mode 39
    (activity 56 (number 69 1) [] (act.Update (name 72 (codes "a")) (value 77 1)) ∷
    activity 80 (number 93 2) (slot (number 102 1) ∷ [])
    (act.Update (name 105 (codes "a")) (value 110 2)) ∷ []) ∷ []) ∷ []) ≡
    []
updated_apart = simp (layers) refl

-- a switch inside of a LET breaks C15 at its target
--     module M { task t [wcet=1us] { } mode n [period=1ms] { } start mode m [period=1ms] { task [freq=4, slots=1,2-3]
--     t(); switch [freq=2] to n; } }
switch_inside : all_faults
    (source (codes "M") []
    (small_task 17 [] [] ∷
    decl.Mode false (name 39 (codes "n")) (ms (number 49 1)) [] ∷
    start_mode 69
    (activity 86 (number 97 4)
    (slot (number 106 1) ∷ slots (number 108 2) (number 110 3) ∷ [])
    (act.Task (name 113 (codes "t")) []) ∷
    activity 118 (number 131 2) [] (act.Switch (name 137 (codes "n"))) ∷ []) ∷ []) ∷ []) ≡
    fault 15 137 ∷ []
switch_inside = refl

-- a switch at the end of a LET and at the start of one breaks nothing
--     module M { task t [wcet=1us] { } mode n [period=1ms] { } start mode m [period=1ms] { task [freq=2] t(); switch
--     [freq=2] to n; } }
switch_between : all_faults
    (source (codes "M") []
    (small_task 17 [] [] ∷
    decl.Mode false (name 39 (codes "n")) (ms (number 49 1)) [] ∷
    start_mode 69
    (activity 86 (number 97 2) [] (act.Task (name 100 (codes "t")) []) ∷
    activity 105 (number 118 2) [] (act.Switch (name 124 (codes "n"))) ∷ []) ∷ []) ∷ []) ≡
    []
switch_between = refl

-- an activity keeps its LETs where its task is not found
--     module M { mode n [period=1ms] { } start mode m [period=1ms] { task [freq=1] x(); switch [freq=2] to n; } }
cuts_unknown_task : all_faults
    (source (codes "M") []
    (decl.Mode false (name 17 (codes "n")) (ms (number 27 1)) [] ∷
    start_mode 47
    (activity 64 (number 75 1) [] (act.Task (name 78 (codes "x")) []) ∷
    activity 83 (number 96 2) [] (act.Switch (name 102 (codes "n"))) ∷ []) ∷ []) ∷ []) ≡
    fault 3 78 ∷ fault 15 102 ∷ []
cuts_unknown_task = refl

-- a switch to its own mode breaks C16
--     module M { start mode m [period=1ms] { switch [freq=1] to m; } }
switch_to_itself : all_faults
    (source (codes "M") []
    (start_mode 23 (activity 40 (number 53 1) [] (act.Switch (name 59 (codes "m"))) ∷ []) ∷ []) ∷ []) ≡
    fault 16 59 ∷ []
switch_to_itself = refl

-- a switch to another mode breaks nothing
--     module M { mode n [period=1ms] { } start mode m [period=1ms] { switch [freq=1] to n; } }
switch_to_other : all_faults
    (source (codes "M") []
    (decl.Mode false (name 17 (codes "n")) (ms (number 27 1)) [] ∷
    start_mode 47 (activity 64 (number 77 1) [] (act.Switch (name 83 (codes "n"))) ∷ []) ∷ []) ∷ []) ≡
    []
switch_to_other = refl

-- a worst case of 0 breaks C17 at its number
--     module M { task t [wcet=0us] { } start mode m [period=1ms] { } }
no_worst_case : all_faults
    (source (codes "M") []
    (decl.Task false (name 17 (codes "t")) (us (number 25 0)) [] [] ∷ start_mode 45 [] ∷ []) ∷ []) ≡
    fault 17 25 ∷ []
no_worst_case = refl

-- a worst case above 10 s breaks C17
--     module M { task t [wcet=10000001us] { } start mode m [period=1ms] { } }
long_worst_case : all_faults
    (source (codes "M") []
    (decl.Task false (name 17 (codes "t")) (us (number 25 10000001)) [] [] ∷ start_mode 52 [] ∷ []) ∷ []) ≡
    fault 17 25 ∷ []
long_worst_case = refl

-- a worst case of exactly 10 s breaks nothing
--     module M { task t [wcet=10s] { } start mode m [period=1ms] { } }
worst_case_of_ten_seconds : all_faults
    (source (codes "M") []
    (decl.Task false (name 17 (codes "t")) (seconds (number 25 10)) [] [] ∷ start_mode 45 [] ∷ []) ∷ []) ≡
    []
worst_case_of_ten_seconds = refl

-- a worst case above a LET breaks C17 at the task in the activity
--     module M { task t [wcet=501us] { } start mode m [period=1ms] { task [freq=2] t(); } }
worst_case_above_let : all_faults
    (source (codes "M") []
    (decl.Task false (name 17 (codes "t")) (us (number 25 501)) [] [] ∷
    start_mode 47 (activity 64 (number 75 2) [] (act.Task (name 78 (codes "t")) []) ∷ []) ∷ []) ∷ []) ≡
    fault 17 78 ∷ []
worst_case_above_let = refl

-- a worst case that fills a LET breaks nothing
--     module M { task t [wcet=500us] { } start mode m [period=1ms] { task [freq=2] t(); } }
worst_case_fills_let : all_faults
    (source (codes "M") []
    (decl.Task false (name 17 (codes "t")) (us (number 25 500)) [] [] ∷
    start_mode 47 (activity 64 (number 75 2) [] (act.Task (name 78 (codes "t")) []) ∷ []) ∷ []) ∷ []) ≡
    []
worst_case_fills_let = refl

-- a worst case may be too long in itself, and for each LET
--     module M { task t [wcet=11s] { } start mode m [period=1ms] { task [freq=1] t(); } }
worst_case_twice : all_faults
    (source (codes "M") []
    (decl.Task false (name 17 (codes "t")) (seconds (number 25 11)) [] [] ∷
    start_mode 45 (activity 62 (number 73 1) [] (act.Task (name 76 (codes "t")) []) ∷ []) ∷ []) ∷ []) ≡
    fault 17 25 ∷ fault 17 76 ∷ []
worst_case_twice = refl

-- an activity that breaks C10 has no LETs
--     module M { task t [wcet=1us] { } mode n [period=1ms] { } start mode m [period=1ms] { task [freq=1] t(); task
--     [freq=3] t(); } }
no_occurrences : all_faults
    (source (codes "M") []
    (small_task 17 [] [] ∷
    decl.Mode false (name 39 (codes "n")) (ms (number 49 1)) [] ∷
    start_mode 69
    (activity 86 (number 97 1) [] (act.Task (name 100 (codes "t")) []) ∷
    activity 105 (number 116 3) [] (act.Task (name 119 (codes "t")) []) ∷ []) ∷ []) ∷ []) ≡
    fault 10 116 ∷ []
no_occurrences = refl
