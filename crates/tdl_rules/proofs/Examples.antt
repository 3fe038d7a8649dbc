-- Whole programs, and the order of their faults.
use Rattle.std.proofs.Common.{◌≡◌, [], ◌∷◌, true, false, None, codes, refl}
use Rattle.tdl_base.specs.declared.kinds.Kind.TheVariants as kind
use Rattle.tdl_base.specs.declared.arithmetic.UnOp.TheVariants as un
use Rattle.tdl_base.specs.declared.arithmetic.BinOp.TheVariants as bin
use Rattle.tdl_tree.specs.declared.declarations.Decl.TheVariants as decl
use Rattle.tdl_tree.specs.declared.declarations.Sort.TheVariants as sort
use Rattle.tdl_tree.specs.declared.activities.ActKind.TheVariants as act
use Rattle.tdl_tree.specs.declared.statements.StmtTree.TheVariants as stmt
use Rattle.tdl_tree.specs.declared.declarations.Decl.{Decl}
use Rattle.tdl_tree.specs.declared.declarations.Tree.{Tree}
use Rattle.tdl_rules.specs.Faults.{all_faults}
use Rattle.tdl_rules.proofs.Layers.{layers}
use Rattle.tdl_rules.proofs.Sources.{start_mode, name_at, name, number_at, number, us, ms, literal, value, truth_value, reads, path, unary, binary, port, starting, slot, activity_at, activity, guarded, source, fault_in, fault}

-- a later rule may stand at an earlier place: C12 at the module, C1 behind it
--     module M { mode m [period=1ms] { } mode m [period=1ms] { } }
later_rule_earlier : all_faults
    (source (codes "M") []
    (decl.Mode false (name 17 (codes "m")) (ms (number 27 1)) [] ∷
    decl.Mode false (name 41 (codes "m")) (ms (number 51 1)) [] ∷ []) ∷ []) ≡
    fault 12 8 ∷ fault 1 41 ∷ []
later_rule_earlier = refl

-- at one place the lesser rule comes first
--     module M { start mode m [period=1ms] { } start mode m [period=1ms] { } }
rules_at_one_place : all_faults
    (source (codes "M") [] (start_mode 23 [] ∷ start_mode 53 [] ∷ []) ∷ []) ≡
    fault 1 53 ∷ fault 12 53 ∷ []
rules_at_one_place = refl

-- faults of an earlier source come first
--     module M { mode n [period=0us] { } start mode m [period=1ms] { } }
--     module N { }
second_source : all_faults
    (source (codes "M") []
    (decl.Mode false (name 17 (codes "n")) (us (number 27 0)) [] ∷ start_mode 47 [] ∷ []) ∷
    source (codes "N") [] [] ∷ []) ≡
    fault 9 27 ∷ fault_in 1 12 8 ∷ []
second_source = refl

-- an unknown name hides no other fault
--     module M { actuator int a; start mode m [period=1ms] { update [freq=3] a := x + true; task [freq=2, slots=3]
--     y(9223372036854775808) if 1; switch [freq=1] to m; } }
nothing_hidden : all_faults
    (source (codes "M") []
    (decl.Actuator kind.Int (name 25 (codes "a")) None ∷
    start_mode 39
    (activity 56 (number 69 3) []
    (act.Update (name 72 (codes "a"))
    (binary 77 bin.Add (reads 77 (codes "x")) (truth_value 81 true))) ∷
    guarded
    (activity 87 (number 98 2) (slot (number 107 3) ∷ [])
    (act.Task (name 110 (codes "y")) (value 112 9223372036854775808 ∷ [])))
    (value 136 1) ∷
    activity 139 (number 152 1) [] (act.Switch (name 158 (codes "m"))) ∷ []) ∷ []) ∷ []) ≡
    fault 10 69 ∷ fault 3 77 ∷ fault 5 81 ∷ fault 11 107 ∷ fault 3 110 ∷ fault 8 112 ∷ fault 5 136 ∷ fault 16 158 ∷ []
nothing_hidden = simp (layers) refl

-- the task `inc` of `P`
abbrev module_p_inc : Decl
module_p_inc =
    decl.Task true (name 38 (codes "inc")) (us (number 48 200))
    (port sort.Input kind.Int (name 67 (codes "a")) ∷
    starting (port sort.Output kind.Int (name 81 (codes "o"))) (literal 86 10) ∷ [])
    (stmt.Assign (name 90 (codes "o")) (binary 95 bin.Add (reads 95 (codes "o")) (reads 99 (codes "a"))) ∷ [])

-- the mode `main` of `P`
abbrev module_p_main : Decl
module_p_main =
    decl.Mode true (name 115 (codes "main")) (ms (number 128 5))
    (activity 135 (number 146 1) [] (act.Task (name 149 (codes "inc")) (reads 153 (codes "s") ∷ [])) ∷ [])

-- the module `P`
--     module P { sensor int s; public task inc [wcet=200us] { input int a; output int o := 10; o := o + a; } start
--     mode main [period=5ms] { task [freq=1] inc(s); } }
abbrev module_p : Tree
module_p =
    source (codes "P") [] (decl.Sensor kind.Int (name 23 (codes "s")) ∷ module_p_inc ∷ module_p_main ∷ [])

-- the mode `main` of `C`
abbrev module_c_main : Decl
module_c_main =
    decl.Mode true (name 49 (codes "main")) (ms (number 62 5))
    (activity 69 (number 82 1) []
    (act.Update (name 85 (codes "v"))
    (path (name 90 (codes "P")) (name 92 (codes "inc") ∷ name 96 (codes "o") ∷ []))) ∷ [])

-- the module `C`
--     module C { import P; actuator int v; start mode main [period=5ms] { update [freq=1] v := P.inc.o; } }
abbrev module_c : Tree
module_c =
    source (codes "C") (name 19 (codes "P") ∷ [])
    (decl.Actuator kind.Int (name 35 (codes "v")) None ∷ module_c_main ∷ [])

-- the mode `main` of `W`
abbrev module_w_main : Decl
module_w_main =
    decl.Mode true (name 53 (codes "main")) (ms (number 66 5))
    (activity 73 (number 86 1) []
    (act.Update (name 89 (codes "q")) (unary 94 un.Neg (reads 95 (codes "r")))) ∷ [])

-- the module `W`
--     module W { sensor int r; actuator int q; start mode main [period=5ms] { update [freq=1] q := -r; } }
abbrev module_w : Tree
module_w =
    source (codes "W") []
    (decl.Sensor kind.Int (name 23 (codes "r")) ∷
    decl.Actuator kind.Int (name 39 (codes "q")) None ∷
    module_w_main ∷ [])

-- a counter, its display and a plant: no fault
counter : all_faults (module_p ∷ module_c ∷ module_w ∷ []) ≡ []
counter = simp (layers) refl

-- the mode `a` of `H`
abbrev module_h_a : Decl
module_h_a =
    decl.Mode true (name_at 4 14 (codes "a")) (ms (number_at 4 24 10))
    (activity_at 5 5 (number_at 5 16 1) [] (act.Task (name_at 5 19 (codes "t")) []) ∷
    activity_at 6 5 (number_at 6 18 2) [] (act.Switch (name_at 6 24 (codes "b"))) ∷ [])

-- the module `H`
--     module H {
--       task t [wcet=10us] {
--       }
--       start mode a [period=10ms] {
--         task [freq=1] t();
--         switch [freq=2] to b;
--       }
--       mode b [period=10ms] {
--       }
--     }
abbrev module_h : Tree
module_h =
    source (codes "H") []
    (decl.Task false (name_at 2 8 (codes "t")) (us (number_at 2 16 10)) [] [] ∷
    module_h_a ∷
    decl.Mode false (name_at 8 8 (codes "b")) (ms (number_at 8 18 10)) [] ∷ [])

-- a switch at 5 ms cuts the LET of 10 ms
cut_let : all_faults (module_h ∷ []) ≡ (record { rule = 15; file = 0; line = 6; col = 24 }) ∷ []
cut_let = refl

-- the task `read` of `Gyro`
abbrev gyro_read : Decl
gyro_read =
    decl.Task true (name 85 (codes "read")) (us (number 96 300))
    (port sort.Input kind.Int (name 115 (codes "r")) ∷
    port sort.Output kind.Int (name 129 (codes "rate")) ∷ [])
    (stmt.Assign (name 135 (codes "rate"))
    (binary 143 bin.Mul (reads 143 (codes "r")) (reads 147 (codes "scale"))) ∷ [])

-- the mode `run` of `Gyro`
abbrev gyro_run : Decl
gyro_run =
    decl.Mode true (name 167 (codes "run")) (ms (number 179 5))
    (activity 186 (number 197 1) [] (act.Task (name 200 (codes "read")) (reads 205 (codes "raw") ∷ [])) ∷ [])

-- the module `Gyro`
--     module Gyro { sensor int raw uses gyro_raw; public const int scale = 4; public task read [wcet=300us] { input
--     int r; output int rate; rate := r * scale; } start mode run [period=5ms] { task [freq=1] read(raw); } }
abbrev gyro : Tree
gyro =
    source (codes "Gyro") []
    (decl.Sensor kind.Int (name 26 (codes "raw")) ∷
    decl.Const true kind.Int (name 62 (codes "scale")) (literal 70 4) ∷
    gyro_read ∷
    gyro_run ∷ [])

-- the task `filter` of `Est`
abbrev est_filter : Decl
est_filter =
    decl.Task true (name 39 (codes "filter")) (us (number 52 900))
    (port sort.Input kind.Int (name 71 (codes "rate")) ∷
    port sort.Output kind.Int (name 88 (codes "est")) ∷
    port sort.Output kind.Boolean (name 108 (codes "slow")) ∷ [])
    (stmt.Assign (name 114 (codes "est"))
    (binary 121 bin.Div
    (binary 121 bin.Add (reads 122 (codes "est")) (reads 128 (codes "rate")))
    (value 136 2)) ∷
    stmt.Assign (name 139 (codes "slow"))
    (binary 147 bin.And
    (binary 147 bin.Less (reads 147 (codes "est")) (value 153 50))
    (binary 159 bin.Greater (reads 159 (codes "est")) (unary 165 un.Neg (value 166 50)))) ∷ [])

-- the mode `run` of `Est`
abbrev est_run : Decl
est_run =
    decl.Mode true (name 183 (codes "run")) (ms (number 195 10))
    (activity 203 (number 214 1) []
    (act.Task (name 217 (codes "filter"))
    (path (name 224 (codes "Gyro")) (name 229 (codes "read") ∷ name 234 (codes "rate") ∷ []) ∷ [])) ∷ [])

-- the module `Est`
--     module Est { import Gyro; public task filter [wcet=900us] { input int rate; output int est; output boolean
--     slow; est := (est + rate) / 2; slow := est < 50 && est > -50; } start mode run [period=10ms] { task [freq=1]
--     filter(Gyro.read.rate); } }
abbrev est : Tree
est =
    source (codes "Est") (name 21 (codes "Gyro") ∷ []) (est_filter ∷ est_run ∷ [])

-- the task `law` of `Ctl`
abbrev ctl_law : Decl
ctl_law =
    decl.Task false (name 52 (codes "law")) (ms (number 62 1))
    (port sort.Input kind.Int (name 79 (codes "e")) ∷
    port sort.Input kind.Int (name 92 (codes "gain")) ∷
    port sort.Output kind.Int (name 109 (codes "u")) ∷ [])
    (stmt.Assign (name 112 (codes "u"))
    (binary 117 bin.Div
    (unary 117 un.Neg (binary 118 bin.Mul (reads 119 (codes "e")) (reads 123 (codes "gain"))))
    (value 131 10)) ∷ [])

-- the mode `detumble` of `Ctl`
abbrev ctl_detumble : Decl
ctl_detumble =
    decl.Mode true (name 148 (codes "detumble")) (ms (number 165 10))
    (activity 173 (number 184 1) []
    (act.Task (name 187 (codes "law"))
    (path (name 191 (codes "Est")) (name 195 (codes "filter") ∷ name 202 (codes "est") ∷ []) ∷
    value 207 8 ∷ [])) ∷
    activity 211 (number 224 1) []
    (act.Update (name 227 (codes "torque")) (path (name 237 (codes "law")) (name 241 (codes "u") ∷ []))) ∷
    guarded
    (activity 244 (number 257 1) [] (act.Switch (name 263 (codes "point"))))
    (path (name 272 (codes "Est")) (name 276 (codes "filter") ∷ name 283 (codes "slow") ∷ [])) ∷ [])

-- the mode `point` of `Ctl`
abbrev ctl_point : Decl
ctl_point =
    decl.Mode false (name 296 (codes "point")) (ms (number 310 20))
    (activity 318 (number 329 2) []
    (act.Task (name 332 (codes "law"))
    (path (name 336 (codes "Est")) (name 340 (codes "filter") ∷ name 347 (codes "est") ∷ []) ∷
    value 352 2 ∷ [])) ∷
    activity 356 (number 369 2) []
    (act.Update (name 372 (codes "torque")) (path (name 382 (codes "law")) (name 386 (codes "u") ∷ []))) ∷
    guarded
    (activity 389 (number 402 1) [] (act.Switch (name 408 (codes "detumble"))))
    (unary 420 un.Not
    (path (name 421 (codes "Est")) (name 425 (codes "filter") ∷ name 432 (codes "slow") ∷ []))) ∷ [])

-- the module `Ctl`
--     module Ctl { import Est; actuator int torque; task law [wcet=1ms] { input int e; input int gain; output int u;
--     u := -(e * gain) / 10; } start mode detumble [period=10ms] { task [freq=1] law(Est.filter.est, 8); update
--     [freq=1] torque := law.u; switch [freq=1] to point if Est.filter.slow; } mode point [period=20ms] { task
--     [freq=2] law(Est.filter.est, 2); update [freq=2] torque := law.u; switch [freq=1] to detumble if
--     !Est.filter.slow; } }
abbrev ctl : Tree
ctl =
    source (codes "Ctl") (name 21 (codes "Est") ∷ [])
    (decl.Actuator kind.Int (name 39 (codes "torque")) None ∷ ctl_law ∷ ctl_detumble ∷ ctl_point ∷ [])

-- the attitude control: no fault
attitude_control : all_faults (gyro ∷ est ∷ ctl ∷ []) ≡ []
attitude_control = simp (layers) refl
