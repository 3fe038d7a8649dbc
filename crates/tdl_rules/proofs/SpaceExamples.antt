-- Sources that break C1 and C2, and beside each one that just keeps them: what is declared where.
use Rattle.std.proofs.Common.{◌≡◌, [], ◌∷◌, false, None, codes, refl}
use Rattle.tdl_base.specs.declared.kinds.Kind.TheVariants as kind
use Rattle.tdl_tree.specs.declared.declarations.Decl.TheVariants as decl
use Rattle.tdl_tree.specs.declared.declarations.Sort.TheVariants as sort
use Rattle.tdl_tree.specs.declared.activities.ActKind.TheVariants as act
use Rattle.tdl_rules.specs.Faults.{all_faults}
use Rattle.tdl_rules.proofs.Layers.{layers}
use Rattle.tdl_rules.proofs.Sources.{start_mode, small_task, name, number, ms, literal, path, port, activity, source, fault_in, fault}

-- a second mode of one name breaks C1 there
--     module M { start mode m [period=1ms] { } mode m [period=1ms] { } }
second_mode : all_faults
    (source (codes "M") []
    (start_mode 23 [] ∷ decl.Mode false (name 47 (codes "m")) (ms (number 57 1)) [] ∷ []) ∷ []) ≡
    fault 1 47 ∷ []
second_mode = refl

-- a mode of another name breaks nothing
--     module M { start mode m [period=1ms] { } mode n [period=1ms] { } }
other_mode : all_faults
    (source (codes "M") []
    (start_mode 23 [] ∷ decl.Mode false (name 47 (codes "n")) (ms (number 57 1)) [] ∷ []) ∷ []) ≡
    []
other_mode = refl

-- a second port of one name breaks C1; a port may have the name of a mode
--     module M { task t [wcet=1us] { input int m; local int m; } start mode m [period=1ms] { } }
second_port : all_faults
    (source (codes "M") []
    (small_task 17
    (port sort.Input kind.Int (name 42 (codes "m")) ∷
    port sort.Local kind.Int (name 55 (codes "m")) ∷ [])
    [] ∷
    start_mode 71 [] ∷ []) ∷ []) ≡
    fault 1 55 ∷ []
second_port = refl

-- all declarations of a module share one space, and each later name breaks C1
--     module M { const int t = 1; task t [wcet=1us] { } sensor int t; start mode m [period=1ms] { } }
constant_as_task : all_faults
    (source (codes "M") []
    (decl.Const false kind.Int (name 22 (codes "t")) (literal 26 1) ∷
    small_task 34 [] [] ∷
    decl.Sensor kind.Int (name 62 (codes "t")) ∷
    start_mode 76 [] ∷ []) ∷ []) ≡
    fault 1 34 ∷ fault 1 62 ∷ []
constant_as_task = refl

-- a second module of one name breaks C1
--     module M { start mode m [period=1ms] { } }
--     module M { start mode m [period=1ms] { } }
second_module : all_faults
    (source (codes "M") [] (start_mode 23 [] ∷ []) ∷ source (codes "M") [] (start_mode 23 [] ∷ []) ∷ []) ≡
    fault_in 1 1 8 ∷ []
second_module = refl

-- a module of another name breaks nothing, and may import the first
--     module M { start mode m [period=1ms] { } }
--     module N { import M; start mode m [period=1ms] { } }
other_module : all_faults
    (source (codes "M") [] (start_mode 23 [] ∷ []) ∷
    source (codes "N") (name 19 (codes "M") ∷ []) (start_mode 33 [] ∷ []) ∷ []) ≡
    []
other_module = refl

-- an import of the module itself breaks C2
--     module M { import M; start mode m [period=1ms] { } }
imports_itself : all_faults
    (source (codes "M") (name 19 (codes "M") ∷ []) (start_mode 33 [] ∷ []) ∷ []) ≡
    fault 2 19 ∷ []
imports_itself = refl

-- an import of a later source breaks C2
--     module M { import N; start mode m [period=1ms] { } }
--     module N { start mode m [period=1ms] { } }
imports_later : all_faults
    (source (codes "M") (name 19 (codes "N") ∷ []) (start_mode 33 [] ∷ []) ∷
    source (codes "N") [] (start_mode 23 [] ∷ []) ∷ []) ≡
    fault 2 19 ∷ []
imports_later = refl

-- an import of one module twice breaks C1
--     module M { start mode m [period=1ms] { } }
--     module N { import M; import M; start mode m [period=1ms] { } }
imports_twice : all_faults
    (source (codes "M") [] (start_mode 23 [] ∷ []) ∷
    source (codes "N") (name 19 (codes "M") ∷ name 29 (codes "M") ∷ []) (start_mode 43 [] ∷ []) ∷ []) ≡
    fault_in 1 1 29 ∷ []
imports_twice = refl

-- a name through an import that breaks C2 breaks no further rule
--     module M { import N; actuator int a; start mode m [period=1ms] { update [freq=1] a := N.t.o; } }
lost_through_import : all_faults
    (source (codes "M") (name 19 (codes "N") ∷ [])
    (decl.Actuator kind.Int (name 35 (codes "a")) None ∷
    start_mode 49
    (activity 66 (number 79 1) []
    (act.Update (name 82 (codes "a"))
    (path (name 87 (codes "N")) (name 89 (codes "t") ∷ name 91 (codes "o") ∷ []))) ∷ []) ∷ []) ∷ []) ≡
    fault 2 19 ∷ []
lost_through_import = simp (layers) refl
