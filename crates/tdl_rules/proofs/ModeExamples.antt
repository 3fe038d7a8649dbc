-- Sources that break C9 to C12, and beside each one that just keeps them: periods, frequencies, slots, starts.
use Rattle.std.proofs.Common.{◌≡◌, [], ◌∷◌, true, false, codes, refl}
use Rattle.tdl_tree.specs.declared.declarations.Decl.TheVariants as decl
use Rattle.tdl_tree.specs.declared.activities.ActKind.TheVariants as act
use Rattle.tdl_rules.specs.Faults.{all_faults}
use Rattle.tdl_rules.proofs.Sources.{start_mode, name, number, us, ms, seconds, slot, slots, activity, source, fault}

-- a period of 0 breaks C9 at its number
--     module M { start mode m [period=0us] { } }
no_period : all_faults
    (source (codes "M") [] (decl.Mode true (name 23 (codes "m")) (us (number 33 0)) [] ∷ []) ∷ []) ≡
    fault 9 33 ∷ []
no_period = refl

-- a period above 10 s breaks C9
--     module M { start mode m [period=10000001us] { } }
long_period : all_faults
    (source (codes "M") [] (decl.Mode true (name 23 (codes "m")) (us (number 33 10000001)) [] ∷ []) ∷ []) ≡
    fault 9 33 ∷ []
long_period = refl

-- a period of exactly 10 s breaks nothing
--     module M { start mode m [period=10s] { } }
ten_seconds : all_faults
    (source (codes "M") [] (decl.Mode true (name 23 (codes "m")) (seconds (number 33 10)) [] ∷ []) ∷ []) ≡
    []
ten_seconds = refl

-- a period of 1 us breaks nothing
--     module M { start mode m [period=1us] { } }
one_microsecond : all_faults
    (source (codes "M") [] (decl.Mode true (name 23 (codes "m")) (us (number 33 1)) [] ∷ []) ∷ []) ≡
    []
one_microsecond = refl

-- a frequency of 0 breaks C10
--     module M { mode n [period=1ms] { } start mode m [period=1ms] { switch [freq=0] to n; } }
no_frequency : all_faults
    (source (codes "M") []
    (decl.Mode false (name 17 (codes "n")) (ms (number 27 1)) [] ∷
    start_mode 47 (activity 64 (number 77 0) [] (act.Switch (name 83 (codes "n"))) ∷ []) ∷ []) ∷ []) ≡
    fault 10 77 ∷ []
no_frequency = refl

-- a frequency above 1,000 breaks C10
--     module M { mode n [period=1ms] { } start mode m [period=2002us] { switch [freq=1001] to n; } }
high_frequency : all_faults
    (source (codes "M") []
    (decl.Mode false (name 17 (codes "n")) (ms (number 27 1)) [] ∷
    decl.Mode true (name 47 (codes "m")) (us (number 57 2002))
    (activity 67 (number 80 1001) [] (act.Switch (name 89 (codes "n"))) ∷ []) ∷ []) ∷ []) ≡
    fault 10 80 ∷ []
high_frequency = refl

-- a frequency that does not divide the period breaks C10
--     module M { mode n [period=1ms] { } start mode m [period=1ms] { switch [freq=3] to n; } }
uneven_frequency : all_faults
    (source (codes "M") []
    (decl.Mode false (name 17 (codes "n")) (ms (number 27 1)) [] ∷
    start_mode 47 (activity 64 (number 77 3) [] (act.Switch (name 83 (codes "n"))) ∷ []) ∷ []) ∷ []) ≡
    fault 10 77 ∷ []
uneven_frequency = refl

-- a frequency of 1,000 breaks nothing
--     module M { mode n [period=1ms] { } start mode m [period=1ms] { switch [freq=1000] to n; } }
thousand : all_faults
    (source (codes "M") []
    (decl.Mode false (name 17 (codes "n")) (ms (number 27 1)) [] ∷
    start_mode 47 (activity 64 (number 77 1000) [] (act.Switch (name 86 (codes "n"))) ∷ []) ∷ []) ∷ []) ≡
    []
thousand = refl

-- a range that ends before it begins breaks C11
--     module M { mode n [period=1ms] { } start mode m [period=1ms] { switch [freq=2, slots=2-1] to n; } }
range_falls : all_faults
    (source (codes "M") []
    (decl.Mode false (name 17 (codes "n")) (ms (number 27 1)) [] ∷
    start_mode 47
    (activity 64 (number 77 2) (slots (number 86 2) (number 88 1) ∷ [])
    (act.Switch (name 94 (codes "n"))) ∷ []) ∷ []) ∷ []) ≡
    fault 11 86 ∷ []
range_falls = refl

-- a range of one slot breaks nothing
--     module M { mode n [period=1ms] { } start mode m [period=1ms] { switch [freq=2, slots=1-1,2] to n; } }
range_of_one : all_faults
    (source (codes "M") []
    (decl.Mode false (name 17 (codes "n")) (ms (number 27 1)) [] ∷
    start_mode 47
    (activity 64 (number 77 2)
    (slots (number 86 1) (number 88 1) ∷ slot (number 90 2) ∷ [])
    (act.Switch (name 96 (codes "n"))) ∷ []) ∷ []) ∷ []) ≡
    []
range_of_one = refl

-- slots are counted from 1, so slot 0 breaks C11
--     module M { mode n [period=1ms] { } start mode m [period=1ms] { switch [freq=2, slots=0-1] to n; } }
slot_zero : all_faults
    (source (codes "M") []
    (decl.Mode false (name 17 (codes "n")) (ms (number 27 1)) [] ∷
    start_mode 47
    (activity 64 (number 77 2) (slots (number 86 0) (number 88 1) ∷ [])
    (act.Switch (name 94 (codes "n"))) ∷ []) ∷ []) ∷ []) ≡
    fault 11 86 ∷ []
slot_zero = refl

-- slots are counted up to the frequency, so a slot after it breaks C11
--     module M { mode n [period=1ms] { } start mode m [period=1ms] { switch [freq=2, slots=1,2-3] to n; } }
slot_past : all_faults
    (source (codes "M") []
    (decl.Mode false (name 17 (codes "n")) (ms (number 27 1)) [] ∷
    start_mode 47
    (activity 64 (number 77 2)
    (slot (number 86 1) ∷ slots (number 88 2) (number 90 3) ∷ [])
    (act.Switch (name 96 (codes "n"))) ∷ []) ∷ []) ∷ []) ≡
    fault 11 88 ∷ []
slot_past = refl

-- each range lies after the one before, and the first that does not is told
--     module M { mode n [period=1ms] { } start mode m [period=1ms] { switch [freq=4, slots=1-2,2-3,1] to n; } }
range_again : all_faults
    (source (codes "M") []
    (decl.Mode false (name 17 (codes "n")) (ms (number 27 1)) [] ∷
    start_mode 47
    (activity 64 (number 77 4)
    (slots (number 86 1) (number 88 2) ∷
    slots (number 90 2) (number 92 3) ∷
    slot (number 94 1) ∷ [])
    (act.Switch (name 100 (codes "n"))) ∷ []) ∷ []) ∷ []) ≡
    fault 11 90 ∷ []
range_again = refl

-- a module without a start mode breaks C12 at its name
--     module M { }
no_start : all_faults (source (codes "M") [] [] ∷ []) ≡ fault 12 8 ∷ []
no_start = refl

-- a second start mode breaks C12 at the mode
--     module M { start mode m [period=1ms] { } start mode n [period=1ms] { } }
second_start : all_faults
    (source (codes "M") []
    (start_mode 23 [] ∷ decl.Mode true (name 53 (codes "n")) (ms (number 63 1)) [] ∷ []) ∷ []) ≡
    fault 12 53 ∷ []
second_start = refl

-- one start mode, which need not be the first mode, breaks nothing
--     module M { mode m [period=1ms] { } start mode n [period=1ms] { } }
one_start : all_faults
    (source (codes "M") []
    (decl.Mode false (name 17 (codes "m")) (ms (number 27 1)) [] ∷
    decl.Mode true (name 47 (codes "n")) (ms (number 57 1)) [] ∷ []) ∷ []) ≡
    []
one_start = refl

-- a frequency is held against the period as it is written
--     module M { mode n [period=0us] { switch [freq=3] to m; } start mode m [period=11s] { switch [freq=3] to n; } }
period_as_written : all_faults
    (source (codes "M") []
    (decl.Mode false (name 17 (codes "n")) (us (number 27 0))
    (activity 34 (number 47 3) [] (act.Switch (name 53 (codes "m"))) ∷ []) ∷
    decl.Mode true (name 69 (codes "m")) (seconds (number 79 11))
    (activity 86 (number 99 3) [] (act.Switch (name 105 (codes "n"))) ∷ []) ∷ []) ∷ []) ≡
    fault 9 27 ∷ fault 9 79 ∷ fault 10 99 ∷ []
period_as_written = refl
