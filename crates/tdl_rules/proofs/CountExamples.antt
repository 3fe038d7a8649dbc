-- Modules with as many declarations and occurrences as there may be, and with one more: C21; and which those are.
use Rattle.std.proofs.Common.{◌≡◌, ℕ, ◌+◌, ◌/◌, ◌%◌, List, [], ◌∷◌, ◌++◌, map, false, None, codes, refl}
use Rattle.tdl_base.specs.declared.kinds.Kind.TheVariants as kind
use Rattle.tdl_tree.specs.declared.activities.Act.{Act}
use Rattle.tdl_tree.specs.declared.activities.ActKind.TheVariants as act
use Rattle.tdl_tree.specs.declared.declarations.Decl.TheVariants as decl
use Rattle.tdl_tree.specs.declared.declarations.Decl.{Decl}
use Rattle.tdl_tree.specs.declared.declarations.PortDecl.{PortDecl}
use Rattle.tdl_tree.specs.declared.declarations.Sort.TheVariants as sort
use Rattle.tdl_tree.specs.declared.names.Id.{Id}
use Rattle.tdl_tree.specs.declared.declarations.Tree.{Tree}
use Rattle.tdl_rules.specs.declared.fault.Fault.{Fault}
use Rattle.tdl_rules.specs.BoundRules.{c21}
use Rattle.tdl_rules.specs.Faults.{all_faults}
use Rattle.tdl_rules.specs.Times.{from, lets, times}
use Rattle.tdl_rules.proofs.Sources.{name_at, number_at, number, us, ms, literal, port, slot, slots, activity_at, start_mode, small_task, source, name}

-- ---- many declarations, each on a line of its own from line 2 on

-- a name of two digits, as `x07`
abbrev name_on : ℕ → ℕ → Id
name_on col line = name_at line col (120 ∷ (48 + line / 10) ∷ (48 + line % 10) ∷ [])

-- that C21 is broken on a line
abbrev passed_on : ℕ → ℕ → Fault
passed_on line col = record { rule = 21; file = 0; line = line; col = col }

-- `task x07 [wcet=1us] { }`
abbrev task_on : ℕ → Decl
task_on line = decl.Task false (name_on 6 line) (us (number_at line 16 1)) [] []

-- a module of n tasks
abbrev tasks : ℕ → List Tree
tasks n = source (codes "M") [] (start_mode 23 [] ∷ map task_on (from 2 n)) ∷ []

-- 64 tasks break nothing
tasks_64 : all_faults (tasks 64) ≡ []
tasks_64 = refl

-- the 65th breaks C21
tasks_65 : all_faults (tasks 65) ≡ passed_on 66 6 ∷ []
tasks_65 = refl

-- `mode x07 [period=1ms] { }`
abbrev mode_on : ℕ → Decl
mode_on line = decl.Mode false (name_on 6 line) (ms (number_at line 18 1)) []

-- a module of n modes beside the one that starts
abbrev modes : ℕ → List Tree
modes n = source (codes "M") [] (start_mode 23 [] ∷ map mode_on (from 2 n)) ∷ []

-- 32 modes break nothing
modes_32 : all_faults (modes 31) ≡ []
modes_32 = refl

-- the 33rd breaks C21
modes_33 : all_faults (modes 32) ≡ passed_on 33 6 ∷ []
modes_33 = refl

-- `input int x07;`
abbrev port_on : ℕ → PortDecl
port_on line = port sort.Input kind.Int (name_on 11 line)

-- a module with a task of n ports
abbrev ports : ℕ → List Tree
ports n = source (codes "M") [] (start_mode 23 [] ∷ small_task 47 (map port_on (from 2 n)) [] ∷ []) ∷ []

-- 64 ports break nothing
ports_64 : all_faults (ports 64) ≡ []
ports_64 = refl

-- the 65th breaks C21
ports_65 : all_faults (ports 65) ≡ passed_on 66 11 ∷ []
ports_65 = refl

-- a module of n constants, n sensors and n actuators, with names that repeat
abbrev values : ℕ → List Tree
values n =
    source (codes "M") []
    (map (λ line. decl.Const false kind.Int (name_at line 11 (codes "k")) (literal 15 1)) (from 2 n) ++
    map (λ line. decl.Sensor kind.Int (name_at line 32 (codes "s"))) (from 2 n) ++
    map (λ line. decl.Actuator kind.Int (name_at line 49 (codes "a")) None) (from 2 n)) ∷ []

-- 256 of each do not break C21
values_256 : c21 (values 256) ≡ []
values_256 = refl

-- each 257th does
values_257 : c21 (values 257) ≡ passed_on 258 11 ∷ passed_on 258 32 ∷ passed_on 258 49 ∷ []
values_257 = refl

-- ---- many occurrences

-- `switch [freq=1000] to m;`
abbrev thousand_on : ℕ → Act
thousand_on line = activity_at line 1 (number_at line 14 1000) [] (act.Switch (name_at line 23 (codes "m")))

-- `switch [freq=1000, slots=1-7] to m;`, with this last slot
abbrev some_on : ℕ → ℕ → Act
some_on line last =
    activity_at line 1 (number_at line 14 1000) (slots (number_at line 26 1) (number_at line 28 last) ∷ [])
    (act.Switch (name_at line 34 (codes "m")))

-- a mode with 16,000 occurrences
abbrev sixteen_thousand : Decl
sixteen_thousand = start_mode 23 (map thousand_on (from 2 16))

-- a mode with so many occurrences
abbrev some_more : ℕ → Decl
some_more last = start_mode 23 (some_on 18 last ∷ [])

-- two modes of one module with 16,000 occurrences and so many more
abbrev in_two_modes : ℕ → List Tree
in_two_modes last = source (codes "M") [] (sixteen_thousand ∷ some_more last ∷ []) ∷ []

-- 16,384 occurrences do not break C21
occurrences_16384 : c21 (in_two_modes 384) ≡ []
occurrences_16384 = refl

-- the activity with the 16,385th does
occurrences_16385 : c21 (in_two_modes 385) ≡ passed_on 18 1 ∷ []
occurrences_16385 = refl

-- the same in two modules
abbrev in_two_modules : ℕ → List Tree
in_two_modules last =
    source (codes "M") [] (sixteen_thousand ∷ []) ∷ source (codes "N") [] (some_more last ∷ []) ∷ []

-- the occurrences of all modules are counted together
occurrences_together : c21 (in_two_modules 385) ≡ (record { rule = 21; file = 1; line = 18; col = 1 }) ∷ []
occurrences_together = refl

-- ---- which occurrences

-- slot 1 and slots 2 to 3 of 4
abbrev chosen : Act
chosen =
    activity_at 1 1 (number 7 4) (slot (number 9 1) ∷ slots (number 11 2) (number 13 3) ∷ [])
    (act.Switch (name 19 (codes "m")))

-- two invocations in 10 ms, by range
lets_chosen : lets 10000 chosen ≡ (record { s = 0; e = 2500 }) ∷ (record { s = 2500; e = 7500 }) ∷ []
lets_chosen = refl

-- three updates or switches in 10 ms, at the end of each slot
times_chosen : times 10000 chosen ≡ 2500 ∷ 5000 ∷ 7500 ∷ []
times_chosen = refl

-- every slot by itself
abbrev unchosen : Act
unchosen = activity_at 1 1 (number 7 2) [] (act.Switch (name 19 (codes "m")))

-- each slot is an invocation where no slots are written
lets_unchosen : lets 10000 unchosen ≡ (record { s = 0; e = 5000 }) ∷ (record { s = 5000; e = 10000 }) ∷ []
lets_unchosen = refl

-- and an occurrence at its end
times_unchosen : times 10000 unchosen ≡ 5000 ∷ 10000 ∷ []
times_unchosen = refl

-- none of either where the frequency does not divide the period
lets_uneven : lets 9999 unchosen ≡ []
lets_uneven = refl

-- nor occurrences
times_uneven : times 9999 unchosen ≡ []
times_uneven = refl
