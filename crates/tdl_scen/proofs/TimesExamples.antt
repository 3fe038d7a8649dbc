-- Worked examples of the listed times.
use Rattle.std.proofs.Common.{◌≡◌, ℕ, List, [], ◌∷◌, refl}
use Rattle.tdl_scen.specs.declared.entries.TaskTimes.{TaskTimes}
use Rattle.tdl_scen.specs.Scenario.{time_of}

-- times of a task of the first module
abbrev entry : ℕ → List ℕ → TaskTimes
entry task times = record { «module» = record { 0 = 0 }; task = record { 0 = task }; times = times }

-- two entries of task 1, with one of task 2 between them
abbrev listed : List TaskTimes
listed = entry 1 (5 ∷ 6 ∷ []) ∷ entry 2 (9 ∷ []) ∷ entry 1 (7 ∷ []) ∷ []

-- the third job of task 1 has the first time of its second entry
pub goes_on : time_of listed 50 0 1 3 ≡ 7
goes_on = refl

-- its fourth job takes the worst case
pub ends : time_of listed 50 0 1 4 ≡ 50
ends = refl

-- the first job of task 2 has its own first time
pub has_own : time_of listed 50 0 2 1 ≡ 9
has_own = refl

-- a task of another module takes its worst case
pub is_of_module : time_of listed 50 1 1 1 ≡ 50
is_of_module = refl
