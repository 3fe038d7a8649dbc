-- What a scenario says: what each sensor reads at each instant, and how long each job takes.
use Rattle.std.specs.Prelude.{ℕ, suc, zero, Bool, ◌==◌, nat_le, ◌&&◌, if◌then◌else◌, ℤ, pos, List, [], ◌∷◌, flat_map, slice_get, unwrap_or}
use Rattle.tdl_base.specs.Sensed.{Course}
use Rattle.tdl_scen.specs.declared.entries.Sense.{Sense}
use Rattle.tdl_scen.specs.declared.entries.TaskTimes.{TaskTimes}

-- an entry of sensor k of module m, at or before x
abbrev pub is_sensed_by : Sense → ℕ → ℕ → ℕ → Bool
is_sensed_by entry x m k = entry.module.0 == m && entry.sensor == k && nat_le entry.at.0 x

-- the value of the last such entry, and `value` where there is none
abbrev pub last_from : ℤ → List Sense → Course
last_from value [] x m k = value
last_from value (entry ∷ more) x m k =
    last_from (if is_sensed_by entry x m k then entry.value else value) more x m k

-- the course of these entries: each sensor's last value so far, and 0 before its first
abbrev pub course_of : List Sense → Course
course_of senses x m k = last_from (pos 0) senses x m k

-- the listed times of task t of module m; a later list of the same task goes on
abbrev pub times_of : List TaskTimes → ℕ → ℕ → List ℕ
times_of times m t =
    flat_map (λ (entry : TaskTimes). if entry.module.0 == m && entry.task.0 == t then entry.times else []) times

-- how long the k-th released job takes, from 1: the k-th listed time, otherwise the worst case
abbrev pub time_of : List TaskTimes → ℕ → ℕ → ℕ → ℕ → ℕ
time_of times worst m t zero = worst
time_of times worst m t (suc k) = unwrap_or (slice_get (times_of times m t) k) worst
