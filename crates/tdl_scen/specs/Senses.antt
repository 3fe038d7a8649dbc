-- What was sensed up to an instant: how many entries are over, and the last one of each sensor.
use Rattle.std.specs.Prelude.{◌≡◌, ◌≤◌, ℕ, pos, Bool, not, ◌==◌, ◌&&◌, List, [], ◌∷◌, ◌++◌, length, take, filter}
use Rattle.std.specs.List.Sorted.{IsNonDecreasingBy}
use Rattle.tdl_scen.specs.declared.entries.Sense.{Sense}
use Rattle.tdl_scen.specs.Scenario.{last_from, course_of}

-- no entry is earlier than the one before it
abbrev pub AreInOrder : List Sense → Type 0
AreInOrder entries = IsNonDecreasingBy (λ (entry : Sense). entry.at.0) entries

-- an entry is of another sensor
abbrev pub is_other : Sense → Sense → Bool
is_other entry old = not (old.module.0 == entry.module.0 && old.sensor == entry.sensor)

-- the last entries of the sensors once this one is over
abbrev pub with_latest : List Sense → Sense → List Sense
with_latest latest entry = filter (is_other entry) latest ++ entry ∷ []

-- how many entries are over, and the last of those of each sensor
pub record SensesView : Type 0 where
  pub next : ℕ
  pub latest : List Sense

-- from x on the last entries say what the entries that are over say
pub record IsUpTo (entries : List Sense) (x : ℕ) (s : SensesView) : Type 0 where
  pub within : s.next ≤ length entries
  pub same : (y m k : ℕ) → x ≤ y → last_from (pos 0) s.latest y m k ≡ last_from (pos 0) (take s.next entries) y m k

-- at x the last entries say what all entries say
abbrev pub IsSensedAt : List Sense → ℕ → SensesView → Type 0
IsSensedAt entries x s = course_of s.latest x ≡ course_of entries x
