-- What files and sinks hold, where they tell it, and the counts of their faults, which never fall.
use Rattle.std.specs.Prelude.{◌≡◌, ◌≢◌, ℕ, ◌+◌, ◌-◌, ◌^◌, ◌<◌, ◌≤◌, min, List, [], length, take, ⊤, None, Some, unwrap_or}
use Rattle.std.specs.declared.option.Option.{Option}
-- `Appends before now bytes`: what a sink holds grows by the bytes, where it tells that; one that tells goes on telling
pub use Rattle.std.specs.Io.KnownBytes.{Appends}

-- one more, up to the greatest u64
abbrev pub raised : ℕ → ℕ
raised count = min (count + 1) (2 ^ 64 - 1)

-- a count rose, or stands at the greatest u64
abbrev pub Rose : ℕ → ℕ → Type 0
Rose before now = raised before ≤ now

-- the bytes begin with this part
abbrev pub IsPart : List ℕ → List ℕ → Type 0
IsPart part bytes = take (length part) bytes ≡ part

-- what files hold: the bytes of a name, or none where there is no such name
abbrev pub Held : Type 0
Held = List ℕ → Option (List ℕ)

-- the file of a name, which is empty where there is no such name
abbrev pub file_in : Held → List ℕ → List ℕ
file_in held name = unwrap_or (held name) []

-- the bytes are the whole file, where the files tell what they hold
abbrev pub Reads : Option Held → List ℕ → List ℕ → Type 0
Reads None name bytes = ⊤
Reads (Some held) name bytes = bytes ≡ file_in held name

-- the file begins with the bytes, where the files tell what they hold
abbrev pub ReadsPart : Option Held → List ℕ → List ℕ → Type 0
ReadsPart None name bytes = ⊤
ReadsPart (Some held) name bytes = IsPart bytes (file_in held name)

-- the file is longer than the limit, where the files tell what they hold
abbrev pub IsLonger : Option Held → List ℕ → ℕ → Type 0
IsLonger None name limit = ⊤
IsLonger (Some held) name limit = limit < length (file_in held name)

-- a name's file is these bytes, where the files tell what they hold
abbrev pub Saves : Option Held → List ℕ → List ℕ → Type 0
Saves None name bytes = ⊤
Saves (Some held) name bytes = held name ≡ Some bytes

-- no other name's file changes, where the files tell what they hold before and now; those that tell may stop
abbrev pub KeepsOthers : Option Held → Option Held → List ℕ → Type 0
KeepsOthers None now name = ⊤
KeepsOthers (Some before) None name = ⊤
KeepsOthers (Some before) (Some now) name = (other : List ℕ) → other ≢ name → now other ≡ before other

-- for each name a count
abbrev pub Counts : Type 0
Counts = List ℕ → ℕ

-- no name's count falls, where the files tell these counts; those that tell go on telling
abbrev pub NoCountFalls : Option Counts → Option Counts → Type 0
NoCountFalls None now = ⊤
NoCountFalls (Some before) None = ⊥
NoCountFalls (Some before) (Some now) = (name : List ℕ) → before name ≤ now name

-- no name's count changes, where the files tell these counts; those that tell go on telling
abbrev pub NoCountChanges : Option Counts → Option Counts → Type 0
NoCountChanges None now = ⊤
NoCountChanges (Some before) None = ⊥
NoCountChanges (Some before) (Some now) = (name : List ℕ) → now name ≡ before name

-- no other name's count changes, where the files tell these counts; those that tell go on telling
abbrev pub ChangesOnly : Option Counts → Option Counts → List ℕ → Type 0
ChangesOnly None now name = ⊤
ChangesOnly (Some before) None name = ⊥
ChangesOnly (Some before) (Some now) name = (other : List ℕ) → other ≢ name → now other ≡ before other

-- this name's count rose, where the files tell these counts
abbrev pub HasNamedCause : Option Counts → Option Counts → List ℕ → Type 0
HasNamedCause None now name = ⊤
HasNamedCause (Some before) None name = ⊥
HasNamedCause (Some before) (Some now) name = Rose (before name) (now name)

-- what a sink holds grows by some part that the bytes begin with, where it tells that
abbrev pub AppendsPart : Option (List ℕ) → Option (List ℕ) → List ℕ → Type 0
AppendsPart before now bytes = (part : List ℕ) × IsPart part bytes × Appends before now part
