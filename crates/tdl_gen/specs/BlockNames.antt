-- The names of a module's blocks, calls, guards, drivers and releases. A number is the place of a name.
use Rattle.std.specs.Prelude.{ℕ, suc, Bool, true, false, ◌&&◌, ◌==◌, nat_lt, is_some, List, [], ◌∷◌, ◌++◌, map, filter, flat_map, if◌then◌else◌}
use Rattle.tdl_base.specs.Lists.{joined, numbered}
use Rattle.tdl_mode.specs.declared.program.Module.{Module}
use Rattle.tdl_mode.specs.declared.program.Mode.{Mode}
use Rattle.tdl_mode.specs.Offsets.{offsets, ascending}

-- a block of a module: the first one, or one of a mode and an offset
pub data BlockName : Type 0 where
  Boot : BlockName
  Ends : (mode offset : ℕ) → BlockName
  Updates : (mode offset : ℕ) → BlockName
  Switches : (mode offset : ℕ) → BlockName
  Starts : (mode offset : ℕ) → BlockName

-- the blocks of an offset of a mode
abbrev pub names_at : ℕ → Mode → ℕ → List BlockName
names_at k mode o =
    (if nat_lt 0 o then BlockName.Ends k o ∷ BlockName.Updates k o ∷ BlockName.Switches k o ∷ [] else [])
    ++ (if nat_lt o mode.period.0 then BlockName.Starts k o ∷ [] else [])

-- the blocks of a module, in order of their numbers
abbrev pub block_names : Module → List BlockName
block_names m = BlockName.Boot ∷ joined (numbered 0 (λ k mode. flat_map (names_at k mode) (offsets mode)) m.modes)

-- two names of blocks are the same
abbrev pub is_same : BlockName → BlockName → Bool
is_same BlockName.Boot BlockName.Boot = true
is_same (BlockName.Ends m o) (BlockName.Ends k p) = m == k && o == p
is_same (BlockName.Updates m o) (BlockName.Updates k p) = m == k && o == p
is_same (BlockName.Switches m o) (BlockName.Switches k p) = m == k && o == p
is_same (BlockName.Starts m o) (BlockName.Starts k p) = m == k && o == p
is_same a b = false

-- the place of a name among names
abbrev pub place : {A : Type 0} → (A → A → Bool) → A → List A → ℕ
place same a [] = 0
place same a (b ∷ bs) = if same a b then 0 else suc (place same a bs)

-- the number of a block
abbrev pub block_number : Module → BlockName → ℕ
block_number m name = place is_same name (block_names m)

-- an activity of a mode, or an invocation of a mode by its number from 1
pub record InMode : Type 0 where
  pub mode : ℕ
  pub number : ℕ

-- two names are of one mode and one number
abbrev pub same_in_mode : InMode → InMode → Bool
same_in_mode a b = a.mode == b.mode && a.number == b.number

-- these activities of each mode, each once and in order of the source
abbrev pub activities : (Mode → List ℕ) → Module → List InMode
activities acts m =
    joined (numbered 0 (λ k mode. map (λ a. record { mode = k; number = a }) (ascending (acts mode))) m.modes)

-- the task activities: a call for each
abbrev pub call_names : Module → List InMode
call_names m = activities (λ mode. map (λ i. i.act) mode.invocations) m

-- the update activities: a driver for each
abbrev pub driver_names : Module → List InMode
driver_names m = activities (λ mode. map (λ u. u.act) mode.updates) m

-- the guarded activities of a mode
abbrev pub guard_acts : Mode → List ℕ
guard_acts mode =
    map (λ i. i.act) (filter (λ i. is_some i.guard) mode.invocations)
    ++ map (λ u. u.act) (filter (λ u. is_some u.guard) mode.updates)
    ++ map (λ s. s.act) (filter (λ s. is_some s.guard) mode.switches)

-- the guarded activities: a guard for each
abbrev pub guard_names : Module → List InMode
guard_names m = activities guard_acts m

-- the invocations: a release for each
abbrev pub release_names : Module → List InMode
release_names m =
    joined (numbered 0 (λ k mode. numbered 1 (λ n i. record { mode = k; number = n }) mode.invocations) m.modes)

-- the number of a call, driver, guard or release
abbrev pub number_in : List InMode → ℕ → ℕ → ℕ
number_in names k a = place same_in_mode (record { mode = k; number = a }) names
