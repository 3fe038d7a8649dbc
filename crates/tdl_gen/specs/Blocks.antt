-- The blocks of a module: what is done at each offset of each mode, phase by phase.
use Rattle.std.specs.Prelude.{ℕ, suc, ◌+◌, ◌-◌, ◌==◌, ◌&&◌, List, [], ◌∷◌, ◌++◌, map, filter, length, Option, Some, None, slice_get, if◌then◌else◌}
use Rattle.std.specs.List.{list_any}
use Rattle.tdl_base.specs.Lists.{joined, numbered}
use Rattle.tdl_body.specs.declared.tree.Expr.{Expr}
use Rattle.tdl_ecode.specs.declared.instr.EInstr.{EInstr}
use Rattle.tdl_ecode.specs.declared.instr.EInstr.TheVariants as e
use Rattle.tdl_ecode.specs.declared.instr.Block.{Block}
use Rattle.tdl_mode.specs.declared.program.Module.{Module}
use Rattle.tdl_mode.specs.declared.program.Mode.{Mode}
use Rattle.tdl_mode.specs.declared.program.Invocation.{Invocation}
use Rattle.tdl_mode.specs.declared.program.Update.{Update}
use Rattle.tdl_mode.specs.declared.program.Switch.{Switch}
use Rattle.tdl_mode.specs.Offsets.{next_offset}
use Rattle.tdl_gen.specs.BlockNames.{BlockName, block_names, block_number, driver_names, guard_names, release_names, number_in}

-- the index after an instruction at an index and so many more
abbrev pub index_after : ℕ → List EInstr → ℕ
index_after index code = suc index + length code

-- the instructions, after an `if` to the instruction after them where the activity is guarded; the first at this index
abbrev pub guarded : Module → ℕ → ℕ → Option Expr → ℕ → List EInstr → List EInstr
guarded m k act None index code = code
guarded m k act (Some guard) index code = e.If (number_in (guard_names m) k act) (index_after index code) ∷ code

-- the instructions of items, one after the other, the first at this index
abbrev pub laid : {A : Type 0} → (ℕ → A → List EInstr) → ℕ → List A → List EInstr
laid code index [] = []
laid code index (a ∷ more) = code index a ++ laid code (index + length (code index a)) more

-- the tasks with an invocation that ends at o, by task
abbrev pub ending : Module → Mode → ℕ → List ℕ
ending m mode o =
    joined (numbered 0 (λ t task.
    if list_any (λ i. i.task.0 == t && i.e.0 == o) mode.invocations then t ∷ [] else []) m.tasks)

-- the updates at o, by actuator
abbrev pub updates_at : Module → Mode → ℕ → List Update
updates_at m mode o =
    joined (numbered 0 (λ a actuator. filter (λ u. u.actuator == a && u.at.0 == o) mode.updates) m.actuators)

-- the switches at o, in order of the source
abbrev pub switches_at : Mode → ℕ → List Switch
switches_at mode o = filter (λ s. s.at.0 == o) mode.switches

-- an invocation with its number from 1
pub record Numbered : Type 0 where
  pub number : ℕ
  pub invocation : Invocation

-- the invocations that start at o, by number
abbrev pub starting : Mode → ℕ → List Numbered
starting mode o =
    filter (λ n. n.invocation.s.0 == o) (numbered 1 (λ n i. record { number = n; invocation = i }) mode.invocations)

-- the code of an update
abbrev pub update_code : Module → ℕ → ℕ → Update → List EInstr
update_code m k index u = guarded m k u.act u.guard index (e.Call (number_in (driver_names m) k u.act) ∷ [])

-- the code of a switch
abbrev pub switch_code : Module → ℕ → ℕ → Switch → List EInstr
switch_code m k index s =
    guarded m k s.act s.guard index
    (e.Mode s.target.0 ∷ e.Future 0 (block_number m (BlockName.Starts s.target.0 0)) ∷ e.Return ∷ [])

-- the code of a start
abbrev pub start_code : Module → ℕ → ℕ → Numbered → List EInstr
start_code m k index n =
    guarded m k n.invocation.act n.invocation.guard index (e.Release (number_in (release_names m) k n.number) ∷ [])

-- at the end of a period the mode is entered again
abbrev pub cycle_code : Module → ℕ → Mode → ℕ → List EInstr
cycle_code m k mode o =
    if o == mode.period.0
    then e.Mode k ∷ e.Future 0 (block_number m (BlockName.Starts k 0)) ∷ e.Return ∷ []
    else e.Future 0 (block_number m (BlockName.Starts k o)) ∷ e.Return ∷ []

-- a block of a mode, where there is such a mode
abbrev pub mode_block : Module → Option Mode → BlockName → Block
mode_block m None name = record { phase = 3; code = [] }
mode_block m (Some mode) BlockName.Boot = record { phase = 3; code = [] }
mode_block m (Some mode) (BlockName.Ends k o) = record {
  phase = 1;
  code = map e.End (ending m mode o) ++ e.Future 0 (block_number m (BlockName.Updates k o)) ∷ e.Return ∷ [];
}
mode_block m (Some mode) (BlockName.Updates k o) = record {
  phase = 2;
  code = laid (update_code m k) 0 (updates_at m mode o)
      ++ e.Future 0 (block_number m (BlockName.Switches k o)) ∷ e.Return ∷ [];
}
mode_block m (Some mode) (BlockName.Switches k o) = record {
  phase = 3;
  code = laid (switch_code m k) 0 (switches_at mode o) ++ cycle_code m k mode o;
}
mode_block m (Some mode) (BlockName.Starts k o) = record {
  phase = 4;
  code = laid (start_code m k) 0 (starting mode o)
      ++ e.Future (next_offset mode o - o) (block_number m (BlockName.Ends k (next_offset mode o))) ∷ e.Return ∷ [];
}

-- the block of a name
abbrev pub block_of : Module → BlockName → Block
block_of m BlockName.Boot = record {
  phase = 3;
  code = e.Mode m.start.0 ∷ e.Future 0 (block_number m (BlockName.Starts m.start.0 0)) ∷ e.Return ∷ [];
}
block_of m (BlockName.Ends k o) = mode_block m (slice_get m.modes k) (BlockName.Ends k o)
block_of m (BlockName.Updates k o) = mode_block m (slice_get m.modes k) (BlockName.Updates k o)
block_of m (BlockName.Switches k o) = mode_block m (slice_get m.modes k) (BlockName.Switches k o)
block_of m (BlockName.Starts k o) = mode_block m (slice_get m.modes k) (BlockName.Starts k o)

-- the blocks of a module
abbrev pub blocks_of : Module → List Block
blocks_of m = map (block_of m) (block_names m)
