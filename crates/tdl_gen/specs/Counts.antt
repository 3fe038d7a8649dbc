-- The declared count of a node: the most instructions that its E-machine runs at one instant.
use Rattle.std.specs.Prelude.{ℕ, ◌+◌, ◌*◌, Bool, nat_lt, ◌==◌, max, List, [], ◌∷◌, map, filter, length, sum, count_by, if◌then◌else◌}
use Rattle.tdl_base.specs.Lists.{joined, numbered}
use Rattle.tdl_mode.specs.declared.program.Program.{Program}
use Rattle.tdl_mode.specs.declared.program.Module.{Module}
use Rattle.tdl_mode.specs.declared.program.Mode.{Mode}
use Rattle.tdl_mode.specs.Offsets.{offsets}
use Rattle.tdl_deploy.specs.declared.placement.Placement.{Placement}
use Rattle.tdl_deploy.specs.declared.schedule.Schedule.{Schedule}
use Rattle.tdl_deploy.specs.Placed.{hosts, imports}
use Rattle.tdl_image.specs.declared.stub.Stub.{Stub}
use Rattle.tdl_image.specs.declared.stub.Receive.{Receive}
use Rattle.tdl_gen.specs.BlockNames.{BlockName}
use Rattle.tdl_gen.specs.Blocks.{block_of}
use Rattle.tdl_gen.specs.Tables.{stub_of, stubs_on}

-- the greatest of some numbers, 0 where there is none
abbrev pub greatest : List ℕ → ℕ
greatest [] = 0
greatest (n ∷ ns) = max n (greatest ns)

-- the length of a block
abbrev pub length_of : Module → BlockName → ℕ
length_of m name = length (block_of m name).code

-- the blocks of phases 1, 2 and 3 at one offset, together
abbrev pub before_starts : Module → ℕ → ℕ → ℕ
before_starts m k o =
    length_of m (BlockName.Ends k o) + length_of m (BlockName.Updates k o) + length_of m (BlockName.Switches k o)

-- some number for each offset of each mode that passes
abbrev pub at_offsets : (Mode → ℕ → Bool) → (ℕ → ℕ → ℕ) → Module → List ℕ
at_offsets passes f m = joined (numbered 0 (λ k mode. map (f k) (filter (passes mode) (offsets mode))) m.modes)

-- blocks of phases 1, 2 and 3 stand at the offsets above 0
abbrev pub has_ends : Mode → ℕ → Bool
has_ends mode o = nat_lt 0 o

-- a block of phase 4 stands at the offsets below the period
abbrev pub has_starts : Mode → ℕ → Bool
has_starts mode o = nat_lt o mode.period.0

-- a hosted module's part: its longest offset, and its longest block of phase 4
abbrev pub module_count : Module → ℕ
module_count m =
    greatest (at_offsets has_ends (before_starts m) m)
    + greatest (at_offsets has_starts (λ k o. length_of m (BlockName.Starts k o)) m)

-- a stub's part: two instructions for each entry of the mode that has the most
abbrev pub stub_count : Stub → ℕ
stub_count s = 2 * greatest (map (λ (e : Receive). count_by (λ (d : Receive). d.mode == e.mode) s.entries) s.entries)

-- the part of module k on a node: as it is hosted there, or its stub, or nothing
abbrev pub part_count : Program → Placement → Schedule → ℕ → ℕ → Module → ℕ
part_count program placement schedule node k m =
    if hosts placement node k then module_count m
    else (if imports program placement node k then stub_count (stub_of program placement schedule k m) else 0)

-- the declared count of a node
abbrev pub declared_of : Program → Placement → Schedule → ℕ → ℕ
declared_of program placement schedule node =
    sum (joined (numbered 0 (λ k m. if hosts placement node k then module_count m ∷ [] else []) program.modules))
    + sum (map stub_count (stubs_on program placement schedule node))
