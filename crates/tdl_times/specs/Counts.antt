-- How many slots ranges choose.
use Rattle.std.specs.Prelude.{ℕ, suc, ◌+◌, ◌-◌, List, [], ◌∷◌}
use Rattle.tdl_tree.specs.declared.activities.Slots.{Slots}
use Rattle.tdl_rules.specs.Times.{last_of}

-- the slots of all ranges together
abbrev pub chosen : List Slots → ℕ
chosen [] = 0
chosen (range ∷ more) = (suc (last_of range) - range.first.value) + chosen more
