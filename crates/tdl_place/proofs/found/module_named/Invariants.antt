use Rattle.std.proofs.Common.{◌≡◌, drop}
use Rattle.tdl_place.specs.Entries.{module_from}
use Rattle.tdl_place.proofs.found.module_named.Given as goal

abbrev pub invariant-loop-number : goal.invariant-loop-number
invariant-loop-number l =
    module_from l.number (drop l.number l.program.modules) l.name ≡ module_from 0 l.program.modules l.name
