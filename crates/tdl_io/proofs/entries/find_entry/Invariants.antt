use Rattle.std.proofs.Common.{◌≡◌, drop}
use Rattle.tdl_io.specs.MemFiles.{entries_of, held_in}
use Rattle.tdl_io.proofs.entries.find_entry.Given as goal

abbrev pub invariant-loop-entry : goal.invariant-loop-entry
invariant-loop-entry l =
    held_in (entries_of (drop l.entry-index l.entries)) l.name ≡ held_in (entries_of l.entries) l.name
