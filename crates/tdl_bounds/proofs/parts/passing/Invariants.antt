-- The names that are left are passed where all are.
use Rattle.std.proofs.Common.{◌≡◌, drop, slice_get}
use Rattle.tdl_rules.specs.Lists.{each}
use Rattle.tdl_bounds.specs.Parts.{names_of}
use Rattle.tdl_bounds.proofs.parts.passing.Given as goal

abbrev pub invariant-loop-decl : goal.invariant-loop-decl
invariant-loop-decl l =
    slice_get (each (names_of l.part) l.decls) l.most
    ≡ slice_get (each (names_of l.part) (drop l.decl-index l.decls)) l.left
