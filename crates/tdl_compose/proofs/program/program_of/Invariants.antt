-- The modules so far with those of the sources that are left are all.
use Rattle.std.proofs.Common.{◌≡◌, ◌++◌, map, drop}
use Rattle.tdl_rules.specs.Parts as parts
use Rattle.tdl_program.specs.Programs.{module_of}
use Rattle.tdl_compose.proofs.program.program_of.Given as goal

abbrev pub invariant-loop-file : goal.invariant-loop-file
invariant-loop-file l =
    l.modules ++ map module_of (drop l.file (parts.modules l.sources)) ≡ map module_of (parts.modules l.sources)
