-- The modules that are left, counted from here on, give what all give.
use Rattle.std.proofs.Common.{◌≡◌, drop}
use Rattle.tdl_base.specs.declared.limits.TheConstants.{OCCURRENCES}
use Rattle.tdl_rules.specs.Lists.{each}
use Rattle.tdl_rules.specs.Parts.{modules}
use Rattle.tdl_bounds.specs.Occurrences.{after, of_module}
use Rattle.tdl_bounds.specs.declared.occurrences.Counted.TheVariants.{Left}
use Rattle.tdl_bounds.proofs.occurrences.counted_in.Given as goal

abbrev pub invariant-loop-file : goal.invariant-loop-file
invariant-loop-file l =
    after (Left OCCURRENCES) (each of_module (modules l.sources))
    ≡ after l.counted (each of_module (drop l.file (modules l.sources)))
