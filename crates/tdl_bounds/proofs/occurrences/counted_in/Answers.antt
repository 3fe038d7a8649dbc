-- One module more, and all.
use Rattle.std.proofs.Common.{sym, arith}
use Rattle.tdl_base.specs.declared.limits.TheConstants.{OCCURRENCES}
use Rattle.tdl_rules.specs.Lists.{each}
use Rattle.tdl_rules.specs.Parts.{modules}
use Rattle.tdl_walk.proofs.Modules.{over, length-modules}
use Rattle.tdl_bounds.specs.Occurrences.{after, of_module}
use Rattle.tdl_bounds.specs.declared.occurrences.Counted.TheVariants.{Left}
use Rattle.tdl_bounds.proofs.Counting.{after_next, after_all}
use Rattle.tdl_bounds.proofs.occurrences.counted_in.Goals as goal

pub loop-file-preserved : goal.loop-file-preserved
loop-file-preserved c =
    let scopes = modules c.args.sources.now in
    after_next of_module (after (Left OCCURRENCES) (each of_module scopes)) c.loop-file.counted
    c.after_module-counted.result scopes c.loop-file.file c.in-Some.scope (sym c.in-Some.ensures) c.loop-file.invariant
    c.after_module-counted.ensures

pub returns : goal.returns
returns c =
    let scopes = modules c.args.sources.now in
    after_all of_module (after (Left OCCURRENCES) (each of_module scopes)) c.loop-file.counted scopes c.loop-file.file
    (omega (arith, length-modules c.args.sources.now, c.loop-file-test.false)) c.loop-file.invariant

pub returns-in_default : goal.returns-in_default
returns-in_default c =
    let scopes = modules c.args.sources.now in
    after_all of_module (after (Left OCCURRENCES) (each of_module scopes)) c.loop-file.counted scopes c.loop-file.file
    (over scopes c.loop-file.file c.in_default.ensures) c.loop-file.invariant
