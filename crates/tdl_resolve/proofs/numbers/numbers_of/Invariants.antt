use Rattle.std.proofs.Common.{◌≡◌, map, take}
use Rattle.tdl_resolve.proofs.numbers.numbers_of.Given as goal

abbrev pub invariant-loop-file : goal.invariant-loop-file
invariant-loop-file l = l.rows ≡ map (λ tree. tree.decls) (take l.file l.sources)
