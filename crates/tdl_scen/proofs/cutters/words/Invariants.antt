use Rattle.std.proofs.Common.{◌≡◌, ◌++◌, ◌≤◌, length, map}
use Rattle.tdl_scen.specs.Lines.{words_of}
use Rattle.tdl_scen.proofs.cutters.words.Given as goal

abbrev pub invariant-loop-found : goal.invariant-loop-found
invariant-loop-found l =
    (map (λ word. word.now) l.found.items ++ words_of l.rest ≡ words_of l.line) × (length l.rest ≤ length l.line)

abbrev pub decreases-loop-found : goal.decreases-loop-found
decreases-loop-found l = length l.rest
