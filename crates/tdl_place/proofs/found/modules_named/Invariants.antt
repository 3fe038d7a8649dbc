use Rattle.std.proofs.Common.{◌≡◌, ◌++◌, drop, map, filter_map}
use Rattle.tdl_place.specs.Entries.{module_named}
use Rattle.tdl_place.proofs.found.modules_named.Given as goal

abbrev pub invariant-loop-word : goal.invariant-loop-word
invariant-loop-word l =
    l.found ++ filter_map (module_named l.program) (map (λ word. word.now) (drop l.word-index l.words))
    ≡ filter_map (module_named l.program) (map (λ word. word.now) l.words)
