use Rattle.std.proofs.Common.{◌≡◌, drop, map, is_none}
use Rattle.std.specs.List.{list_any}
use Rattle.tdl_place.specs.Entries.{module_named}
use Rattle.tdl_place.proofs.found.names_none.Given as goal

abbrev pub invariant-loop-word : goal.invariant-loop-word
invariant-loop-word l =
    list_any (λ word. is_none (module_named l.program word)) (map (λ word. word.now) (drop l.word-index l.words))
    ≡ list_any (λ word. is_none (module_named l.program word)) (map (λ word. word.now) l.words)
