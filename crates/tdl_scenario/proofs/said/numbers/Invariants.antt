use Rattle.std.proofs.Common.{◌≡◌, ◌++◌, List, ℕ, map, drop, option_map}
use Rattle.tdl_scen.specs.Lines.{number_of}
use Rattle.tdl_scenario.specs.Entries.{all_of}
use Rattle.tdl_scenario.proofs.said.numbers.Given as goal

abbrev pub invariant-loop-word : goal.invariant-loop-word
invariant-loop-word l =
    all_of number_of (map (λ word. word.now) l.words)
    ≡ option_map (λ (more : List ℕ). l.found ++ more) (all_of number_of (map (λ word. word.now)
    (drop l.word-index l.words)))
