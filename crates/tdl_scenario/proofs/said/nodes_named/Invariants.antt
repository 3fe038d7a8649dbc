use Rattle.std.proofs.Common.{◌≡◌, ◌++◌, List, map, drop, option_map}
use Rattle.tdl_base.specs.declared.numbers.NodeId.{NodeId}
use Rattle.tdl_scenario.specs.Entries.{all_of}
use Rattle.tdl_scenario.specs.Looked.{node_named}
use Rattle.tdl_scenario.proofs.said.nodes_named.Given as goal

abbrev pub invariant-loop-word : goal.invariant-loop-word
invariant-loop-word l =
    all_of (node_named l.nodes) (map (λ word. word.now) l.words)
    ≡ option_map (λ (more : List NodeId). l.found ++ more)
    (all_of (node_named l.nodes) (map (λ word. word.now) (drop l.word-index l.words)))
