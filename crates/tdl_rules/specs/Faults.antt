-- All faults of a set of sources.
use Rattle.std.specs.Prelude.{List, ◌++◌}
use Rattle.tdl_rules.specs.declared.fault.Fault.{Fault}
use Rattle.tdl_tree.specs.declared.declarations.Tree.{Tree}
use Rattle.tdl_rules.specs.Earliest.{in_order}
use Rattle.tdl_rules.specs.NameRules.{c1, c2, c3_c4, c6, c7}
use Rattle.tdl_rules.specs.SortRules.{c5, c8}
use Rattle.tdl_rules.specs.ModeRules.{c9, c10, c11, c12, c13, c14, c15, c16, c17}
use Rattle.tdl_rules.specs.BoundRules.{c18, c19, c20, c21}

-- each place of the sources at which a rule is broken, with the rule: rule by rule, and some more than once
abbrev pub faults : List Tree → List Fault
faults sources =
    c1 sources ++ (c2 sources ++ (c3_c4 sources ++ (c5 sources ++ (c6 sources ++ (c7 sources ++ (c8 sources ++
    (c9 sources ++ (c10 sources ++ (c11 sources ++ (c12 sources ++ (c13 sources ++ (c14 sources ++ (c15 sources ++
    (c16 sources ++ (c17 sources ++ (c18 sources ++ (c19 sources ++ (c20 sources ++ c21 sources))))))))))))))))))

-- all faults in ascending order, each once
abbrev pub all_faults : List Tree → List Fault
all_faults sources = in_order (faults sources)
