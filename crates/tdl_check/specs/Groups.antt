-- The rules in groups, each a list of the faults of its rules.
use Rattle.std.specs.Prelude.{List, [], ◌∷◌}
use Rattle.tdl_rules.specs.declared.fault.Fault.{Fault}
use Rattle.tdl_tree.specs.declared.declarations.Tree.{Tree}
use Rattle.tdl_rules.specs.NameRules.{c1, c2, c3_c4, c6, c7}
use Rattle.tdl_rules.specs.SortRules.{c5, c8}
use Rattle.tdl_rules.specs.ModeRules.{c9, c10, c11, c12, c13, c14, c15, c16, c17}
use Rattle.tdl_rules.specs.BoundRules.{c18, c19, c20}

-- the faults of C1 to C8
abbrev pub names_and_sorts : List Tree → List (List Fault)
names_and_sorts sources =
    c1 sources ∷ c2 sources ∷ c3_c4 sources ∷ c5 sources ∷ c6 sources ∷ c7 sources ∷ c8 sources ∷ []

-- the faults of C9 to C17
abbrev pub modes : List Tree → List (List Fault)
modes sources =
    c9 sources ∷ c10 sources ∷ c11 sources ∷ c12 sources ∷ c13 sources ∷ c14 sources ∷ c15 sources ∷
    c16 sources ∷ c17 sources ∷ []

-- the faults of C18 to C20
abbrev pub bounds : List Tree → List (List Fault)
bounds sources = c18 sources ∷ c19 sources ∷ c20 sources ∷ []
