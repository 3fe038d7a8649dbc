-- Where an expression stands, as a value that contracts see.
use Rattle.std.specs.Prelude.{ℕ, List, Option, None, refl}
use Rattle.std.specs.Coded.{Coded, code_by, coded×, coded_list, coded_option, coded_ℕ}
use Rattle.tdl_tree.specs.declared.declarations.PortDecl.{PortDecl}
use Rattle.tdl_tree.specs.declared.declarations.Tree.{Tree}
use Rattle.tdl_tree.specs.contracts.declarations.PortDecl as port
use Rattle.tdl_tree.specs.contracts.declarations.Tree as tree
use Rattle.tdl_rules.specs.Naming.{Scope}

-- outside of the bodies of source k, which is the tree
abbrev pub outside : List Tree → ℕ → Tree → Scope
outside sources k home = record { sources = sources; file = k; tree = home; body = None }

-- a scope is stored as the tuple of its fields
abbrev pub scope_code : Coded Scope
scope_code =
    code_by (List Tree × (ℕ × (Tree × Option (List PortDecl))))
    (coded× (coded_list tree.the_row.coded) (coded× coded_ℕ (coded× tree.the_row.coded (coded_option (coded_list port.the_row.coded)))))
    (λ s. (s.sources, (s.file, (s.tree, s.body))))
    (λ p. record { sources = p.0; file = p.1.0; tree = p.1.1.0; body = p.1.1.1 })
    (λ _. refl)
