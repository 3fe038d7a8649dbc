-- The places that an expression reads.
use Rattle.std.specs.Prelude.{List, [], ◌∷◌, ◌++◌}
use Rattle.tdl_base.specs.declared.numbers.Place.{Place}
use Rattle.tdl_body.specs.declared.tree.Expr.{Expr}
use Rattle.tdl_body.specs.declared.tree.Expr.TheOpen.{Expr-F}
use Rattle.tdl_body.specs.declared.tree.Expr.TheFolds.{fold-Expr}

-- the places that one node of an expression reads, given those of its operands
abbrev pub places_step : Expr-F (List Place) → List Place
places_step (Expr-F.Const v) = []
places_step (Expr-F.Load p) = p ∷ []
places_step (Expr-F.Un op a) = a
places_step (Expr-F.Bin op a b) = a ++ b

-- the places that an expression reads
unfoldable pub places_of : Expr → List Place
places_of = fold-Expr (List Place) places_step
