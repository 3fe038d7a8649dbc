-- The number of an expression depends on what it reads, and on nothing else.
use Rattle.std.proofs.Common.{◌≡◌, ℤ, List, [], ◌∷◌, ◌++◌, refl, ap, ap₂, sym, ◌∙◌, subst}
use Rattle.tdl_base.specs.declared.numbers.Place.{Place}
use Rattle.tdl_base.specs.Numbers.{unary, binary}
use Rattle.tdl_body.specs.declared.tree.Expr.{Expr}
use Rattle.tdl_body.specs.declared.tree.Expr.TheOpen.{Expr-F}
use Rattle.tdl_body.specs.declared.tree.Expr.TheViews.{roll-Expr}
use Rattle.tdl_body.specs.declared.tree.Expr.TheFolds.{ind-Expr, map-Expr}
use Rattle.tdl_body.specs.Values.{Look, read, value_of, expr_step}
use Rattle.tdl_body.specs.Places.{places_of, places_step}
use Rattle.tdl_body.proofs.Equations.{value_of-roll, places_of-roll}

module _ (look look' : Look) where
  -- the two views have the same number at each of these places
  abbrev pub AllSame : List Place → Type 0
  AllSame [] = Unit {0}
  AllSame (p ∷ ps) = (read p look ≡ read p look') × AllSame ps

  -- so at each place of both parts of a list
  same_parts : (ps qs : List Place) → AllSame (ps ++ qs) → AllSame ps × AllSame qs
  same_parts [] qs h = (tt, h)
  same_parts (p ∷ ps) qs h = let r = same_parts ps qs h.1 in ((h.0, r.0), r.1)

  -- the expression has one number under both views, where they agree on what it reads
  abbrev Agrees : Expr → Type 0
  Agrees e = AllSame (places_of e) → value_of e look ≡ value_of e look'

  -- an operand of which this is known
  abbrev Known : Type 0
  Known = (e : Expr) × Agrees e

  -- the node with its operands as expressions
  abbrev plain : Expr-F Known → Expr-F Expr
  plain node = map-Expr Known Expr (λ e. e.0) node

  -- the number of a node under a view, from those of its operands
  abbrev node_value : Expr-F Known → Look → ℤ
  node_value node view = expr_step (map-Expr Expr (Look → ℤ) value_of (plain node)) view

  -- a node whose operands have one number under both views has one too
  node_agrees : (node : Expr-F Known) → AllSame (places_step (map-Expr Expr (List Place) places_of (plain node))) →
      node_value node look ≡ node_value node look'
  node_agrees (Expr-F.Const v) h = refl
  node_agrees (Expr-F.Load p) h = h.0
  node_agrees (Expr-F.Un op a) h = ap (unary op) (a.1 h)
  node_agrees (Expr-F.Bin op a b) h =
      let parts = same_parts (places_of a.0) (places_of b.0) h in
      ap₂ (binary op) (a.1 parts.0) (b.1 parts.1)

  -- two views that agree on what an expression reads give it one number
  pub value_agrees : (e : Expr) → Agrees e
  value_agrees = ind-Expr Agrees (λ x node is.
      subst (λ z. Agrees (roll-Expr z)) is
      (λ h. ap (λ (f : Look → ℤ). f look) (value_of-roll (plain node))
      ∙ node_agrees node (subst AllSame (places_of-roll (plain node)) h)
      ∙ ap (λ (f : Look → ℤ). f look') (sym (value_of-roll (plain node)))))
