-- The expression that a tree says is as deep and has as many nodes as the tree, so it is bounded.
use Rattle.std.proofs.Common.{◌≡◌, ℕ, ◌≤◌, List, [], ◌∷◌, map, All, Option, Some, None, refl, sym, subst}
use Rattle.std.specs.Prelude.{nat_lt, IfSome}
use Rattle.std.proofs.lemmas.Bool.{ltb-false}
use Rattle.std.proofs.lemmas.List.Elements.{All-nil, All-cons, All-head, All-tail}
use Rattle.tdl_base.specs.declared.limits.TheConstants.{EXPRESSION_DEPTH, EXPRESSION_TOKENS}
use Rattle.tdl_body.specs.Bounds.{IsBoundedExpr, depth_of, nodes_of}
use Rattle.tdl_body.proofs.BoundEquations.{depth_of-const, depth_of-load, depth_of-un, depth_of-bin, nodes_of-const, nodes_of-load, nodes_of-un, nodes_of-bin}
use Rattle.tdl_tree.specs.declared.expressions.ExprNode.TheFolds.{fold-roll-ExprNode, fold-roll-ExprTree}
use Rattle.tdl_tree.specs.declared.expressions.ExprTree.{ExprTree}
use Rattle.tdl_rules.specs.BoundRules.{c19_outermost}
use Rattle.tdl_rules.specs.Lists.{each}
use Rattle.tdl_rules.specs.Naming.{Scope}
use Rattle.tdl_rules.specs.Trees.{depth, depth_in, node_depth, guard_expressions}
use Rattle.tdl_program.specs.Expressions.{expression_of, guard_of}
use Rattle.tdl_program.proofs.Emptiness.{empty-parts}
use Rattle.tdl_program.proofs.Meant.{no-fault}
use Rattle.tdl_size.specs.Sizes.{node_count, nodes, nodes_in}
use Rattle.tdl_size.specs.Sized.{IsSmall}
use Rattle.tdl_kept.proofs.Measured.{IsMeasure, expression-measured}

-- depths are counted alike
depth-measure : IsMeasure depth_of depth_in depth node_depth
unfolding depth depth_in
depth-measure = record {
  const = depth_of-const;
  load = depth_of-load;
  un = depth_of-un;
  bin = depth_of-bin;
  number = λ n. refl;
  truth = λ b. refl;
  name = λ parts. refl;
  node = fold-roll-ExprNode ℕ ℕ node_depth (λ tree. tree.node);
  tree = fold-roll-ExprTree ℕ ℕ node_depth (λ tree. tree.node);
}

-- so are nodes
node-measure : IsMeasure nodes_of nodes_in nodes node_count
unfolding nodes nodes_in
node-measure = record {
  const = nodes_of-const;
  load = nodes_of-load;
  un = nodes_of-un;
  bin = nodes_of-bin;
  number = λ n. refl;
  truth = λ b. refl;
  name = λ parts. refl;
  node = fold-roll-ExprNode ℕ ℕ node_count (λ tree. tree.node);
  tree = fold-roll-ExprTree ℕ ℕ node_count (λ tree. tree.node);
}

module _ (scope : Scope) where
  -- an expression that is neither too deep nor too large as a tree is bounded
  pub bounded : (e : ExprTree) → c19_outermost scope e ≡ [] → IsSmall e → IsBoundedExpr (expression_of scope e)
  bounded e none small =
      let deep : depth_of (expression_of scope e) ≡ depth e =
      expression-measured scope depth_of depth_in depth node_depth depth-measure e in
      let large : nodes_of (expression_of scope e) ≡ nodes e =
      expression-measured scope nodes_of nodes_in nodes node_count node-measure e in
      record {
        nodes = subst (λ n. n ≤ EXPRESSION_TOKENS) (sym large) small;
        depth = subst (λ n. n ≤ EXPRESSION_DEPTH) (sym deep)
            (ltb-false EXPRESSION_DEPTH (depth e) (no-fault (nat_lt EXPRESSION_DEPTH (depth e)) _ none));
      }

  -- so are several
  pub all_bounded : (es : List ExprTree) → each (c19_outermost scope) es ≡ [] → All IsSmall es →
      All IsBoundedExpr (map (expression_of scope) es)
  all_bounded [] none small = All-nil IsBoundedExpr
  all_bounded (e ∷ es) none small =
      let parts = empty-parts (c19_outermost scope e) (each (c19_outermost scope) es) none in
      All-cons IsBoundedExpr (expression_of scope e) (map (expression_of scope) es)
      (bounded e parts.0 (All-head IsSmall e es small))
      (all_bounded es parts.1 (All-tail IsSmall e es small))

  -- and a guard
  pub guard_bounded : (guard : Option ExprTree) → each (c19_outermost scope) (guard_expressions guard) ≡ [] →
      All IsSmall (guard_expressions guard) → IfSome (guard_of scope guard) IsBoundedExpr
  guard_bounded None none small = tt
  guard_bounded (Some e) none small =
      bounded e (empty-parts (c19_outermost scope e) [] none).0 (All-head IsSmall e [] small)
