-- The equations by which the faults of a source with expressions and statements compute.
use Rattle.tdl_tree.specs.declared.expressions.ExprNode.TheViews.{outs-Un, outs-Bin, outs-Name, outs-Number, outs-Truth}
use Rattle.tdl_tree.specs.declared.statements.StmtTree.TheViews.{outs-Assign, outs-If, outs-Repeat}
use Rattle.tdl_rules.proofs.Equations.{within-node, in_node-number, in_node-truth, in_node-name, in_node-un, in_node-bin, depth-node, depth_in-number, depth_in-truth, depth_in-name, depth_in-un, depth_in-bin, statements_inside-assign, statements_inside-repeat, statements_inside-if, statements_inside-if_else, steps-assign, steps-repeat, steps-if, steps-if_else}

-- the outermost layer of a node or a statement, and the folds over them
pub ruleset layers = (
  outs-Un,
  outs-Bin,
  outs-Name,
  outs-Number,
  outs-Truth,
  outs-Assign,
  outs-If,
  outs-Repeat,
  within-node,
  in_node-number,
  in_node-truth,
  in_node-name,
  in_node-un,
  in_node-bin,
  depth-node,
  depth_in-number,
  depth_in-truth,
  depth_in-name,
  depth_in-un,
  depth_in-bin,
  statements_inside-assign,
  statements_inside-repeat,
  statements_inside-if,
  statements_inside-if_else,
  steps-assign,
  steps-repeat,
  steps-if,
  steps-if_else,
)
