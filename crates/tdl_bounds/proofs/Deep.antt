-- Whether an expression is deeper than a number, by its operands.
use Rattle.std.proofs.Common.{◌≡◌, ℕ, ◌≤◌, ◌<◌, ◌+◌, ◌-◌, true, false, nat_lt, max, sym, ap, ◌∙◌, arith}
use Rattle.std.proofs.lemmas.Bool.Decides.{nat_tests}
use Rattle.tdl_tree.specs.declared.expressions.ExprTree.{ExprTree}
use Rattle.tdl_rules.specs.Trees.{depth, depth_in}
use Rattle.tdl_rules.proofs.Equations.{depth-node}

-- everything is deeper than 0
lt-here : (most d : ℕ) → most < 1 → true ≡ nat_lt most (d + 1)
lt-here most d zero = grind (arith, nat_tests)

-- one less on both sides
lt-less : (most d : ℕ) → 1 ≤ most → nat_lt (most - 1) d ≡ nat_lt most (d + 1)
lt-less most d one = grind (arith, nat_tests)

-- the left of two is deep enough
lt-left : (most a b : ℕ) → 1 ≤ most → nat_lt (most - 1) a ≡ true → true ≡ nat_lt most (max a b + 1)
lt-left most a b one deep = grind (arith, nat_tests)

-- where the left is not, the right decides
lt-right : (most a b : ℕ) → 1 ≤ most → nat_lt (most - 1) a ≡ false → nat_lt (most - 1) b ≡ nat_lt most (max a b + 1)
lt-right most a b one flat = grind (arith, nat_tests)

-- a leaf is 1 deep
pub deep-leaf : (e : ExprTree) (most : ℕ) → depth_in e.node ≡ 1 → nat_lt most 1 ≡ nat_lt most (depth e)
deep-leaf e most leaf = ap (nat_lt most) (sym (depth-node e ∙ leaf))

-- an operator is deeper than 0
pub deep-here : (e : ExprTree) (most d : ℕ) → depth_in e.node ≡ d + 1 → most < 1 → true ≡ nat_lt most (depth e)
deep-here e most d deep zero = lt-here most d zero ∙ ap (nat_lt most) (sym (depth-node e ∙ deep))

-- an operator of one operand
pub deep-un : (e : ExprTree) (most d : ℕ) → depth_in e.node ≡ d + 1 → 1 ≤ most →
    nat_lt (most - 1) d ≡ nat_lt most (depth e)
deep-un e most d deep one = lt-less most d one ∙ ap (nat_lt most) (sym (depth-node e ∙ deep))

-- an operator whose left operand is deep
pub deep-left : (e : ExprTree) (most a b : ℕ) → depth_in e.node ≡ max a b + 1 → 1 ≤ most →
    nat_lt (most - 1) a ≡ true → true ≡ nat_lt most (depth e)
deep-left e most a b deep one left = lt-left most a b one left ∙ ap (nat_lt most) (sym (depth-node e ∙ deep))

-- an operator whose left operand is not deep
pub deep-right : (e : ExprTree) (most a b : ℕ) → depth_in e.node ≡ max a b + 1 → 1 ≤ most →
    nat_lt (most - 1) a ≡ false → nat_lt (most - 1) b ≡ nat_lt most (depth e)
deep-right e most a b deep one left = lt-right most a b one left ∙ ap (nat_lt most) (sym (depth-node e ∙ deep))
