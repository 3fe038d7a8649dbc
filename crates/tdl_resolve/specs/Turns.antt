-- The turns that the `repeat`s of a body take.
use Rattle.std.specs.Prelude.{◌≡◌, ◌≤◌, ℕ, List, Some, slice_get}
use Rattle.tdl_base.specs.declared.limits.TheConstants.{REPEAT}
use Rattle.tdl_tree.specs.declared.statements.StmtTree.TheOpen.{StmtTree-F}
use Rattle.tdl_tree.specs.declared.statements.StmtTree.TheViews.{out-StmtTree}
use Rattle.tdl_tree.specs.declared.statements.StmtTree.{StmtTree}
use Rattle.tdl_rules.specs.Trees.{body_statements}

-- the turns of a statement; 0 where it is no `repeat`
abbrev pub turns_in : StmtTree-F StmtTree → ℕ
turns_in (StmtTree-F.Repeat count body) = count.value
turns_in _ = 0

-- no `repeat` of a body, however deep, takes more turns than it may
abbrev pub KeepsTurns : List StmtTree → Type 0
KeepsTurns body = (k : ℕ) (statement : StmtTree) → slice_get (body_statements body) k ≡ Some statement →
    turns_in (out-StmtTree statement) ≤ REPEAT
