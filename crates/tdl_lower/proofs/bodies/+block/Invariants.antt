use Rattle.std.proofs.Common.{◌≡◌, ◌++◌, drop, map}
use Rattle.tdl_base.specs.Lists.{joined}
use Rattle.tdl_lower.specs.Templates.{body_code, stmt_code}
use Rattle.tdl_lower.proofs.bodies.+block.Given as goal

abbrev pub invariant-put_body-loop-stmt : goal.invariant-put_body-loop-stmt
invariant-put_body-loop-stmt l =
    l.into ++ joined (map stmt_code (drop l.stmt-index l.stmt-items)) ≡ l.fn.into ++ body_code l.fn.block
