use Rattle.std.proofs.Common.{◌≡◌, map, take}
use Rattle.tdl_program.specs.Bodies.{statement_of}
use Rattle.tdl_resolve.proofs.bodies.+block.Given as goal

abbrev pub invariant-block_in-loop-statement : goal.invariant-block_in-loop-statement
invariant-block_in-loop-statement l =
    l.stmts ≡ map (statement_of l.resolver) (take l.statement-index l.statements)
