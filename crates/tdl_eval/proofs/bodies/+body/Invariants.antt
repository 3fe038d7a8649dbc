use Rattle.std.proofs.Common.{◌≡◌, length, drop, map}
use Rattle.tdl_base.specs.Cells.{repeated}
use Rattle.tdl_body.specs.Effects.{effect_of, in_turn}
use Rattle.tdl_body.proofs.Equations.{effect_of_stmt}
use Rattle.tdl_eval.specs.Envs.{made_of}
use Rattle.tdl_eval.proofs.bodies.+body.Given as goal

abbrev pub invariant-run_body-loop-stmt : goal.invariant-run_body-loop-stmt
invariant-run_body-loop-stmt l = record {
  done :
      in_turn (map effect_of_stmt (drop l.stmt-index l.stmt-items)) (made_of l.kinds l.cells)
      ≡ effect_of l.fn.b (made_of l.kinds l.fn.cells);
  count : length l.cells ≡ length l.fn.cells;
}

abbrev pub invariant-run_stmt-loop : goal.invariant-run_stmt-loop
invariant-run_stmt-loop l = record {
  done : made_of l.kinds l.cells ≡ repeated l.counter (effect_of l.body) (made_of l.kinds l.fn.cells);
  count : length l.cells ≡ length l.fn.cells;
}
