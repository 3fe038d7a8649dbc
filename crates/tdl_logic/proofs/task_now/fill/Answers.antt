use Rattle.std.proofs.Common.{rules, ◌≡◌, ◌+◌, ◌<◌, List, ℤ, FitsSigned, w64, to_z, of_z, pos, length, take, get_or, ap, ◌∙◌, arith}
use Rattle.std.proofs.lemmas.Int.{to_z-of_z}
use Rattle.std.proofs.lemmas.List.{length-set}
use Rattle.tdl_logic.specs.Standing.{filled}
use Rattle.tdl_logic.proofs.Filling.{filled-length, one_more}
use Rattle.tdl_logic.proofs.task_now.fill.Goals as goal

pub loop-at-preserved : goal.loop-at-preserved
loop-at-preserved c =
    let all : List ℤ = filled c.args.inputs.now c.args.outputs.now (length c.args.cells.now) in
    let whole : length all ≡ length c.args.cells.now =
    filled-length c.args.inputs.now c.args.outputs.now (length c.args.cells.now) c.requires in
    let end : c.len-count.result ≡ length c.args.cells.now = c.len-count.ensures in
    let here : c.loop-at.at < length c.loop-at.cells =
    omega (arith, end, c.loop-at.invariant.count, c.loop-at-test.true) in
    let there : c.loop-at.at < length all = omega (arith, end, whole, c.loop-at-test.true) in
    let fits : FitsSigned w64 c.filled_at.result = search rules in
    record {
      so_far =
          ap (take (c.loop-at.at + 1)) c.set.ensures
          ∙ one_more c.loop-at.cells all c.loop-at.at (to_z w64 (of_z w64 c.filled_at.result)) here there
          c.loop-at.invariant.so_far (to_z-of_z w64 c.filled_at.result fits ∙ c.filled_at.ensures
          ∙ ap (λ n. get_or (filled c.args.inputs.now c.args.outputs.now n) c.loop-at.at (pos 0)) end);
      count =
          ap length c.set.ensures
          ∙ length-set c.loop-at.cells c.loop-at.at (to_z w64 (of_z w64 c.filled_at.result))
          ∙ c.loop-at.invariant.count;
    }
