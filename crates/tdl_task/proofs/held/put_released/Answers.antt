use Rattle.std.proofs.Common.{rules, ◌≡◌, ◌+◌, ◌<◌, List, ℤ, FitsSigned, w64, to_z, of_z, length, take, ap, ◌∙◌, arith}
use Rattle.std.proofs.lemmas.Int.{to_z-of_z}
use Rattle.std.proofs.lemmas.List.{length-set}
use Rattle.tdl_task.specs.Jobs.{released_values}
use Rattle.tdl_task.proofs.Released.{released-length, all-so_far, one_more}
use Rattle.tdl_task.proofs.held.put_released.Goals as goal

pub loop-i-preserved : goal.loop-i-preserved
loop-i-preserved c =
    let all : List ℤ = released_values c.args.kinds.now c.args.inputs.now c.args.outputs.now in
    let whole : length all ≡ length c.args.kinds.now =
    released-length c.args.kinds.now c.args.inputs.now c.args.outputs.now c.requires.room in
    let count : length c.loop-i.values ≡ length c.args.kinds.now = c.loop-i.invariant.count in
    let end : c.len-i-end.result ≡ length c.args.kinds.now = c.len-i-end.ensures ∙ c.requires.count in
    let here : c.loop-i.i < length c.loop-i.values = omega (arith, end, count, c.loop-i-test.true) in
    let there : c.loop-i.i < length all = omega (arith, end, whole, c.loop-i-test.true) in
    let fits : FitsSigned w64 c.released_at.result = search rules in
    record {
      so_far =
          ap (take (c.loop-i.i + 1)) c.set.ensures
          ∙ one_more c.loop-i.values all c.loop-i.i (to_z w64 (of_z w64 c.released_at.result)) here there
          c.loop-i.invariant.so_far (to_z-of_z w64 c.released_at.result fits ∙ c.released_at.ensures);
      count =
          ap length c.set.ensures
          ∙ length-set c.loop-i.values c.loop-i.i (to_z w64 (of_z w64 c.released_at.result))
          ∙ count;
    }

pub returns : goal.returns
returns c =
    let all : List ℤ = released_values c.args.kinds.now c.args.inputs.now c.args.outputs.now in
    let whole : length all ≡ length c.args.kinds.now =
    released-length c.args.kinds.now c.args.inputs.now c.args.outputs.now c.requires.room in
    let count : length c.loop-i.values ≡ length c.args.kinds.now = c.loop-i.invariant.count in
    let end : c.len-i-end.result ≡ length c.args.kinds.now = c.len-i-end.ensures ∙ c.requires.count in
    let reached : c.loop-i.i ≡ c.len-i-end.result = omega (arith, c.loop-i-test.false, c.loop-i.auto.i-end) in
    all-so_far c.loop-i.values all c.loop-i.i c.loop-i.invariant.so_far (omega (arith, count, end, reached))
    (omega (arith, whole, end, reached))
