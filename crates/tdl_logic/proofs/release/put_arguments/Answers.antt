use Rattle.std.proofs.Common.{rules, ◌≡◌, ◌<◌, List, ℤ, FitsSigned, w64, to_z, of_z, length, take, ap, ◌∙◌, arith}
use Rattle.std.proofs.lemmas.Int.{to_z-of_z}
use Rattle.std.proofs.lemmas.List.{length-set}
use Rattle.std.proofs.Math.Seq.{take-length}
use Rattle.tdl_mode.specs.States.{kinds_of}
use Rattle.tdl_mode.specs.Phases.{narrowed_args}
use Rattle.tdl_logic.specs.Looks.{shown}
use Rattle.tdl_logic.proofs.Arguments.{args-length}
use Rattle.tdl_logic.proofs.Filling.{one_more}
use Rattle.tdl_logic.proofs.release.put_arguments.Goals as goal

pub loop-at-preserved : goal.loop-at-preserved
loop-at-preserved c =
    let kinds = kinds_of c.args.ports.now in
    let look = shown c.args.seen.now in
    let all : List ℤ = narrowed_args kinds c.args.args.now look in
    let whole : length all ≡ length c.args.args.now = args-length kinds c.args.args.now look in
    let test : c.loop-at.at < length c.args.args.now = c.loop-at-test.true in
    let here : c.loop-at.at < length c.loop-at.into = omega (arith, c.loop-at.invariant.count, c.requires, test) in
    let there : c.loop-at.at < length all = omega (arith, whole, test) in
    let fits : FitsSigned w64 c.argument.result = search rules in
    record {
      so_far = one_more c.loop-at.into all c.loop-at.at (to_z w64 (of_z w64 c.argument.result)) here there
          c.loop-at.invariant.so_far (to_z-of_z w64 c.argument.result fits ∙ c.argument.ensures);
      count =
          length-set c.loop-at.into c.loop-at.at (to_z w64 (of_z w64 c.argument.result)) ∙ c.loop-at.invariant.count;
    }

pub returns : goal.returns
returns c =
    let kinds = kinds_of c.args.ports.now in
    let look = shown c.args.seen.now in
    let all : List ℤ = narrowed_args kinds c.args.args.now look in
    let whole : length all ≡ length c.args.args.now = args-length kinds c.args.args.now look in
    let end : length c.args.args.now ≡ c.loop-at.at = omega (arith, c.loop-at-test.false, c.loop-at.auto.at-end) in
    ap (λ n. take n c.loop-at.into) end ∙ c.loop-at.invariant.so_far
    ∙ ap (λ n. take n all) (omega (arith, whole, end)) ∙ take-length all
