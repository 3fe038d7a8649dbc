use Rattle.std.proofs.Common.{◌≡◌, ◌≤◌, List, length, subst, arith, rules}
use Rattle.std.specs.List.{All}
use Rattle.std.proofs.lemmas.List.{take_all}
use Rattle.tdl_image.specs.declared.hosted.CallEntry.{CallEntry}
use Rattle.tdl_host.proofs.CheckedLemmas.{more-room}
use Rattle.tdl_host.proofs.machine.most_arguments.Goals as goal

pub loop-call-preserved : goal.loop-call-preserved
loop-call-preserved c =
    let count : c.len.result ≡ length c.call-item.result.args = search rules in
    let right : c.len.result ≤ c.greater-most.result = c.greater-most.ensures.right in
    more-room c.args.calls.now c.loop-call.call-index c.loop-call.most c.greater-most.result c.call-item.result
    c.loop-call-test.true c.call-item.is c.loop-call.invariant c.greater-most.ensures.left
    (omega (arith, count, right))

pub returns : goal.returns
returns c =
    let all : length c.args.calls.now ≤ c.loop-call.call-index = omega arith in
    subst (λ (calls : List CallEntry). All (λ (call : CallEntry). length call.args ≤ c.loop-call.most) calls)
    (take_all c.loop-call.call-index c.args.calls.now all) c.loop-call.invariant
