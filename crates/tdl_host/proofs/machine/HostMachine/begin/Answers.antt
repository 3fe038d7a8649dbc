use Rattle.std.proofs.Common.{◌≡◌, length, map, rules}
use Rattle.tdl_verify.specs.States.{Part, task_first, host_first}
use Rattle.std.specs.List.{All}
use Rattle.tdl_image.specs.declared.bundle.Image.{Image}
use Rattle.tdl_host.specs.CheckedCodes.{HasCheckedCodes}
use Rattle.tdl_host.proofs.CheckedLemmas.{all-at, room-of}
use Rattle.tdl_host.proofs.CountLemmas.{first-counted}
use Rattle.tdl_host.proofs.machine.HostMachine.begin.Goals as goal

pub first-requires : goal.first-requires
first-requires c =
    let hosts : All HasCheckedCodes c.in-Some.image.now.hosted =
    all-at (λ (image : Image). All HasCheckedCodes image.hosted) c.args.bundle.now.images 0 c.in-Some.image.now
    c.requires.codes (search rules) in
    all-at HasCheckedCodes c.in-Some.image.now.hosted 0 c.in-Some-get.hosted.now hosts (search rules)

pub invariant_of-result : goal.invariant_of-result
invariant_of-result c =
    let count : length c.in_ok-numbers.numbers.items ≡ c.most_arguments.result = search rules in (
      room-of c.in-Some-get.hosted.now c.in_ok-state.state.host c.as_slice.result.now c.most_arguments.result
          (length c.in_ok-numbers.numbers.items) c.in_ok-state.ensures.host c.as_slice.ensures c.most_arguments.ensures
          count,
      c.requires.lasting,
    )

pub returns-clause-ready : goal.returns-clause-ready
returns-clause-ready c =
    let first : Part.Host c.in-Some-get.hosted.now c.in_ok-state.state.now ≡ host_first c.in-Some-get.hosted.now =
    c.in_ok-state.ensures.now in
    let tasks : c.in_ok-state.state.now.tasks ≡ map task_first c.in-Some-get.hosted.now.tasks = cc in
    first-counted c.in-Some-get.hosted.now.tasks c.in_ok-state.state.now tasks
