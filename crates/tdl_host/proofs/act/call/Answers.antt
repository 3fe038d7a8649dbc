use Rattle.std.proofs.Common.{rules}
use Rattle.tdl_host.proofs.CheckedLemmas.{checked_driver}
use Rattle.tdl_host.proofs.act.call.Goals as goal

pub value-exact-requires : goal.value-exact-requires
value-exact-requires c =
    checked_driver c.hosted-hosted.result.now c.args.driver c.in-Some.driver.now c.hosted-hosted.ensures.codes
    (search rules)
