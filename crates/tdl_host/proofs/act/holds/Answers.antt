use Rattle.std.proofs.Common.{rules}
use Rattle.tdl_host.proofs.CheckedLemmas.{checked_guard}
use Rattle.tdl_host.proofs.act.holds.Goals as goal

pub value-requires : goal.value-requires
value-requires c =
    checked_guard c.hosted.result.now c.args.guard c.in-Some.guard.now c.hosted.ensures.codes (search rules)
