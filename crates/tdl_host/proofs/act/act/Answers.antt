use Rattle.std.proofs.Common.{add-one, rules}
use Rattle.tdl_host.proofs.act.act.Goals.{in-Call+in_ok-call-in-Call, in-Release+in_ok-release-in-Release, in-End+in_ok-end-in-End, in-Mode+in_ok-enter-in-Mode, in-Future, in-Take}
use Rattle.tdl_host.proofs.act.act.Goals as goal

pub returns-clause-ok : goal.returns-clause-ok
returns-clause-ok c =
    elim c.match-instr.branch [
      | in-Call+in_ok-call-in-Call w ↦ search rules
      | in-Release+in_ok-release-in-Release w ↦ search rules
      | in-End+in_ok-end-in-End w ↦ search rules
      | in-Mode+in_ok-enter-in-Mode w ↦
          rw (w.in-Mode.is, w.state-is, w.rows-is, add-one) (w.in_ok-enter-in-Mode.ensures.ok c.args.pc)
      | in-Future w ↦ search rules
      | in-Take w ↦ search rules
    ]
