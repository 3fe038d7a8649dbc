use Rattle.tdl_trace.specs.declared.why.Why.TheVariants as why
use Rattle.tdl_ecode.specs.declared.instr.EInstr.TheVariants as e
use Rattle.tdl_verify.specs.States.{Part}
use Rattle.tdl_verify.proofs.Leads.{one_stop}
use Rattle.tdl_verify.proofs.Releases.{is_late, done-commits}
use Rattle.tdl_verify.proofs.laws.ends.Goals as goal

pub returns-clause-commits : goal.returns-clause-commits
returns-clause-commits c x node h s pc t mode invocation outputs u at done =
    done-commits x node h s pc t u mode invocation outputs at done

pub returns-clause-late : goal.returns-clause-late
returns-clause-late c x node k sensed times front back h s b pc t mode invocation left cells u rows has at ready =
    one_stop x node sensed times front (Part.Host h s) back b pc (e.End t) why.Late has
    (is_late x node h s pc t u mode invocation left cells at ready) k rows
