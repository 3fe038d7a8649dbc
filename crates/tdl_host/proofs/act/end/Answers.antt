use Rattle.std.proofs.Common.{◌≡◌, ℕ, ◌++◌, rules}
use Rattle.std.proofs.lemmas.Result.{err_from_is_err_and}
use Rattle.tdl_trace.specs.declared.why.Why.{Why}
use Rattle.tdl_trace.specs.declared.why.Why.TheVariants as why
use Rattle.tdl_ecode.specs.declared.instr.EInstr.TheVariants.{End}
use Rattle.tdl_verify.specs.States.{Slot}
use Rattle.tdl_verify.specs.Turns.{Acted, output_rows}
use Rattle.tdl_host.specs.Hosts.{acts, slot_of, task_outputs, IsLate, IsCommittedAt}
use Rattle.tdl_host.proofs.StateLemmas.{trap-of}
use Rattle.tdl_host.proofs.ActLemmas.{ended-kept, ended-late, ended-done}
use Rattle.tdl_host.proofs.act.end.Goals as goal

pub returns-then-not-branch-clause-ok : goal.returns-then-not-branch-clause-ok
returns-then-not-branch-clause-ok c pc =
    let idle : slot_of c.args.state.now.now c.args.task ≡ Slot.Idle = search rules in
    let same : c.end.new.self.now ≡ c.args.state.now.now = search rules in
    ended-kept c.args.state.now.host c.args.scene.times.now c.args.scene.senses.now c.args.scene.at c.args.rows.now
    c.args.state.now.now c.end.new.self.now pc c.args.task idle same

pub returns-in_err-end-clause-trapped : goal.returns-in_err-end-clause-trapped
returns-in_err-end-clause-trapped c =
    let p = err_from_is_err_and c.from_residual.result c.from_residual.ensures.1 in
    rw (p.1, p.2) (trap-of why.Late (IsLate (slot_of c.args.state.now.now c.args.task))
    (λ (reason : Why). (pc : ℕ) →
    acts c.args.state.now.host c.args.scene.times.now c.args.scene.senses.now c.args.scene.at c.args.rows.now
    c.args.state.now.now pc (End c.args.task) ≡ Acted.Stop reason)
    c.in_err-end.field-0.0 c.in_err-end.ensures.late
    (λ late pc. ended-late c.args.state.now.host c.args.scene.times.now c.args.scene.senses.now c.args.scene.at
    c.args.rows.now c.args.state.now.now pc c.args.task late))

pub returns-clause-ok : goal.returns-clause-ok
returns-clause-ok c pc =
    let done : IsCommittedAt c.args.task c.args.state.now.now c.end.new.self.now = search rules in
    let put : c.put_outputs.new.rows ≡ c.args.rows.now
    ++ output_rows c.args.scene.at 0 c.args.state.now.host.number.0 c.args.task
    (task_outputs c.end.new.self.now c.args.task) = search rules in
    ended-done c.args.state.now.host c.args.scene.times.now c.args.scene.senses.now c.args.scene.at c.args.rows.now
    c.put_outputs.new.rows c.args.state.now.now c.end.new.self.now pc c.args.task done put
