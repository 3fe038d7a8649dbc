use Rattle.std.proofs.Common.{List, ℕ, subst, sym, ap, Err}
use Rattle.std.proofs.lemmas.Result.{err_from_is_err_and}
use Rattle.tdl_io.specs.Outside.{Appends, AppendsPart}
use Rattle.tdl_io.proofs.Appending.{part_none}
use Rattle.tdl_scen.specs.declared.entries.Sense.{Sense}
use Rattle.tdl_scen.specs.declared.entries.TaskTimes.{TaskTimes}
use Rattle.tdl_scen.specs.Senses.{AreInOrder}
use Rattle.tdl_verify.specs.Texts.{bundle_names}
use Rattle.tdl_host.specs.Hosts.{listed_times}
use Rattle.tdl_host.specs.Lasting.{AreLasting}
use Rattle.tdl_host.proofs.PlainCodes.{plain_checked}
use Rattle.tdl_top.proofs.Printing.{same_text, no_trap, in_order, lasting}
use Rattle.tdl_top.proofs.print.print_run.Goals as goal

pub returns-in_err-names-clause-refused : goal.returns-in_err-names-clause-refused
returns-in_err-names-clause-refused g c =
    let p = err_from_is_err_and c.from_residual.result c.from_residual.ensures.1 in rw (p.1, p.2) (part_none _ _)

pub returns-in_err-machine-clause-refused : goal.returns-in_err-machine-clause-refused
returns-in_err-machine-clause-refused g c =
    let p = err_from_is_err_and c.from_residual-in_err-machine.result c.from_residual-in_err-machine.ensures.1 in
    rw (p.1, p.2) (part_none _ _)

pub returns-in-Ok-clause-ok : goal.returns-in-Ok-clause-ok
returns-in-Ok-clause-ok g c =
    subst (λ (text : List ℕ). Appends (g.O.Sink.told c.args.out.now).contents (g.O.Sink.told c.run.new.out).contents
    text)
    (same_text c.args.bundle.now c.args.scenario.now _ _ _ c.in_ok-names.ensures c.as_slice-senses.ensures
    (c.in_ok-machine.ensures.times c.args.scenario.now (sym c.as_slice-times.ensures)))
    c.in-Ok.ensures.ok

pub unreachable-requires : goal.unreachable-requires
unreachable-requires g c =
    no_trap c.args.bundle.now c.args.scenario.now c.as_slice-senses.result.now
    (listed_times c.in_ok-machine.machine.host c.in_ok-machine.machine.times)
    c.in-Err-Trapped.field-0 c.in-Err-Trapped.field-0-0
    c.requires.plain c.requires.lawful c.as_slice-senses.ensures
    (c.in_ok-machine.ensures.times c.args.scenario.now (sym c.as_slice-times.ensures))
    c.in-Err-Trapped.field-0-is c.in-Err-Trapped.ensures.trapped

pub returns-in-Err-WriteFailed-clause-refused : goal.returns-in-Err-WriteFailed-clause-refused
returns-in-Err-WriteFailed-clause-refused g c = (
  c.in-Err-WriteFailed.ensures.cause (ap Err c.in-Err-WriteFailed.field-0-is),
  subst (λ (text : List ℕ). AppendsPart (g.O.Sink.told c.args.out.now).contents (g.O.Sink.told c.run.new.out).contents
      text)
      (same_text c.args.bundle.now c.args.scenario.now _ _ _ c.in_ok-names.ensures c.as_slice-senses.ensures
      (c.in_ok-machine.ensures.times c.args.scenario.now (sym c.as_slice-times.ensures)))
      c.in-Err-WriteFailed.ensures.err,
)

pub returns-clause-refused : goal.returns-clause-refused
returns-clause-refused g c =
    subst (λ (text : List ℕ). AppendsPart (g.O.Sink.told c.args.out.now).contents
    (g.O.Sink.told c.run.new.out).contents text)
    (same_text c.args.bundle.now c.args.scenario.now _ _ _ c.in_ok-names.ensures c.as_slice-senses.ensures
    (c.in_ok-machine.ensures.times c.args.scenario.now (sym c.as_slice-times.ensures)))
    c.in-Err-NoMemory.ensures.err

pub run-requires-clause-order : goal.run-requires-clause-order
run-requires-clause-order g c =
    subst (λ (senses : List Sense). AreInOrder senses) (sym c.as_slice-senses.ensures)
    (in_order c.args.bundle.now c.args.scenario.now c.requires.plain c.requires.lawful)

pub begin-requires-clause-codes : goal.begin-requires-clause-codes
begin-requires-clause-codes g c = plain_checked c.args.bundle.now c.requires.plain

pub begin-requires-clause-lasting : goal.begin-requires-clause-lasting
begin-requires-clause-lasting g c =
    subst (λ (times : List TaskTimes). AreLasting times) (sym c.as_slice-times.ensures)
    (lasting (bundle_names c.args.bundle.now) c.args.scenario.now.times c.requires.lawful.times)
