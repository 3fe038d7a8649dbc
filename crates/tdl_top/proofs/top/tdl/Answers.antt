use Rattle.tdl_report.specs.declared.status.Status.TheVariants.{Ok}
use Rattle.tdl_words.specs.declared.words.Call.TheVariants.{Compile, Run, Exec}
use Rattle.tdl_words.specs.Words.{texts, call_in}
use Rattle.tdl_report.specs.Calls.{files_call, sink_call}
use Rattle.tdl_top.proofs.Reported.{says_at, says_usage}
use Rattle.tdl_top.proofs.Once.{says_exactly}
use Rattle.tdl_top.proofs.Done as done
use Rattle.tdl_top.proofs.top.tdl.Goals as goal

pub returns-clause-compiles : goal.returns-clause-compiles
returns-clause-compiles g c = λ n w e called. done.compiles
    (files_call g.F.Files.told c.args.files.now c.answer.new.files)
    (texts c.args.words.now)
    (sink_call g.O.Sink.told c.args.out.now c.answer.new.out) n w (says_at
    (files_call g.F.Files.told c.args.files.now c.answer.new.files)
    (texts c.args.words.now)
    (sink_call g.O.Sink.told c.args.out.now c.answer.new.out) (call_in (texts c.args.words.now)) c.answer.result Ok
    (Compile n w) called e c.answer.ensures.says)

pub returns-clause-runs : goal.returns-clause-runs
returns-clause-runs g c = λ n w v e called. done.runs
    (files_call g.F.Files.told c.args.files.now c.answer.new.files)
    (texts c.args.words.now)
    (sink_call g.O.Sink.told c.args.out.now c.answer.new.out) n w v (says_at
    (files_call g.F.Files.told c.args.files.now c.answer.new.files)
    (texts c.args.words.now)
    (sink_call g.O.Sink.told c.args.out.now c.answer.new.out) (call_in (texts c.args.words.now)) c.answer.result Ok
    (Run n w v) called e c.answer.ensures.says)

pub returns-clause-executes : goal.returns-clause-executes
returns-clause-executes g c = λ v e called. done.executes
    (files_call g.F.Files.told c.args.files.now c.answer.new.files)
    (texts c.args.words.now)
    (sink_call g.O.Sink.told c.args.out.now c.answer.new.out) v (says_at
    (files_call g.F.Files.told c.args.files.now c.answer.new.files)
    (texts c.args.words.now)
    (sink_call g.O.Sink.told c.args.out.now c.answer.new.out) (call_in (texts c.args.words.now)) c.answer.result Ok
    (Exec v) called e c.answer.ensures.says)

pub returns-clause-usage : goal.returns-clause-usage
returns-clause-usage g c = says_usage
    (files_call g.F.Files.told c.args.files.now c.answer.new.files)
    (texts c.args.words.now)
    (sink_call g.O.Sink.told c.args.out.now c.answer.new.out) (call_in (texts c.args.words.now)) c.answer.result
    c.answer.ensures.says

pub returns-clause-exactly : goal.returns-clause-exactly
returns-clause-exactly g c = λ held status told due. says_exactly
    (files_call g.F.Files.told c.args.files.now c.answer.new.files)
    (texts c.args.words.now)
    (sink_call g.O.Sink.told c.args.out.now c.answer.new.out) held told (call_in (texts c.args.words.now))
    c.answer.result status c.answer.ensures.says due
