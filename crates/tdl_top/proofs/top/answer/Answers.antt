use Rattle.std.proofs.Common.{rules, ℕ}
use Rattle.std.specs.Prelude.{◌≢◌}
use Rattle.tdl_report.specs.declared.status.Status.TheVariants.{SaveFailed}
use Rattle.tdl_words.specs.Words.{texts, call_in}
use Rattle.tdl_report.specs.Calls.{files_call, sink_call}
use Rattle.tdl_top.proofs.Reported.{says_reported, quiet_said, reported_not_ok}
use Rattle.tdl_top.proofs.top.answer.Goals as goal

pub returns-in-Err : goal.returns-in-Err
returns-in-Err g c =
    let save : (w : ℕ) → c.in-Err.status ≢ SaveFailed w = search rules in
    record {
      says = says_reported
          (files_call g.F.Files.told c.args.files.now c.perform.new.files)
          (texts c.args.words.now)
          (sink_call g.O.Sink.told c.args.out.now c.perform.new.out)
          (call_in (texts c.args.words.now)) c.in-Err.status c.report.result c.in-Err.ensures.not_ok save
          c.report.ensures.kept c.report.ensures.usage c.in-Err.ensures.refused;
      line = λ ok. quiet_said (texts c.args.words.now) c.in-Err.status (g.E.Sink.told c.args.err.now)
          (g.E.Sink.told c.perform.new.err) (g.E.Sink.told c.report.new.err) _ save c.in-Err.ensures.told
          c.report.ensures.said;
      quiet = λ e. absurd
          (reported_not_ok c.in-Err.status c.report.result c.in-Err.ensures.not_ok c.report.ensures.kept e);
    }
