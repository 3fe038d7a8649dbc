use Rattle.std.proofs.Common.{arith}
use Rattle.tdl_trace.proofs.Texts.{text_of-none}
use Rattle.tdl_io.proofs.Appending.{appends_none}
use Rattle.tdl_trace.proofs.Printing.{on_err, line_put, line_fails}
use Rattle.tdl_trace.proofs.print.print_rows.Goals as goal

pub loop-i-init : goal.loop-i-init
loop-i-init g c = record {
  held = rw (text_of-none c.args.names.now) (appends_none _);
  later = omega arith;
}

pub returns-in_err-put_line-clause-err : goal.returns-in_err-put_line-clause-err
returns-in_err-put_line-clause-err g c =
    on_err c.from_residual.result
    (line_fails c.args.names.now c.args.rows.now c.loop-i.i _ _ _ c.loop-i.invariant.held c.in_err-put_line.ensures.err)

pub loop-i-preserved : goal.loop-i-preserved
loop-i-preserved g c = record {
  held = line_put c.args.names.now c.args.rows.now c.loop-i.i (g.O.Sink.told c.args.out.now).contents
      (g.O.Sink.told c.loop-i.out).contents (g.O.Sink.told c.put_line.new.out).contents c.loop-i.invariant.held
      c.in_ok-put_line.ensures.ok;
  later = omega (arith, c.loop-i.invariant.later, c.put_line.ensures.later);
}
