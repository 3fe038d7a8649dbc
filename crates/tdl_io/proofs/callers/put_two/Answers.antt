use Rattle.tdl_io.proofs.OutsideLemmas.{appends_then_part}
use Rattle.tdl_io.proofs.callers.put_two.Goals as goal

pub returns-in-Err-clause-err : goal.returns-in-Err-clause-err
returns-in-Err-clause-err g c =
    appends_then_part (g.S.Sink.told c.args.sink.now).contents (g.S.Sink.told c.put.new.self).contents
    (g.S.Sink.told c.put-2.new.self).contents c.args.first.now c.args.second.now c.in_ok-put.ensures.ok
    c.in-Err.ensures.err
