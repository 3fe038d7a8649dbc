use Rattle.tdl_sched.specs.ScheduleRules.{breaks_form, is_unknown}
use Rattle.tdl_sched.proofs.Noting.{two_rules}
use Rattle.tdl_sched.proofs.rules.note_line.Goals as goal

pub returns : goal.returns
returns c =
    two_rules c.args.best.now c.note_if.new.best c.note_if-2.new.best c.breaks_form.result c.is_unknown.result
    (breaks_form c.args.before c.args.said.now.what) (is_unknown c.args.said.now.what) c.args.said.now.line
    c.note_if.ensures c.note_if-2.ensures c.breaks_form.ensures c.is_unknown.ensures
