-- Rule by rule.
use Rattle.std.proofs.Common.{◌++◌, []}
use Rattle.tdl_lines.specs.Faults.{fault_if}
use Rattle.tdl_scenario.specs.Rules.{seen_in, breaks_form, is_unknown, breaks_time, breaks_kind, breaks_worst, breaks_limit, breaks_order, breaks_bind}
use Rattle.tdl_scenario.proofs.Noting.{unnoted, noted}
use Rattle.tdl_scenario.proofs.rules.note_line.Goals as goal

pub returns : goal.returns
returns c =
    let best = c.args.best.now in
    let s = seen_in c.args.seen.now in
    let e = c.args.said.now.what in
    let l = c.args.said.now.line in
    let n = c.args.nodes in
    let one = fault_if (breaks_form s e) l 1 in
    let two = one ++ fault_if (is_unknown e) l 2 in
    let three = two ++ fault_if (breaks_time s e) l 3 in
    let four = three ++ fault_if (breaks_kind e) l 4 in
    let five = four ++ fault_if (breaks_worst e) l 5 in
    let six = five ++ fault_if (breaks_limit e) l 6 in
    let seven = six ++ fault_if (breaks_order n e) l 7 in
    noted best c.note_if-7.new.best c.note_if-8.new.best seven c.breaks_bind.result (breaks_bind s e) l 8
    (noted best c.note_if-6.new.best c.note_if-7.new.best six c.breaks_order.result (breaks_order n e) l 7
    (noted best c.note_if-5.new.best c.note_if-6.new.best five c.breaks_limit.result (breaks_limit e) l 6
    (noted best c.note_if-4.new.best c.note_if-5.new.best four c.breaks_worst.result (breaks_worst e) l 5
    (noted best c.note_if-3.new.best c.note_if-4.new.best three c.breaks_kind.result (breaks_kind e) l 4
    (noted best c.note_if-2.new.best c.note_if-3.new.best two c.breaks_time.result (breaks_time s e) l 3
    (noted best c.note_if.new.best c.note_if-2.new.best one c.is_unknown.result (is_unknown e) l 2
    (noted best best c.note_if.new.best [] c.breaks_form.result (breaks_form s e) l 1
    (unnoted best) c.note_if.ensures c.breaks_form.ensures)
    c.note_if-2.ensures c.is_unknown.ensures)
    c.note_if-3.ensures c.breaks_time.ensures)
    c.note_if-4.ensures c.breaks_kind.ensures)
    c.note_if-5.ensures c.breaks_worst.ensures)
    c.note_if-6.ensures c.breaks_limit.ensures)
    c.note_if-7.ensures c.breaks_order.ensures)
    c.note_if-8.ensures c.breaks_bind.ensures
