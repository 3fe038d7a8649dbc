-- One more activity, and the end of them.
use Rattle.std.proofs.Common.{ℕ, ◌&&◌, nat_lt}
use Rattle.std.specs.List.{list_any}
use Rattle.tdl_tree.specs.declared.activities.Act.{Act}
use Rattle.tdl_rules.specs.ModeRules.{cuts, mode_lets, task_lets}
use Rattle.tdl_rules.specs.Times.{time_us, Let}
use Rattle.tdl_slots.specs.Choices.{offsets_in}
use Rattle.tdl_occurs.proofs.Pairs.{met, not_met, none_met}
use Rattle.tdl_occurs.proofs.cuts.is_cut.Goals as goal

pub returns-then-is_cut_by : goal.returns-then-is_cut_by
returns-then-is_cut_by c =
    let period = time_us c.args.period.now in
    met (λ (span : Let) (t : ℕ). nat_lt span.s t && nat_lt t span.e) (λ (act : Act). task_lets period act act.what) c.args.acts.now
    c.loop-act.act-index c.act-item.result (offsets_in c.args.switched.now)
    (list_any (cuts (mode_lets period c.args.acts.now)) (offsets_in c.args.switched.now)) c.loop-act-test.true c.act-item.is
    c.loop-act.invariant c.if-is_cut_by.ensures

pub loop-act-preserved : goal.loop-act-preserved
loop-act-preserved c =
    let period = time_us c.args.period.now in
    not_met (λ (span : Let) (t : ℕ). nat_lt span.s t && nat_lt t span.e) (λ (act : Act). task_lets period act act.what) c.args.acts.now
    c.loop-act.act-index c.act-item.result (offsets_in c.args.switched.now)
    (list_any (cuts (mode_lets period c.args.acts.now)) (offsets_in c.args.switched.now)) c.loop-act-test.true c.act-item.is
    c.loop-act.invariant c.if-is_cut_by.ensures

pub returns : goal.returns
returns c =
    let period = time_us c.args.period.now in
    none_met (λ (span : Let) (t : ℕ). nat_lt span.s t && nat_lt t span.e) (λ (act : Act). task_lets period act act.what) c.args.acts.now
    c.loop-act.act-index (offsets_in c.args.switched.now)
    (list_any (cuts (mode_lets period c.args.acts.now)) (offsets_in c.args.switched.now)) c.loop-act-test.false c.loop-act.invariant
