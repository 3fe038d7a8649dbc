-- An activity that invokes nothing cuts nothing.
use Rattle.std.proofs.Common.{ℕ, ◌&&◌, nat_lt, sym, ap, ◌∙◌}
use Rattle.std.specs.List.{list_any}
use Rattle.tdl_tree.specs.declared.activities.ActKind.{ActKind}
use Rattle.tdl_rules.specs.ModeRules.{cuts, task_lets}
use Rattle.tdl_rules.specs.Times.{time_us, Let}
use Rattle.tdl_slots.specs.Choices.{offsets_in}
use Rattle.tdl_occurs.proofs.Pairs.{meets-none}
use Rattle.tdl_occurs.proofs.cuts.is_cut_by.Goals as goal

pub returns-in-Update : goal.returns-in-Update
returns-in-Update c =
    sym (ap (λ (what : ActKind). list_any (cuts (task_lets (time_us c.args.period.now) c.args.act.now what)) (offsets_in c.args.switched.now))
    c.in-Update.is ∙ meets-none (λ (span : Let) (t : ℕ). nat_lt span.s t && nat_lt t span.e) (offsets_in c.args.switched.now))

pub returns-in-Switch : goal.returns-in-Switch
returns-in-Switch c =
    sym (ap (λ (what : ActKind). list_any (cuts (task_lets (time_us c.args.period.now) c.args.act.now what)) (offsets_in c.args.switched.now))
    c.in-Switch.is ∙ meets-none (λ (span : Let) (t : ℕ). nat_lt span.s t && nat_lt t span.e) (offsets_in c.args.switched.now))
