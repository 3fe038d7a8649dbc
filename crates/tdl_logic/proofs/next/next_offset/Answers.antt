use Rattle.std.proofs.Common.{List, map, ap, ap₂, ◌∙◌}
use Rattle.tdl_mode.specs.declared.program.Invocation.{Invocation}
use Rattle.tdl_mode.specs.declared.program.Update.{Update}
use Rattle.tdl_mode.specs.declared.program.Switch.{Switch}
use Rattle.tdl_mode.specs.Offsets.{least_above}
use Rattle.tdl_logic.proofs.Nexts.{next-by_lists}
use Rattle.tdl_logic.proofs.next.next_offset.Goals as goal

pub returns : goal.returns
returns c =
    let o = c.args.above in
    c.least_switch.ensures
    ∙ ap₂ (λ (ss : List Switch) best. least_above o (map (λ s. s.at.0) ss) best) c.as_slice-4.ensures
    (c.least_update-update.ensures
    ∙ ap₂ (λ (us : List Update) best. least_above o (map (λ u. u.at.0) us) best) c.as_slice-3.ensures
    (c.least_end-end.ensures
    ∙ ap₂ (λ (is : List Invocation) best. least_above o (map (λ i. i.e.0) is) best) c.as_slice-2.ensures
    (c.least_start-start.ensures
    ∙ ap (λ (is : List Invocation). least_above o (map (λ i. i.s.0) is) c.args.mode.now.period.0) c.as_slice.ensures)))
    ∙ next-by_lists c.args.mode.now o
