use Rattle.std.proofs.Common.{ap, ◌∙◌}
use Rattle.tdl_base.specs.Lists.{first_of}
use Rattle.tdl_window.specs.Broken.{lasts_no_time, is_untimely}
use Rattle.tdl_window.specs.Faults.{windows_breaking, told}
use Rattle.tdl_window.proofs.FirstPlaces.{in_second}
use Rattle.tdl_window.proofs.testing.window_fault.Goals as goal

pub returns : goal.returns
returns c =
    let program = c.args.program.now in
    let schedule = c.args.schedule.now in
    in_second (told 2 (windows_breaking lasts_no_time schedule.windows))
    (told 3 (windows_breaking (is_untimely program schedule) schedule.windows)) c.told.result c.told-2.result
    (c.told.ensures _
    (c.first_window.ensures ∙ ap (λ ws. first_of (windows_breaking lasts_no_time ws)) c.as_slice-windows.ensures))
    c.in_default.is
    (c.told-2.ensures _
    (c.first_window-2.ensures
    ∙ ap (λ ws. first_of (windows_breaking (is_untimely program (record { windows = ws })) ws))
    c.as_slice-windows.ensures))
