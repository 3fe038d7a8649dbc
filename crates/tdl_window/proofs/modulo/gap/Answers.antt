use Rattle.std.proofs.Common.{◌<◌, ◌≤◌, ◌%◌, refl, arith}
use Rattle.tdl_window.proofs.Residues.{gap-level, gap-level_least, gap-round, gap-round_least}
use Rattle.tdl_window.proofs.modulo.gap.Goals as goal

pub returns-then-before-after : goal.returns-then-before-after
returns-then-before-after c =
    let d = c.args.d in
    let some : 0 < d = omega arith in
    let le : c.args.from % d ≤ c.args.to % d = omega arith in (
      gap-level d c.args.from c.args.to _ some refl le,
      λ h there. gap-level_least d c.args.from c.args.to _ h some refl le there,
    )

pub returns-else-before-after : goal.returns-else-before-after
returns-else-before-after c =
    let d = c.args.d in
    let some : 0 < d = omega arith in
    let above : c.args.to % d < c.args.from % d = omega arith in (
      gap-round d c.args.from c.args.to _ some refl,
      λ h there. gap-round_least d c.args.from c.args.to _ h some refl above there,
    )
