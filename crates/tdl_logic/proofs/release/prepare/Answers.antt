use Rattle.std.proofs.Common.{sym, ap, ◌∙◌}
use Rattle.std.specs.Option.{option_copied}
use Rattle.tdl_logic.specs.Looks.{shown}
use Rattle.tdl_logic.specs.Releases.{own_tasks}
use Rattle.tdl_logic.proofs.Releasing.{released-none}
use Rattle.tdl_logic.proofs.release.prepare.Goals as goal

pub returns-in_default-clause-no : goal.returns-in_default-clause-no
returns-in_default-clause-no c n =
    released-none c.args.moment.now (shown c.args.seen.now) n c.args.invocation.now (own_tasks c.args.seen.now)
    (sym c.task.ensures ∙ ap (λ found. option_copied found) c.in_default.is)
