use Rattle.tdl_window.proofs.Residues.{no-gap, gap-found}
use Rattle.tdl_window.proofs.modulo.has_congruent.Goals as goal

pub returns-in-None : goal.returns-in-None
returns-in-None c =
    no-gap c.args.d c.from.result c.args.offset c.from-2.result c.args.window.now c.from.ensures c.from-2.ensures
    c.in-None.ensures

pub returns-in-Some : goal.returns-in-Some
returns-in-Some c =
    gap-found c.args.d c.from.result c.args.offset c.from-2.result c.in-Some.gap c.from-in-Some.result c.args.window.now
    c.from.ensures c.from-2.ensures c.from-in-Some.ensures c.in-Some.ensures
