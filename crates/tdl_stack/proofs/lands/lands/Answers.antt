use Rattle.std.proofs.Common.{length, sym, ◌∙◌, ap, arith, leb-true}
use Rattle.tdl_stack.proofs.Landing.{length-empties, lands-nested, lands-around, lands-empty, looks-land}
use Rattle.tdl_stack.proofs.lands.lands.Goals as goal

pub returns-then-not-reaches : goal.returns-then-not-reaches
returns-then-not-reaches c = (
  λ t. absurd (cc t),
  λ lands. absurd (cc (
    c.if-not-reaches.true,
    c.reaches.ensures,
    lands-nested c.args.code.now c.args.bodies.now c.args.empty.now c.args.place c.args.n c.requires.tables
        c.requires.within lands,
  )),
)

pub bounds-empty-to : goal.bounds-empty-to
bounds-empty-to c =
    omega (arith, c.requires.within, ap length c.requires.tables.empty_is, length-empties 0 c.args.code.now)

pub returns-then-bodies-to : goal.returns-then-bodies-to
returns-then-bodies-to c = (
  λ t. looks-land c.args.code.now c.args.bodies.now c.args.empty.now c.args.place c.args.n c.requires.tables
      c.requires.within (sym c.reaches.ensures ∙ c.if-not-reaches.false) c.if-bodies-to.true t,
  λ lands. lands-empty c.args.code.now c.args.bodies.now c.args.empty.now c.args.place c.args.n c.requires.tables
      c.requires.within lands,
)

pub returns-else-bodies-to : goal.returns-else-bodies-to
returns-else-bodies-to c = (
  λ t. absurd (omega (arith, c.if-bodies-to.false, leb-true _ _ t)),
  λ lands. absurd (omega (
    arith,
    c.if-bodies-to.false,
    lands-around c.args.code.now c.args.bodies.now c.args.empty.now c.args.place c.args.n c.requires.tables
        c.requires.within lands,
  )),
)
