use Rattle.std.proofs.Common.{◌+◌, sym, subst, arith, List}
use Rattle.tdl_scen.specs.declared.entries.Sense.{Sense}
use Rattle.tdl_scen.specs.Senses.{IsUpTo}
use Rattle.tdl_scen.proofs.SensesLemmas.{passes, sensed_at, no_entry}
use Rattle.tdl_scen.proofs.senses.pass.Goals as goal

pub returns-then-at-entry-clause-sensed : goal.returns-then-at-entry-clause-sensed
returns-then-at-entry-clause-sensed c =
    sensed_at c.args.entries.now c.loop-next.latest.items c.loop-next.next c.args.at no_entry c.requires.order
    (λ within. c.if-at-entry.true) c.loop-next.invariant

pub returns-clause-sensed : goal.returns-clause-sensed
returns-clause-sensed c =
    sensed_at c.args.entries.now c.loop-next.latest.items c.loop-next.next c.args.at no_entry c.requires.order
    (λ within. absurd (omega arith)) c.loop-next.invariant

pub loop-next-preserved : goal.loop-next-preserved
loop-next-preserved c =
    subst (λ (xs : List Sense). IsUpTo c.args.entries.now c.args.at
    (record { next = c.loop-next.next + 1; latest = xs }))
    (sym c.in_ok-put.ensures)
    (passes c.args.entries.now c.loop-next.latest.items c.loop-next.next c.args.at no_entry c.loop-next-test.true
    c.if-at-entry.false c.loop-next.invariant)
