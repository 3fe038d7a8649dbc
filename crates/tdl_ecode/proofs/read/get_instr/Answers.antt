use Rattle.std.proofs.Common.{sym, ◌∙◌, arith}
use Rattle.tdl_ecode.proofs.Readings.{reading_begins, reading_only}
use Rattle.tdl_ecode.proofs.Unfinished.{short_is, short_from, unknown_is, unknown_from}
use Rattle.tdl_ecode.proofs.read.get_instr.Goals as goal

pub returns-clause-begins : goal.returns-clause-begins
returns-clause-begins c = rw c.read.ensures (reading_begins c.args.bytes.now (λ k. omega (arith, c.type_inv.bytes k)))

pub returns-clause-only : goal.returns-clause-only
returns-clause-only c = λ i begins. c.read.ensures ∙ reading_only c.args.bytes.now i begins

pub returns-clause-short : goal.returns-clause-short
returns-clause-short c = (
  λ e. short_is c.args.bytes.now (λ k. omega (arith, c.type_inv.bytes k)) (sym c.read.ensures ∙ e),
  λ u. c.read.ensures ∙ short_from c.args.bytes.now u,
)

pub returns-clause-unknown : goal.returns-clause-unknown
returns-clause-unknown c =
    (λ e. unknown_is c.args.bytes.now (sym c.read.ensures ∙ e), λ u. c.read.ensures ∙ unknown_from c.args.bytes.now u)
