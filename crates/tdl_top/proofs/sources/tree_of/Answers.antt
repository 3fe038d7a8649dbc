use Rattle.std.proofs.Common.{ap, refl, Err}
use Rattle.tdl_top.proofs.sources.tree_of.Goals as goal

pub returns-in-Err-BadSyntax-clause-refused : goal.returns-in-Err-BadSyntax-clause-refused
returns-in-Err-BadSyntax-clause-refused c = (
  refl,
  record {
    tokens = c.args.tokens.now;
    scanned = c.requires.scanned;
    fault = c.in-Err-BadSyntax.ensures.fault c.in-Err-BadSyntax.line c.in-Err-BadSyntax.col
        (ap Err c.in-Err-BadSyntax.field-0-is);
  },
)
