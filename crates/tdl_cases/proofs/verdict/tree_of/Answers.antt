use Rattle.std.proofs.Common.{List, subst, sym}
use Rattle.tdl_scan.specs.declared.token.Token.{Token}
use Rattle.tdl_scan.specs.Tokens.{IsTokensOf}
use Rattle.tdl_size.proofs.Identifiers.{tree_sized}
use Rattle.tdl_cases.proofs.verdict.tree_of.Goals as goal

pub returns-in-Ok-parse : goal.returns-in-Ok-parse
returns-in-Ok-parse c =
    tree_sized c.as_bytes-bytes.result.now c.deref.result.now c.in-Ok-parse.tree
    (subst (λ (tokens : List Token). IsTokensOf tokens c.as_bytes-bytes.result.now) (sym c.deref.ensures.value)
    c.in-Ok.ensures.tokens)
    c.in-Ok-parse.ensures.tree
