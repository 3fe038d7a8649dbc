use Rattle.std.proofs.Common.{sym, ◌∙◌}
use Rattle.tdl_decode.proofs.Identifiers.{identifier_utf8, decoded}
use Rattle.tdl_decode.proofs.fields.string.Goals as goal

pub unwrap-name-requires : goal.unwrap-name-requires
unwrap-name-requires c =
    decoded _ _ c.from_utf8.result _
    (identifier_utf8 _ (sym c.is_identifier.ensures ∙ c.if-not-is_identifier.false)) c.from_utf8.ensures.cases
