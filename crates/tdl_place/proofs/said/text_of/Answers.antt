use Rattle.tdl_place.proofs.Identifiers.{identifier_utf8, decoded}
use Rattle.tdl_place.proofs.said.text_of.Goals as goal

pub unwrap-text-requires : goal.unwrap-text-requires
unwrap-text-requires c =
    decoded _ _ c.from_utf8.result c.args.name.now (identifier_utf8 c.args.name.now c.requires)
    c.from_utf8.ensures.cases
