use Rattle.std.proofs.Common.{IsUtf8, sym, subst}
use Rattle.tdl_scan.specs.Tokens.{text_of}
use Rattle.tdl_parse.proofs.Spelling.{kind_utf8, decoded}
use Rattle.tdl_parse.proofs.words.word_of.Goals as goal

pub unwrap-text-requires : goal.unwrap-text-requires
unwrap-text-requires c =
    decoded _ _ c.from_utf8.result c.text-text.result.now
    (subst IsUtf8 (sym c.text-text.ensures)
    (kind_utf8 c.args.token.now.kind (text_of c.args.source.now c.args.token.now) c.requires.kind))
    c.from_utf8.ensures.cases
