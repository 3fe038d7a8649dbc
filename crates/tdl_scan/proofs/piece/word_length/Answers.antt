use Rattle.std.proofs.Common.{arith}
use Rattle.tdl_scan.proofs.Cutting.{word_some, word_none}
use Rattle.tdl_scan.proofs.piece.word_length.Goals as goal

pub returns-then-length-gt-IDENTIFIER_BYTES : goal.returns-then-length-gt-IDENTIFIER_BYTES
returns-then-length-gt-IDENTIFIER_BYTES c = word_none c.args.bytes.now c.requires (omega arith)

pub returns : goal.returns
returns c =
    word_some c.args.bytes.now c.identifier_run-length.result c.requires c.identifier_run-length.ensures (omega arith)
