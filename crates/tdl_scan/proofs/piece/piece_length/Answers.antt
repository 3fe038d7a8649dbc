use Rattle.std.proofs.Common.{rules}
use Rattle.tdl_scan.proofs.Pieces.{blank_some, comment_some, token_piece}
use Rattle.tdl_scan.proofs.piece.piece_length.Goals as goal

pub returns-then-opens_blank : goal.returns-then-opens_blank
returns-then-opens_blank c = blank_some c.args.bytes.now (search rules)

pub returns-then-opens_comment : goal.returns-then-opens_comment
returns-then-opens_comment c =
    comment_some c.args.bytes.now c.line_run.result (search rules) c.line_run.ensures

pub returns : goal.returns
returns c =
    token_piece c.args.bytes.now c.token_length.result (search rules) (search rules) c.token_length.ensures
