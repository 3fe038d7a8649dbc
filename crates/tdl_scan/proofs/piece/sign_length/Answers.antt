use Rattle.std.proofs.Common.{rules}
use Rattle.tdl_scan.proofs.Cutting.{sign_two, sign_one, sign_none}
use Rattle.tdl_scan.proofs.piece.sign_length.Goals as goal

pub returns-then-begins_sign : goal.returns-then-begins_sign
returns-then-begins_sign c =
    sign_two c.args.bytes.now (record { no_letter = c.requires.no_letter; no_digit = c.requires.no_digit })
    (search rules)

pub returns-then-begins_sign-2 : goal.returns-then-begins_sign-2
returns-then-begins_sign-2 c =
    sign_one c.args.bytes.now (record { no_letter = c.requires.no_letter; no_digit = c.requires.no_digit })
    (search rules) (search rules)

pub returns : goal.returns
returns c =
    sign_none c.args.bytes.now (record { no_letter = c.requires.no_letter; no_digit = c.requires.no_digit })
    (search rules) (search rules)
