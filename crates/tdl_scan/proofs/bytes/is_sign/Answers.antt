use Rattle.std.proofs.Common.{sym, arith}
use Rattle.std.proofs.lemmas.Bool.{false_from_ne_true}
use Rattle.tdl_scan.specs.Lexemes.{is_sign}
use Rattle.tdl_scan.proofs.Lexemes.{sign_some, sign_short}
use Rattle.tdl_scan.proofs.bytes.is_sign.Goals as goal

pub returns-in_default : goal.returns-in_default
returns-in_default c =
    sym (false_from_ne_true (is_sign c.args.text.now) (λ h. omega (arith, sign_some c.args.text.now h)))

pub returns-in_default-2 : goal.returns-in_default-2
returns-in_default-2 c =
    sym (false_from_ne_true (is_sign c.args.text.now) (λ h. omega (arith, sign_short c.args.text.now h)))
