use Rattle.std.proofs.Common.{sym, ◌∙◌}
use Rattle.tdl_scan.proofs.Values.{number_after}
use Rattle.tdl_scan.proofs.bytes.is_number.Goals as goal

pub returns-then-is_digit : goal.returns-then-is_digit
returns-then-is_digit c =
    c.are_digits.ensures ∙ number_after c.args.text.now (sym c.is_digit.ensures ∙ c.if-is_digit.true)
