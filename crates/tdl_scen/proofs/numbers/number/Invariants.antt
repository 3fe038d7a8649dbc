use Rattle.std.proofs.Common.{◌≡◌, ◌<◌, ◌+◌, ◌-◌, ◌*◌, ◌^◌, drop}
use Rattle.std.specs.Prelude.{fold}
use Rattle.std.specs.List.{list_all}
use Rattle.std.specs.Char.{is_ascii_digit}
use Rattle.tdl_scen.specs.Lines.{value_of_digits}
use Rattle.tdl_scen.proofs.numbers.number.Given as goal

abbrev pub invariant-loop-digit : goal.invariant-loop-digit
invariant-loop-digit l =
    (fold (λ n digit. 10 * n + (digit - 48)) l.value (drop l.digit-index l.word) ≡ value_of_digits l.word)
    × (list_all is_ascii_digit (drop l.digit-index l.word) ≡ list_all is_ascii_digit l.word)
    × (l.value < 10 ^ l.digit-index)
