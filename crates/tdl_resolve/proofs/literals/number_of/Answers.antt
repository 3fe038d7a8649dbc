-- Bits that are read as a signed number wrap.
use Rattle.std.proofs.Common.{◌≡◌, ℕ, ◌<◌, ◌%◌, rules, ◌∙◌, w64, FitsSigned, ap, arith}
use Rattle.std.specs.Int.{cast_signed, int_wrap}
use Rattle.std.proofs.lemmas.Int.{to_z-of_z}
use Rattle.tdl_program.specs.Literals.{number_of}
use Rattle.tdl_resolve.proofs.literals.number_of.Goals as goal

-- the bits of a number, read as a signed one, are the number wrapped
wrapped-pos : (n : ℕ) → n < 18446744073709551616 → cast_signed w64 n ≡ number_of n
unfolding int_wrap
wrapped-pos n lt =
    let small : n ≡ n % 18446744073709551616 = omega (arith, lt) in
    ap (cast_signed w64) small

pub returns : goal.returns
returns c =
    let fits : FitsSigned w64 c.cast_signed.result = search rules in
    let small : c.args.value < 18446744073709551616 = search rules in
    to_z-of_z w64 c.cast_signed.result fits ∙ c.cast_signed.ensures ∙ wrapped-pos c.args.value small
