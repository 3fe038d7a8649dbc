-- The result is what the cast of the low bits gave, since both casts back are to wider types.
use Rattle.std.proofs.Common.{rules, ◌%◌, w64, FitsSigned, to_z, to_z-of_z, ◌∙◌, ap}
use Rattle.std.specs.Int.{w8}
use Rattle.tdl_base.proofs.LowBits.{low_byte_is}
use Rattle.tdl_base.proofs.kinds.low_byte.Goals as goal

pub returns : goal.returns
returns c =
    let given = c.ranges.v in
    let low : FitsSigned w8 c.cast_signed.result = search rules in
    let wide : FitsSigned w64 c.from.result = search rules in
    let bits = simp to_z-of_z at c.cast_unsigned.ensures in
    let widened = simp to_z-of_z at c.from.ensures in
    to_z-of_z wide ∙ widened ∙ c.cast_signed.ensures ∙ ap (λ n. to_z w8 (n % 256)) bits
    ∙ low_byte_is c.args.v given
