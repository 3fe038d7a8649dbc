-- The values that a kind has.
use Rattle.std.specs.Prelude.{ℤ, pos, neg_ℤ, ◌&&◌, int_le, Option, Some, None, if◌then◌else◌}
use Rattle.tdl_base.specs.declared.kinds.Kind.{Kind}
use Rattle.tdl_base.specs.declared.kinds.Kind.TheVariants.{Boolean, Byte, Short, Int, Long}

-- the least and the greatest: a boolean is 0 or 1, and the others are signed numbers of their bits
abbrev pub range_of : Kind → ℤ × ℤ
range_of Boolean = (pos 0, pos 1)
range_of Byte = (neg_ℤ (pos 128), pos 127)
range_of Short = (neg_ℤ (pos 32768), pos 32767)
range_of Int = (neg_ℤ (pos 2147483648), pos 2147483647)
range_of Long = (neg_ℤ (pos 9223372036854775808), pos 9223372036854775807)

-- a value, where the kind has it
abbrev pub value_in : Kind → ℤ → Option ℤ
value_in kind v = if int_le (range_of kind).0 v && int_le v (range_of kind).1 then Some v else None
